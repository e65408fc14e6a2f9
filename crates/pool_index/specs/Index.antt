-- An index: each key once, with its pools, in the order of the keys.
use Rattle.std.specs.Prelude.{◌≡◌, ℕ, ◌+◌, ◌<◌, ◌≤◌, ◌==◌, List, [], ◌∷◌, Option, Some, None, length, slice_index_or, if◌then◌else◌}
use Rattle.std.specs.Bool.{⊤}
use Rattle.std.specs.Option.{unwrap_or}
use Rattle.pool_index.specs.declared.index.Entry.{Entry}

-- the pools that are kept with a key, as a mask, if the key is kept
unfoldable pub kept_pools : List Entry → ℕ → Option ℕ
kept_pools [] key = None
kept_pools (k ∷ ks) key = if k.key == key then Some k.pools else kept_pools ks key

-- the pools of a key, as a mask: 0 where the key is not kept
abbrev pub pools_in : List Entry → ℕ → ℕ
pools_in ks key = unwrap_or (kept_pools ks key) 0

-- the keys strictly rise, the first of them from `low` on
abbrev pub Rises : ℕ → List Entry → Type 0
Rises low [] = ⊤
Rises low (k ∷ ks) = (low ≤ k.key) × Rises (k.key + 1) ks

-- the key stands at place i
abbrev pub IsPlace : List Entry → ℕ → ℕ → Type 0
IsPlace ks key i = (i < length ks) × ((d : Entry) → (slice_index_or ks i d).key ≡ key)

-- the keys before place i are lower, and those from place j on are higher
abbrev pub IsBetween : List Entry → ℕ → ℕ → ℕ → Type 0
IsBetween ks key i j = ((k : ℕ) (d : Entry) → k < i → (slice_index_or ks k d).key < key) × ((k : ℕ) (d : Entry) → j ≤ k → k < length ks → key < (slice_index_or ks k d).key)

-- the key is not kept, and has its place before place i
abbrev pub IsGap : List Entry → ℕ → ℕ → Type 0
IsGap ks key i = (i ≤ length ks) × IsBetween ks key i i
