-- Tables whose entries hold keys, and an index of such a table.
use Rattle.std.specs.Prelude.{◌≡◌, ℕ, ◌<◌, ◌==◌, Bool, ◌&&◌, List, Option, is_some}
use Rattle.std.specs.List.{list_any, range_with_len}
use Rattle.std.specs.Option.{unwrap_or}
use Rattle.wire_frame.specs.Bits.{has_bit}
use Rattle.pool_index.specs.declared.index.Entry.{Entry}
use Rattle.pool_index.specs.Index.{kept_pools, Rises}

-- what a table says of its entries, by their numbers: which are valid, the key of each, and whether one has a pool
pub record Entries : Type 0 where
  pub is_valid : ℕ → Bool
  pub key : ℕ → ℕ
  pub has_pool : ℕ → ℕ → Bool

-- some valid entry of the first n holds the key
unfoldable pub is_held : ℕ → Entries → ℕ → Bool
is_held n t key = list_any (λ e. t.is_valid e && (t.key e == key)) (range_with_len 0 n)

-- two tables say the same of an entry
pub record SaySame (a b : Entries) (e : ℕ) : Type 0 where
  pub valid : a.is_valid e ≡ b.is_valid e
  pub keys : a.key e ≡ b.key e
  pub pools : (p : ℕ) → a.has_pool p e ≡ b.has_pool p e

-- some valid entry of the first n that has the pool holds the key
unfoldable pub is_given : ℕ → Entries → ℕ → ℕ → Bool
is_given n t pool key = list_any (λ e. (t.is_valid e && t.has_pool pool e) && (t.key e == key)) (range_with_len 0 n)

-- what is found of a key is what the first n entries say of it: no mask where no valid entry holds it, else the mask of the
-- pools to which it is given
abbrev pub IsAnswer : Option ℕ → ℕ → Entries → ℕ → Type 0
IsAnswer found n t key =
    (is_some found ≡ is_held n t key) × ((p : ℕ) → p < 64 → has_bit (unwrap_or found 0) p ≡ is_given n t p key)

-- the index keeps exactly the keys that the first n entries hold, each once, with its pools
abbrev pub IsIndexOf : List Entry → ℕ → Entries → Type 0
IsIndexOf ks n t = Rises 0 ks × ((key : ℕ) → IsAnswer (kept_pools ks key) n t key)
