-- The blocks that are lent for a device: where they lie, and the memories that they are.
use Rattle.std.specs.Prelude.{◌≡◌, ℕ, ◌+◌, Bool, false, ◌&&◌, nat_lt, List, [], ◌∷◌, ◌++◌, length, map}
use Rattle.std.specs.List.{list_any}
use Rattle.live_memory.specs.Trace.{Access}
use Rattle.mapped_memory.specs.Regions.{Part, Regions}
use Rattle.vfdev_c.specs.declared.lending.BlockSpan.{BlockSpan}

-- from the address on, so many bytes
abbrev pub span : ℕ → ℕ → BlockSpan
span address len = record { address = address; len = len }

-- each begins before the other ends
abbrev pub overlap : BlockSpan → BlockSpan → Bool
overlap s t = nat_lt s.address (t.address + t.len) && nat_lt t.address (s.address + s.len)

abbrev pub overlaps_one : BlockSpan → List BlockSpan → Bool
overlaps_one s all = list_any (λ t. overlap s t) all

-- what was lent, the first block first: the bytes that each had then, and where it lies
pub record Lent : Type 0 where
  pub blocks : List (List ℕ)
  pub spans : List BlockSpan

abbrev pub lent : List (List ℕ) → List BlockSpan → Lent
lent blocks spans = record { blocks = blocks; spans = spans }

abbrev pub none_lent : Lent
none_lent = lent [] []

-- one block more, which begins at the address
abbrev pub one_more : Lent → ℕ → List ℕ → Lent
one_more all address bytes = lent (all.blocks ++ bytes ∷ []) (all.spans ++ span address (length bytes) ∷ [])

-- the bytes of a memory that has one region
abbrev pub block_of_parts : List Part → List ℕ
block_of_parts [] = []
block_of_parts (r ∷ rs) = r.bytes

abbrev pub block_of : Regions → List ℕ
block_of m = block_of_parts m.parts

-- the blocks that memories are, in their order
abbrev pub blocks_of : List Regions → List (List ℕ)
blocks_of ms = map block_of ms

-- no access was made yet to a block
abbrev pub no_access : List ℕ → List Access
no_access block = []

-- a memory is one block: it has all addresses, a device's writes to it are kept, and no access was made to it
unfoldable pub IsBlock : Regions → Type 0
IsBlock m = (m.parts ≡ record { at = 0; bytes = block_of m; is_read_only = false } ∷ []) × (length m.seen ≡ length (block_of m)) × (m.accesses ≡ no_access (block_of m))

-- each memory is one block
unfoldable pub AreBlocks : List Regions → Type 0
AreBlocks [] = Unit {0}
AreBlocks (m ∷ ms) = IsBlock m × AreBlocks ms
