-- The interrupt messages that the 64 pools got, for each pool a set of its vectors 0 to 2.
-- A set is a number below 8, whose bit v is 1 where vector v is in it.
use Rattle.std.specs.Prelude.{ℕ, ◌+◌, ◌*◌, max, List, map, replicate, slice_index}
use Rattle.std.specs.Int.{bit_at}
use Rattle.std.specs.List.{range_with_len}

-- the set of pool p, of three words, one for each vector, that have bit p where pool p got the vector
abbrev pub mask_at : ℕ → ℕ → ℕ → ℕ → ℕ
mask_at first second third p = bit_at first p + 2 * bit_at second p + 4 * bit_at third p

-- the sets of all pools, in rising order
unfoldable pub masks : ℕ → ℕ → ℕ → List ℕ
masks first second third = map (mask_at first second third) (range_with_len 0 64)

-- the same, of the three words in a list
abbrev pub masks_of : List ℕ → List ℕ
masks_of words = masks (slice_index words 0) (slice_index words 1) (slice_index words 2)

-- no pool got any
unfoldable pub no_messages : List ℕ
no_messages = replicate 64 0

-- the vectors that are in one set or in the other
abbrev pub either : ℕ → ℕ → ℕ
either a b = max (bit_at a 0) (bit_at b 0) + 2 * max (bit_at a 1) (bit_at b 1) + 4 * max (bit_at a 2) (bit_at b 2)

-- the messages of two, pool by pool
unfoldable pub both : List ℕ → List ℕ → List ℕ
both xs ys = map (λ p. either (slice_index xs p) (slice_index ys p)) (range_with_len 0 64)
