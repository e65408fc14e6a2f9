-- What a memory answers that changes between two accesses: the bytes that stand there then.
use Rattle.std.proofs.Common.{◌≡◌, ◌≤◌, ◌+◌, ℕ, List, length, slice_range, arith}
use Rattle.live_memory.specs.Ranges.{range_whole}

pub length_standing : (at count : ℕ) (standing known : List ℕ) → length standing ≡ length known → at + count ≤ length known
    → length (slice_range standing at (at + count)) ≡ count
length_standing at count standing known long fits = range_whole at count standing (grind (arith, long, fits))
