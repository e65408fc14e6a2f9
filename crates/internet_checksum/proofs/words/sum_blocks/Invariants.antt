-- What is left gives the rest of the sum.
use Rattle.std.proofs.Common.{◌≡◌, ℕ, ◌+◌, ◌*◌, ◌≤◌, ◌^◌, length}
use Rattle.internet_checksum.specs.Sum.{word_sum, folded}
use Rattle.internet_checksum.proofs.words.sum_blocks.Given as goal

abbrev pub invariant-loop-rest : goal.invariant-loop-rest
invariant-loop-rest l = record {
  few : 8 * (l.first + l.second + l.third + l.fourth) + 2 ^ 64 * length l.rest ≤ 2 ^ 64 * length l.fn.bytes;
  whole : (n : ℕ) → folded (256 * (l.first + l.second + l.third + l.fourth) + (n + word_sum l.rest)) ≡ folded (n + word_sum l.fn.bytes);
}

abbrev pub decreases-loop-rest : goal.decreases-loop-rest
decreases-loop-rest l = length l.rest
