-- Each pool of the group that is not left reaches none outside, and those that are left are of the group.
use Rattle.std.proofs.Common.{◌≡◌, ℕ, ◌<◌, true, false}
use Rattle.std.specs.Int.{bit_at}
use Rattle.wire_frame.specs.Bits.{has_bit}
use Rattle.pool_filter.specs.Reach.{may_reach}
use Rattle.pool_filter.proofs.tables.Tables.keeps_apart.Given as goal

abbrev pub invariant-loop-sender : goal.invariant-loop-sender
invariant-loop-sender l = record {
  of_group : (q : ℕ) → bit_at l.sender-iterator q ≡ 1 → has_bit l.group q ≡ true;
  within : (q r : ℕ) → r < 64 → bit_at l.sender-iterator q ≡ 0 → has_bit l.group q ≡ true → has_bit l.group r ≡ false → may_reach l.self q r ≡ false;
}
