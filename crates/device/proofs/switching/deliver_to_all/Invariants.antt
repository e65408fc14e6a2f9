-- At a pool that is left nothing has changed yet; elsewhere each function got the frame where its pool was in the set.
use Rattle.std.proofs.Common.{◌≡◌, ◌<◌, ◌≤◌, ℕ, get_or, length, true}
use Rattle.std.specs.Int.{bit_at}
use Rattle.wire_frame.specs.Bits.{has_bit}
use Rattle.device.specs.Units.{nobody, Offers}
use Rattle.device.proofs.switching.deliver_to_all.Given as goal

abbrev pub invariant-loop-pool : goal.invariant-loop-pool
invariant-loop-pool g l = record {
  few : length l.units ≤ 64;
  raised_length : length l.raised ≡ 64;
  same_length : length l.units ≡ length l.fn.units;
  set : (k : ℕ) → bit_at l.pool-iterator k ≡ 1 → has_bit l.fn.pools k ≡ true;
  left : (k : ℕ) → bit_at l.pool-iterator k ≡ 1 → get_or l.units k nobody ≡ get_or l.fn.units k nobody;
  silent : (k : ℕ) → bit_at l.pool-iterator k ≡ 1 → get_or l.raised k 0 ≡ 0;
  none : (k : ℕ) → length l.fn.units ≤ k → get_or l.raised k 0 ≡ 0;
  done : (k : ℕ) → k < length l.fn.units → bit_at l.pool-iterator k ≡ 0 →
      Offers g.D.Dma.shared (has_bit l.fn.pools k) l.loopback l.frame.bytes.now (get_or l.fn.units k nobody) (get_or l.units k nobody) (get_or l.raised k 0);
}
