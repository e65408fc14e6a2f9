-- A set of the vectors 0 to 2 stays one where a vector or another set joins, and where some leave; and has none that left.
use Rattle.std.proofs.Common.{arith, ◌≡◌, ℕ, zero, suc, ◌*◌, ◌%◌, ◌^◌, ◌<◌, false, eqb, ap}
use Rattle.std.specs.Prelude.{bit_and, bit_or}
use Rattle.std.specs.Int.{w8}
use Rattle.std.proofs.lemmas.Nat.{or_lt, and_le_l}
use Rattle.std.proofs.lemmas.Nat.Bits.{bit_at_clear_same}
use Rattle.wire_frame.specs.Bits.{has_bit}
use Rattle.irq_causes.specs.Causes.{◌without◌}

pub or_below_eight : (a b : ℕ) → a < 8 → b < 8 → bit_or a b < 8
or_below_eight = or_lt 3

pub and_below_eight : (a b : ℕ) → a < 8 → bit_and a b < 8
and_below_eight a b h = omega (arith, and_le_l a b, h)

-- the set of one vector
pub one_vector : (v : ℕ) → v < 3 → 1 * 2 ^ v % 256 < 8
one_vector zero h = omega arith
one_vector (suc zero) h = omega arith
one_vector (suc (suc zero)) h = omega arith
one_vector (suc (suc (suc v))) h = absurd (omega arith)

-- a vector that was left out is not in the set
pub has_bit_left_out : (a v : ℕ) → v < 3 → has_bit (a without 2 ^ v) v ≡ false
unfolding has_bit
has_bit_left_out a zero h = ap (λ bit. eqb bit 1) (bit_at_clear_same w8 a 0 (omega arith))
has_bit_left_out a (suc zero) h = ap (λ bit. eqb bit 1) (bit_at_clear_same w8 a 1 (omega arith))
has_bit_left_out a (suc (suc zero)) h = ap (λ bit. eqb bit 1) (bit_at_clear_same w8 a 2 (omega arith))
has_bit_left_out a (suc (suc (suc v))) h = absurd (omega arith)
