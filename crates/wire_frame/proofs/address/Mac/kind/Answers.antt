-- An address without the group bit is even as a number, which six bytes 0xFF are not.
use Rattle.std.proofs.Common.{◌≡◌, ◌%◌, ◌==◌, false, slice_index, arith, refl, sym, ap, ◌∙◌}
use Rattle.std.proofs.lemmas.Bool.Decides.{nat_tests}
use Rattle.byteorder.specs.Endian.{little_number}
use Rattle.wire_frame.specs.Bits.{has_bit}
use Rattle.wire_frame.proofs.address.Mac.kind.Goals as goal

pub returns-then-not-has_bit : goal.returns-then-not-has_bit
unfolding has_bit
returns-then-not-has_bit c =
    let first : c.from.result ≡ slice_index c.args.self.0 0 = c.from.ensures in
    let even : slice_index c.args.self.0 0 % 2 ≡ 0 = grind (arith, nat_tests, first, c.if-not-has_bit.ensures) in
    let other : (little_number 6 c.args.self.0 == 281474976710655) ≡ false = grind (arith, nat_tests, even) in
    let no_group : has_bit (slice_index c.args.self.0 0) 0 ≡ false = ap (λ n. has_bit n 0) (sym first) ∙ sym c.if-not-has_bit.ensures in
    rw (other, no_group) refl
