-- The payload of a segment begins in the frame.
use Rattle.std.proofs.Common.{◌≡◌, ℕ, ◌+◌, ◌-◌, ◌*◌, ◌≤◌, ap, ◌∙◌, arith}
use Rattle.std.proofs.Math.Dec.{ltb}
use Rattle.std.proofs.Math.Nat.{mul-le-mul_right}
use Rattle.offload.specs.Context.{payload_at}
use Rattle.offload.proofs.Pieces.{has_piece}
use Rattle.offload.proofs.cut.has.Goals as goal

pub overflow_mul-result : goal.overflow_mul-result
overflow_mul-result c =
    let least : c.args.number ≤ 18446744073709551615 = omega arith in
    omega (arith, mul-le-mul_right c.from-mss.result least)

pub returns : goal.returns
returns c =
    ap (λ (headers : ℕ). ltb (c.args.number * c.from-mss.result) (c.args.size - headers)) c.payload_at.ensures
    ∙ ap (λ (mss : ℕ). ltb (c.args.number * mss) (c.args.size - payload_at c.args.context.now)) c.from-mss.ensures
    ∙ has_piece c.args.context.now c.args.size c.args.number c.requires.payload c.requires.mss
