-- The place lies in the frame.
use Rattle.std.proofs.Common.{◌≡◌, ℕ, ◌*◌, ap, arith}
use Rattle.offload.proofs.Pieces.{piece_inside}
use Rattle.offload.proofs.segment.piece_at.Goals as goal

pub overflow_mul-result : goal.overflow_mul-result
overflow_mul-result c =
    omega (arith, ap (λ (mss : ℕ). c.args.number * mss) c.from.ensures, piece_inside c.args.context.now c.args.size c.args.number c.requires.cut c.requires.number)

pub overflow_add-result : goal.overflow_add-result
overflow_add-result c =
    omega (arith, ap (λ (mss : ℕ). c.args.number * mss) c.from.ensures, piece_inside c.args.context.now c.args.size c.args.number c.requires.cut c.requires.number)

pub returns-clause-inside : goal.returns-clause-inside
returns-clause-inside c =
    omega (arith, ap (λ (mss : ℕ). c.args.number * mss) c.from.ensures, piece_inside c.args.context.now c.args.size c.args.number c.requires.cut c.requires.number)
