-- No payload is left behind it.
use Rattle.std.proofs.Common.{◌≡◌, ℕ, ◌+◌, ◌-◌, ◌*◌, ap, ◌∙◌, arith}
use Rattle.std.proofs.Math.Dec.{leb}
use Rattle.offload.specs.Context.{payload_at}
use Rattle.offload.proofs.Pieces.{last_piece, few_pieces}
use Rattle.offload.proofs.cut.is_last.Goals as goal

pub returns-clause-last : goal.returns-clause-last
returns-clause-last c =
    ap (λ (place : ℕ). leb (c.args.size - place) c.from.result) c.piece_at.ensures.place
    ∙ ap (λ (mss : ℕ). leb (c.args.size - (payload_at c.args.context.now + c.args.number * c.args.context.now.mss)) mss) c.from.ensures
    ∙ last_piece c.args.context.now c.args.size c.args.number c.requires.cut c.requires.number

pub returns-clause-few : goal.returns-clause-few
returns-clause-few c = few_pieces c.args.context.now c.args.size c.args.number c.requires.cut c.requires.number
