-- The answers and then the frames are the whole; where it stops, the writer has a beginning, or nothing without room.
use Rattle.std.proofs.Common.{refl}
use Rattle.transcript.proofs.Known.{began_more, began_none, began_then, sent_then, on_err}
use Rattle.modes.proofs.Left.{began_as, run_whole, sent_as}
use Rattle.modes.proofs.run.perform.Goals as goal

pub returns-in_err-scratch-clause-err : goal.returns-in_err-scratch-clause-err
returns-in_err-scratch-clause-err g c = on_err c.from_residual.result (began_none _ _)

pub returns-in_err-told-clause-err : goal.returns-in_err-told-clause-err
returns-in_err-told-clause-err g c =
    on_err c.from_residual-in_err-told.result
    (began_as _ _ _ _ (run_whole c.args.output.now _ _ _ c.args.script.now.events refl refl) (began_more _ _ _ _ c.in_err-told.ensures.err))

pub returns-in_err-frames-clause-err : goal.returns-in_err-frames-clause-err
returns-in_err-frames-clause-err g c =
    on_err c.from_residual-in_err-frames.result
    (began_as _ _ _ _ (run_whole c.args.output.now _ _ _ c.args.script.now.events c.in_ok-told.ensures.world refl)
    (began_then _ _ _ _ _ _ c.in_ok-told.ensures.ok c.in_err-frames.ensures.err))

pub returns-clause-ok : goal.returns-clause-ok
returns-clause-ok g c =
    sent_as _ _ _ _ _ (run_whole c.args.output.now _ _ _ c.args.script.now.events c.in_ok-told.ensures.world refl)
    (sent_then _ _ _ _ _ _ _ c.in_ok-told.ensures.ok c.in_ok-frames.ensures.ok)
