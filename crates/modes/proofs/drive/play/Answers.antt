-- The output is new, and what it holds at the end is sent.
use Rattle.transcript.proofs.Known.{began_end, on_err}
use Rattle.modes.proofs.drive.play.Goals as goal

pub returns-in_err-finish-clause-err : goal.returns-in_err-finish-clause-err
returns-in_err-finish-clause-err g c = on_err c.from_residual-in_err-finish.result (began_end _ _ _ _ _ (rw c.in_ok-output.ensures at c.in_ok-tell.ensures.ok) c.in_err-finish.ensures.err)
