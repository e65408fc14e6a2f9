-- Where there is no room, nothing is written.
use Rattle.transcript.proofs.Known.{began_none, on_err}
use Rattle.modes.proofs.keep.perform.Goals as goal

pub returns-in_err-scratch-clause-err : goal.returns-in_err-scratch-clause-err
returns-in_err-scratch-clause-err g c = on_err c.from_residual.result (began_none _ _)
