-- Where there is no room, nothing is written.
use Rattle.transcript.proofs.Known.{began_none, on_err}
use Rattle.modes.proofs.alone.observe.Goals as goal

pub returns-in_err-lent-clause-err : goal.returns-in_err-lent-clause-err
returns-in_err-lent-clause-err g c = on_err c.from_residual.result (began_none _ _)
