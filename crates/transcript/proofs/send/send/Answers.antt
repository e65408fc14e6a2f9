-- A writer that failed has a beginning of the text.
use Rattle.transcript.proofs.Known.{began_cut}
use Rattle.transcript.proofs.send.send.Goals as goal

pub returns-in_default-false-clause-err : goal.returns-in_default-false-clause-err
returns-in_default-false-clause-err g c = began_cut _ _ _ _ c.taken.ensures.taken
