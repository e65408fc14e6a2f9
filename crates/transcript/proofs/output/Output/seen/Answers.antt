-- Where the writer fails before the line, it has a beginning of what was held.
use Rattle.transcript.proofs.Known.{began_more, on_err}
use Rattle.transcript.proofs.output.Output.seen.Goals as goal

pub returns-in_err-relieve-clause-err : goal.returns-in_err-relieve-clause-err
returns-in_err-relieve-clause-err g c = on_err c.from_residual.result (began_more _ _ _ _ c.in_err-relieve.ensures.err)
