-- All of it was written before the flush.
use Rattle.std.proofs.KnownBytes.{Appends-kept}
use Rattle.transcript.proofs.Known.{began_all, on_err}
use Rattle.transcript.proofs.output.Output.finish.Goals as goal

pub returns-clause-err : goal.returns-clause-err
returns-clause-err g c = on_err c.map_err.result (began_all _ _ _ (Appends-kept _ _ _ _ c.in_ok-hand_over.ensures.ok c.flush.ensures.bytes))
