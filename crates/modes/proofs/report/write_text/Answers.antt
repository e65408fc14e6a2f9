-- All of it was written before the flush.
use Rattle.std.proofs.KnownBytes.{Appends-kept}
use Rattle.transcript.proofs.Known.{began_all}
use Rattle.modes.proofs.report.write_text.Goals as goal

pub returns-in-Err-clause-err : goal.returns-in-Err-clause-err
returns-in-Err-clause-err g c = began_all _ _ _ (Appends-kept _ _ _ _ (rw c.as_bytes.ensures.value at c.in_ok-send.ensures.ok) c.flush.ensures.bytes)
