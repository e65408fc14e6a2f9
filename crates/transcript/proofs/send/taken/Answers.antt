-- Each part that the writer took follows those before it.
use Rattle.std.proofs.Common.{arith, take-add, length-drop}
use Rattle.std.proofs.KnownBytes.{Appends-kept, Appends-trans}
use Rattle.transcript.proofs.Known.{slice_end}
use Rattle.transcript.proofs.send.taken.Goals as goal
use Rattle.transcript.proofs.send.taken.Goals.{in-Ok, in-Err+else-ne}

pub loop-preserved : goal.loop-preserved
loop-preserved g c =
    let inv = c.loop.invariant in
    let all = c.args.bytes.now in
    let sent = c.loop.sent in
    elim c.match-write.branch [
      | in-Ok w ↦
          let more = rw (slice_end all sent) at w.in-Ok.ensures.bytes in
          let bound = rw (slice_end all sent) at w.in-Ok.ensures.bound in
          rw (w.sent-is, take-add sent w.in-Ok.count all) (omega (arith, inv.0, bound, length-drop sent all), Appends-trans _ _ _ _ _ inv.1 more)
      | in-Err+else-ne w ↦ rw w.sent-is (inv.0, Appends-kept _ _ _ _ inv.1 w.in-Err.ensures.bytes)
    ]
