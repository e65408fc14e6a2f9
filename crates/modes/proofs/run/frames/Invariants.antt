-- What was sent, what is held and the lines of the frames that are left are the whole.
use Rattle.std.proofs.Common.{◌++◌, drop}
use Rattle.transcript.specs.Known.{Sent}
use Rattle.transcript.specs.Lines.{frame_lines}
use Rattle.modes.proofs.run.frames.Given as goal

abbrev pub invariant-loop-index : goal.invariant-loop-index
invariant-loop-index g l =
    Sent (g.W.Write.contents l.fn.writer) (g.W.Write.contents l.writer) (l.fn.output ++ frame_lines l.device.world.wire) (l.output ++ frame_lines (drop l.index l.device.world.wire))
