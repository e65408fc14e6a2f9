-- What was sent, what is held and the lines of what is left are the whole.
use Rattle.std.proofs.Common.{◌++◌, ◌+◌, drop}
use Rattle.transcript.specs.Known.{Sent}
use Rattle.transcript.specs.Lines.{lone_text, seen_lines}
use Rattle.modes.proofs.alone.observations.Given as goal

abbrev pub invariant-loop-index : goal.invariant-loop-index
invariant-loop-index g l =
    Sent (g.W.Write.contents l.fn.writer) (g.W.Write.contents l.writer) (l.fn.output ++ lone_text l.fn.watch.pool l.fn.lone l.fn.watch.world l.script.events)
    (l.output ++ seen_lines (l.index + 1) l.watch.pool l.lone l.watch.world (drop l.index l.script.events))
