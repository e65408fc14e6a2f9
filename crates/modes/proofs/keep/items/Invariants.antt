-- What was sent, what is held and the lines of what is left are the whole.
use Rattle.std.proofs.Common.{◌++◌, ◌+◌, drop}
use Rattle.transcript.specs.Known.{Sent}
use Rattle.transcript.specs.Lines.{keep_text, kept_lines}
use Rattle.modes.proofs.keep.items.Given as goal

abbrev pub invariant-loop-index : goal.invariant-loop-index
invariant-loop-index g l =
    Sent (g.W.Write.contents l.fn.writer) (g.W.Write.contents l.writer) (l.fn.output ++ keep_text l.fn.watch.pool l.fn.watch.world l.script.events)
    (l.output ++ kept_lines (l.index + 1) l.watch.pool l.watch.world (drop l.index l.script.events))
