-- What was sent, what is held and the lines of the answers that are left are the whole.
use Rattle.std.proofs.Common.{◌≡◌, ◌++◌, ◌+◌, drop}
use Rattle.device.specs.World.{answers, world_after}
use Rattle.transcript.specs.Known.{Sent}
use Rattle.transcript.specs.Lines.{lines}
use Rattle.modes.proofs.run.answers.Given as goal

abbrev pub invariant-loop-index : goal.invariant-loop-index
invariant-loop-index g l = record {
  sent : Sent (g.W.Write.contents l.fn.writer) (g.W.Write.contents l.writer) (l.fn.output ++ lines 1 (answers l.fn.device.world l.script.events))
      (l.output ++ lines (l.index + 1) (answers l.device.world (drop l.index l.script.events)));
  world : world_after l.device.world (drop l.index l.script.events) ≡ world_after l.fn.device.world l.script.events;
}
