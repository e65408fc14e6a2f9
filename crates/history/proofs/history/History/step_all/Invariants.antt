-- What is left to be stepped through leads to where all leads.
use Rattle.std.proofs.Common.{◌≡◌, drop}
use Rattle.device.specs.World.{world_after}
use Rattle.history.specs.Entries.{events}
use Rattle.history.proofs.history.History.step_all.Given as goal

abbrev pub invariant-loop-index : goal.invariant-loop-index
invariant-loop-index g l = world_after l.device.world (events (drop l.index l.self.entries)) ≡ world_after l.initial.device.world (events l.self.entries)
