-- The answers to what is left decide, unless one differed already.
use Rattle.std.proofs.Common.{◌≡◌, ◌≢◌, drop, true, false}
use mathlib.Core.Logic.{◌↔◌}
use Rattle.device.specs.World.{world_after, answers}
use Rattle.history.specs.Entries.{events, given}
use Rattle.history.proofs.history.History.gives_all.Given as goal

abbrev pub invariant-loop-index : goal.invariant-loop-index
invariant-loop-index g l = record {
  world : world_after l.device.world (events (drop l.index l.self.entries)) ≡ world_after l.initial.device.world (events l.self.entries);
  so_far : l.same ≡ true → (answers l.device.world (events (drop l.index l.self.entries)) ≡ given (drop l.index l.self.entries)) ↔ (answers l.initial.device.world (events l.self.entries) ≡ given l.self.entries);
  lost : l.same ≡ false → answers l.initial.device.world (events l.self.entries) ≢ given l.self.entries;
}
