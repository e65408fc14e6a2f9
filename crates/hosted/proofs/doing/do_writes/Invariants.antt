-- The writes so far are done.
use Rattle.std.proofs.Common.{◌≡◌, take}
use Rattle.device.specs.World.{world_after}
use Rattle.mailbox_laws.specs.Turns.{write_events}
use Rattle.hosted.proofs.doing.do_writes.Given as goal

abbrev pub invariant-loop-write : goal.invariant-loop-write
invariant-loop-write g l = record {
  world : l.device.world ≡ world_after l.fn.device.world (write_events (take l.write-index l.writes));
  accesses : l.device.accesses ≡ l.fn.device.accesses;
}
