-- The first writes so far are done.
use Rattle.std.proofs.Common.{◌≡◌, take}
use Rattle.device.specs.World.{world_after}
use Rattle.mailbox.specs.Start.{first_writes}
use Rattle.mailbox_laws.specs.Turns.{write_events}
use Rattle.hosted.proofs.hosted.bring_up.Given as goal

abbrev pub invariant-loop-place : goal.invariant-loop-place
invariant-loop-place g l = record {
  world : l.device.world ≡ world_after l.fn.device.world (write_events (take l.place (first_writes l.host)));
  accesses : l.device.accesses ≡ l.fn.device.accesses;
}
