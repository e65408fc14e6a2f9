-- What the workers of the ports so far are to do, unless a start was refused.
use Rattle.std.proofs.Common.{◌≡◌, ◌++◌, false, map}
use Rattle.std.specs.Arc.{arc_value}
use Rattle.workers.specs.Duties.{port_duty}
use Rattle.workers.proofs.starting.start_guests.Given as goal

abbrev pub invariant-loop-port : goal.invariant-loop-port
invariant-loop-port g l = record {
  stays : l.crew.was_refused ≡ false → l.fn.crew.was_refused ≡ false;
  duties : l.crew.was_refused ≡ false → l.crew.duties ≡ l.fn.crew.duties ++ map (port_duty (arc_value l.context.plan)) l.yielded;
}
