-- The ports so far are of the line.
use Rattle.guest_port.specs.Irq.{SeatedPort}
use Rattle.modes.specs.Lines.{ArePortsOf}
use Rattle.modes.proofs.threads.ports_of.Given as goal

abbrev pub invariant-loop-seat : goal.invariant-loop-seat
invariant-loop-seat l = ArePortsOf (λ (p : SeatedPort). p.port) l.line.line l.ports.items
