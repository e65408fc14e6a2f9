-- Frames from the wire write no register of the physical function.
use Rattle.std.proofs.Common.{refl}
use Rattle.hosted.proofs.Stands.{wire_burst_stands}
use Rattle.hosted.proofs.hosted.HostedDevice.wire_burst.Goals as goal

pub invariant_of-self : goal.invariant_of-self
invariant_of-self g c = wire_burst_stands _ _ _ _ _ c.wire_burst.result c.self.invariant c.wire_burst.ensures refl refl
