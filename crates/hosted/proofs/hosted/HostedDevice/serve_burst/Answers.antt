-- A burst writes no register of the physical function.
use Rattle.std.proofs.Common.{refl}
use Rattle.hosted.proofs.Stands.{burst_stands}
use Rattle.hosted.proofs.hosted.HostedDevice.serve_burst.Goals as goal

pub invariant_of-self : goal.invariant_of-self
invariant_of-self g c = burst_stands _ _ _ _ _ _ _ c.serve_burst.result c.self.invariant c.serve_burst.ensures.burst refl refl
