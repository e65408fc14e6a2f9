-- A service writes no register of the physical function.
use Rattle.std.proofs.Common.{refl}
use Rattle.device.specs.declared.event.Event.TheVariants.{Serve}
use Rattle.hosted.proofs.Stands.{stays_live}
use Rattle.hosted.proofs.hosted.HostedDevice.serve.Goals as goal

pub invariant_of-self : goal.invariant_of-self
invariant_of-self g c = stays_live _ _ _ _ (Serve c.args.pool c.args.queue) c.self.invariant refl c.serve_live.ensures.takes.takes.world refl refl
