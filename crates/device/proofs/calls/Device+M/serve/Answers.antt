-- Where nobody else writes the memories, what is met is what stands there.
use Rattle.std.proofs.Common.{false, refl}
use Rattle.device.specs.declared.event.Event.TheVariants.{Serve}
use Rattle.device.proofs.LiveLemmas.{takes_alone}
use Rattle.device.proofs.calls.Device+M.serve.Goals as goal

pub returns : goal.returns
returns g c = takes_alone false c.args.self.now.accesses c.serve_live.new.self.accesses c.args.self.now.world (Serve c.args.pool c.args.queue) c.serve_live.new.self.world c.serve_live.result c.serve_live.new.room refl c.serve_live.ensures.takes
