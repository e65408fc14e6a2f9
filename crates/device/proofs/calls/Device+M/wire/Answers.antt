-- Where nobody else writes the memories, what is met is what stands there.
use Rattle.std.proofs.Common.{false, refl, ap, ◌∙◌}
use Rattle.device.specs.declared.event.Event.TheVariants.{Wire}
use Rattle.device.specs.World.{World, step}
use Rattle.device.proofs.LiveLemmas.{told_world_still}
use Rattle.device.proofs.calls.Device+M.wire.Goals as goal

pub returns-clause-world : goal.returns-clause-world
returns-clause-world g c = c.wire_live.ensures.world ∙ ap (λ (w : World). (step w (Wire c.args.frame.bytes.now)).world) (told_world_still false c.args.self.now.accesses c.wire_live.new.self.accesses c.args.self.now.world refl c.wire_live.ensures.met)

pub returns-clause-answer : goal.returns-clause-answer
returns-clause-answer g c = c.wire_live.ensures.answer ∙ ap (λ (w : World). (step w (Wire c.args.frame.bytes.now)).answer) (told_world_still false c.args.self.now.accesses c.wire_live.new.self.accesses c.args.self.now.world refl c.wire_live.ensures.met)
