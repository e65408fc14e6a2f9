-- A frame that is too long is refused, and no memory is touched.
use Rattle.std.proofs.Common.{◌<◌, ◌≤◌, length, refl, sym, ap, subst, arith, ◌∙◌}
use Rattle.device.specs.Live.{TracedWorld, told_world}
use Rattle.device.proofs.LiveLemmas.{untouched, told_world_none}
use Rattle.device.proofs.LiveServes.{refused_frame, refused_answer, refused_listed, taken_listed}
use Rattle.device.proofs.device.Device.wire_live.Goals as goal
use Rattle.device.proofs.device.Device.wire_live.Given as given

abbrev long : (g : given.Over) (c : goal.Then-bytes-from g) → c.args.self.now.world.profile.limit < length c.args.frame.bytes.now
long g c = subst (λ (d : TracedWorld). d.world.profile.limit < length c.args.frame.bytes.now) c.self.view_is (omega (arith, c.if-bytes-from.true, c.from.ensures, c.get.ensures.value, ap length c.bytes.ensures.value))

pub returns-then-bytes-from-clause-world : goal.returns-then-bytes-from-clause-world
returns-then-bytes-from-clause-world g c =
    sym (refused_frame (told_world c.args.self.now.accesses c.args.self.now.accesses c.args.self.now.world) c.args.frame.bytes.now (long g c) ∙ told_world_none c.args.self.now.accesses c.args.self.now.accesses c.args.self.now.world (λ r. refl))

pub returns-then-bytes-from-clause-answer : goal.returns-then-bytes-from-clause-answer
returns-then-bytes-from-clause-answer g c = sym (refused_answer (told_world c.args.self.now.accesses c.args.self.now.accesses c.args.self.now.world) c.args.frame.bytes.now (long g c))

pub returns-then-bytes-from-clause-met : goal.returns-then-bytes-from-clause-met
returns-then-bytes-from-clause-met g c = untouched g.D.Dma.shared c.args.self.now.accesses c.args.self.now.world

pub returns-then-bytes-from-clause-listed : goal.returns-then-bytes-from-clause-listed
returns-then-bytes-from-clause-listed g c = refused_listed c.args.self.now c.args.frame.bytes.now (long g c)

pub returns-clause-listed : goal.returns-clause-listed
returns-clause-listed g c =
    let short : length c.args.frame.bytes.now ≤ c.args.self.now.world.profile.limit = subst (λ (d : TracedWorld). length c.args.frame.bytes.now ≤ d.world.profile.limit) c.self.view_is (omega (arith, c.if-bytes-from.false, c.from.ensures, c.get.ensures.value, ap length c.bytes.ensures.value)) in
    taken_listed c.args.self.now.accesses c.switch.new.self.accesses c.args.self.now.world c.args.frame.bytes.now short c.switch.ensures.listed
