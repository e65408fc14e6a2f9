-- Where nobody else writes the memories, what is met is what stands there. One event is a list of events, and so keeps the law of
-- isolation.
use Rattle.std.proofs.Common.{[], ◌∷◌, false, refl, ap, subst, ◌∙◌}
use Rattle.device.specs.Lone.{seen_by, lone_of}
use Rattle.device.specs.Request.{event_of}
use Rattle.device.specs.World.{World}
use Rattle.device.specs.Accesses.{accesses_by}
use Rattle.device.specs.Live.{AreListed}
use Rattle.device.proofs.LiveLemmas.{takes_alone, told_world_still}
use Rattle.device.proofs.Unwinding.{isolated_sight, isolated_state}
use Rattle.device.proofs.take.Device+M.take.Goals as goal

pub returns-clause-takes : goal.returns-clause-takes
returns-clause-takes g c = takes_alone false c.args.self.now.accesses c.take_live.new.self.accesses c.args.self.now.world (event_of c.args.request) c.take_live.new.self.world c.take_live.result c.take_live.new.room refl c.take_live.ensures.takes

pub returns-clause-listed : goal.returns-clause-listed
returns-clause-listed g c =
    subst (λ (w : World). AreListed (accesses_by w (event_of c.args.request)) c.args.self.now.accesses c.take_live.new.self.accesses) (told_world_still false c.args.self.now.accesses c.take_live.new.self.accesses c.args.self.now.world refl c.take_live.ensures.takes.met) c.take_live.ensures.listed

pub returns-clause-isolated : goal.returns-clause-isolated
returns-clause-isolated g c = λ p below.
    let takes = takes_alone false c.args.self.now.accesses c.take_live.new.self.accesses c.args.self.now.world (event_of c.args.request) c.take_live.new.self.world c.take_live.result c.take_live.new.room refl c.take_live.ensures.takes in
    ap (λ a. seen_by p (event_of c.args.request ∷ []) (a ∷ [])) takes.answer
    ∙ isolated_sight p c.args.self.now.world (event_of c.args.request ∷ []) below c.functions-count.ensures.few

pub returns-clause-isolated_state : goal.returns-clause-isolated_state
returns-clause-isolated_state g c = λ p below.
    let takes = takes_alone false c.args.self.now.accesses c.take_live.new.self.accesses c.args.self.now.world (event_of c.args.request) c.take_live.new.self.world c.take_live.result c.take_live.new.room refl c.take_live.ensures.takes in
    ap (lone_of p) takes.world
    ∙ isolated_state p c.args.self.now.world (event_of c.args.request ∷ []) below c.functions-count.ensures.few
