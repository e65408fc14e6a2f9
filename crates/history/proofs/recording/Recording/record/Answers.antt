-- One more call is kept. Where nobody else writes the memories, what is met is what stands there.
use Rattle.std.proofs.Common.{◌≡◌, [], ◌∷◌, ◌++◌, false, refl, ap, ◌∙◌}
use Rattle.device.specs.Request.{event_of}
use Rattle.device.specs.Live.{TracedWorld}
use Rattle.device.specs.Takes.{Takes}
use Rattle.device.specs.World.{World, step}
use Rattle.device.proofs.LiveLemmas.{takes_alone, told_world_still}
use Rattle.history.specs.Entries.{entry}
use Rattle.history.proofs.ReplayLemmas.{leads_on, logged_on}
use Rattle.history.proofs.recording.Recording.record.Goals as goal
use Rattle.history.proofs.recording.Recording.record.Given as given

-- what the device made of the event
takes : (g : given.Over) (c : goal.After-self-1 g) → Takes c.deref_mut.result.now.world (event_of c.args.request) c.record.new.device.world c.record.result c.record.new.room
takes g c = takes_alone false c.deref_mut.result.now.accesses c.record.new.device.accesses c.deref_mut.result.now.world (event_of c.args.request) c.record.new.device.world c.record.result c.record.new.room refl c.record.ensures.takes

-- and what was kept
kept : (g : given.Over) (c : goal.After-self-1 g)
    → c.record.new.self.entries ≡ c.self.inside.history.entries ++ entry c.args.caller (event_of c.args.request) (step c.deref_mut.result.now.world (event_of c.args.request)).answer ∷ []
kept g c = c.record.ensures.entries
    ∙ ap (λ (w : World). c.self.inside.history.entries ++ entry c.args.caller (event_of c.args.request) (step w (event_of c.args.request)).answer ∷ [])
    (told_world_still false c.deref_mut.result.now.accesses c.record.new.device.accesses c.deref_mut.result.now.world refl c.record.ensures.takes.met)

-- on the device that the box lends
lent : (g : given.Over) (c : goal.After-self-1 g) → c.deref_mut.result.now.world ≡ c.self.inside.live.value.world
lent g c = ap (λ (d : TracedWorld). d.world) c.deref_mut.ensures.value

pub invariant_of-self : goal.invariant_of-self
invariant_of-self g c =
    leads_on c.self.inside.twin c.self.inside.live.value.world c.deref_mut.result.now.world c.record.new.device.world c.self.inside.history.entries c.record.new.self.entries c.args.caller
    (event_of c.args.request) c.self.invariant (lent g c) (takes g c).world (takes g c).sizes (kept g c)

pub returns-clause-takes : goal.returns-clause-takes
returns-clause-takes g c = rw (← c.self.view_is, ← lent g c) (takes g c)

pub returns-clause-kept : goal.returns-clause-kept
returns-clause-kept g c =
    rw (← c.self.view_is) (logged_on c.self.inside.twin c.self.inside.live.value.world c.deref_mut.result.now.world c.record.new.device.world c.self.inside.history.entries c.record.new.self.entries
    c.self.inside.history.cap c.record.new.self.cap c.args.caller (event_of c.args.request) (lent g c) (takes g c).world (takes g c).sizes (kept g c) c.record.ensures.cap)
