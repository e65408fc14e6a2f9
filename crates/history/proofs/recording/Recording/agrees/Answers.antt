-- The law of isolation, of the kept calls.
use Rattle.std.proofs.Common.{◌∙◌, ◌≤◌, sym, ap, subst, length}
use Rattle.device.specs.Live.{TracedWorld}
use Rattle.device.specs.Lone.{lone_of, seen_by}
use Rattle.history.specs.Entries.{events}
use Rattle.history.specs.Fields.{base_of}
use Rattle.history.proofs.ReplayLemmas.{base_made, functions_kept}
use Rattle.history.proofs.recording.Recording.agrees.Goals as goal
use Rattle.history.proofs.recording.Recording.agrees.Given as given

few : (g : given.Over) (c : goal.After-len-kept g) → length (base_of c.self.inside.twin c.self.inside.live.value.world).functions ≤ 64
few g c = functions_kept (base_of c.self.inside.twin c.self.inside.live.value.world) c.self.inside.live.value.world c.self.inside.history.entries c.self.invariant.world
    (subst (λ (d : TracedWorld). length d.world.functions ≤ 64) c.deref.ensures c.functions-functions.ensures.few)

pub returns-clause-made : goal.returns-clause-made
returns-clause-made g c = rw (← c.self.view_is) (base_made c.self.inside.twin c.self.inside.live.value.world)

pub returns-clause-seen : goal.returns-clause-seen
returns-clause-seen g c = rw (← c.self.view_is) (λ p below.
    ap (seen_by p (events c.self.inside.history.entries)) (sym c.self.invariant.answers)
    ∙ c.isolation.ensures.seen p (base_of c.self.inside.twin c.self.inside.live.value.world) (events c.self.inside.history.entries) below (few g c))

pub returns-clause-state : goal.returns-clause-state
returns-clause-state g c = rw (← c.self.view_is) (λ p below.
    ap (lone_of p) (sym c.self.invariant.world)
    ∙ c.isolation.ensures.state p (base_of c.self.inside.twin c.self.inside.live.value.world) (events c.self.inside.history.entries) below (few g c))
