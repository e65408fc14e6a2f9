-- Two devices of one make, as they are made, are equal.
use Rattle.std.proofs.Common.{◌≡◌, ◌∙◌, sym, ap, subst}
use Rattle.device.specs.Live.{TracedWorld}
use Rattle.device.specs.World.{World}
use Rattle.history.specs.Recording.{made_like}
use Rattle.history.proofs.ReplayLemmas.{fresh_again}
use Rattle.recorder.proofs.SizeLemmas.{one_make}
use Rattle.recorder.proofs.recorded.Recorded.with_twin.Goals as goal

pub new-requires-2-clause-twin : goal.new-requires-2-clause-twin
new-requires-2-clause-twin g c =
    ap (λ (d : TracedWorld). d.world) c.in_ok-twin.ensures.same
    ∙ one_make c.args.live.world c.args.twin.world c.requires.fresh.0 c.requires.fresh.1 (c.is_same_make.ensures.0 c.if-not-is_same_make.false)
    ∙ sym (ap (λ (d : TracedWorld). d.world) c.in_ok-live.ensures.same)

-- and the device in the box is as it is made
pub new-requires-2-clause-fresh : goal.new-requires-2-clause-fresh
new-requires-2-clause-fresh g c =
    subst (λ (w : World). w ≡ made_like w) (sym (ap (λ (d : TracedWorld). d.world) c.in_ok-live.ensures.same)) (fresh_again c.args.live.world _ _ c.requires.fresh.0.2)
