-- The writes of the guests, and the frames.
use Rattle.std.proofs.Common.{ℕ, ◌<◌, length, ap, sym, subst, ◌∙◌}
use Rattle.std.specs.Prelude.{slice_index}
use Rattle.card.specs.Card.{CardState}
use Rattle.card.proofs.Wirings.{burst_lives}
use Rattle.card.proofs.card.Card.wire_burst.Goals as goal

pub returns-clause-lived : goal.returns-clause-lived
returns-clause-lived g c =
    burst_lives _ c.args.self.now c.take_frames.new.self c.args.ends.now c.args.bytes.now c.take_frames.result c.take_frames.ensures
    (sym (ap (λ (d : CardState). length d.raised) c.self.view_is) ∙ c.masks_are_small.ensures.length)
    (subst (λ (d : CardState). (p : ℕ) → slice_index d.raised p < 8) c.self.view_is c.masks_are_small.ensures.below)
