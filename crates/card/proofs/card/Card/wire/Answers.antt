-- The writes of the guests, and the frame.
use Rattle.std.proofs.Common.{ℕ, ◌<◌, length, ap, sym, subst, ◌∙◌}
use Rattle.std.specs.Prelude.{slice_index}
use Rattle.card.specs.Card.{CardState}
use Rattle.card.proofs.Services.{wire_lives}
use Rattle.card.proofs.card.Card.wire.Goals as goal

pub returns-clause-lived : goal.returns-clause-lived
returns-clause-lived g c =
    wire_lives _ c.args.self.now c.take_frame.new.self c.args.frame.bytes.now c.take_frame.result c.take_frame.ensures.answer c.take_frame.ensures.met c.take_frame.ensures.world
    c.take_frame.ensures.host c.take_frame.ensures.mailboxes c.take_frame.ensures.ends
    (sym (ap (λ (d : CardState). length d.raised) c.self.view_is) ∙ c.masks_are_small.ensures.length)
    (subst (λ (d : CardState). (p : ℕ) → slice_index d.raised p < 8) c.self.view_is c.masks_are_small.ensures.below)
