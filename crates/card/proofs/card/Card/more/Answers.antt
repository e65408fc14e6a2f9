-- The services of one queue, and then those of the other.
use Rattle.std.proofs.Common.{ℕ, ◌<◌, length, ap, sym, subst, ◌∙◌}
use Rattle.std.specs.Prelude.{slice_index}
use Rattle.card.specs.Card.{CardState}
use Rattle.card.proofs.Services.{more_lives}
use Rattle.card.proofs.card.Card.more.Goals as goal

pub returns-clause-lived : goal.returns-clause-lived
returns-clause-lived g c =
    more_lives _ c.args.pool c.args.self.now c.args.frames.now c.serve_busy.new.self c.serve_busy.new.frames c.serve_busy.ensures.served c.serve_busy.ensures.below c.serve_busy.ensures.ends
    (sym (ap (λ (d : CardState). length d.raised) c.self.view_is) ∙ c.masks_are_small.ensures.length)
    (subst (λ (d : CardState). (p : ℕ) → slice_index d.raised p < 8) c.self.view_is c.masks_are_small.ensures.below)
