-- The words of both, bit by bit.
use Rattle.std.proofs.Common.{get_or, ◌∙◌}
use Rattle.irq_causes.specs.Messages.{both}
use Rattle.irq_causes.proofs.Unite.{of_words}
use Rattle.irq_causes.proofs.messages.Messages.unite.Goals as goal

pub returns : goal.returns
returns c =
    let old = c.words-old.result in
    let new = c.words-new.result in
    c.from_words.ensures
    ∙ of_words (get_or old 0 0) (get_or old 1 0) (get_or old 2 0) (get_or new 0 0) (get_or new 1 0) (get_or new 2 0)
    ∙ (λ i. both (c.words-old.ensures i) (c.words-new.ensures i))
