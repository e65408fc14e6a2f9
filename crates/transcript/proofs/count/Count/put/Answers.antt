-- The digits are those that stand before index 20.
use Rattle.std.proofs.Common.{List, ℕ, ◌-◌, ◌++◌, ◌∙◌, ap, take}
use Rattle.std.specs.Prelude.{decimal}
use Rattle.transcript.proofs.Room.{digits_on}
use Rattle.transcript.proofs.count.Count.put.Goals as goal

pub returns-clause-text : goal.returns-clause-text
returns-clause-text c =
    let kept = c.self.invariant in
    c.put_front.ensures.text
    ∙ ap (λ (t : List ℕ). take c.args.at c.args.room.now ++ t)
    (ap (λ (word : List ℕ). take (20 - c.self.inside.first) word) c.word_at-digits.ensures ∙ digits_on c.self.inside.digits c.self.inside.first kept.0 ∙ kept.1 ∙ ap decimal (c.self.view_is ∙ c.go_to.ensures))
