-- By what the calls live.
use Rattle.card.proofs.Lives.{lives_alike}
use Rattle.card.proofs.Notes.{calls_alike, lived_on}
use Rattle.card.proofs.Services.{live_are_deeds}
use Rattle.card.proofs.laws.calls_are_a_life.Goals as goal

pub returns-clause-lived : goal.returns-clause-lived
returns-clause-lived c = lived_on

pub returns-clause-deeds : goal.returns-clause-deeds
returns-clause-deeds c = live_are_deeds

pub returns-clause-alike : goal.returns-clause-alike
returns-clause-alike g = λ p a b c d xs ys below one two there also_there all also_all lived also_lived alike same.
    calls_alike p a b c d xs ys lived also_lived (lives_alike p a c xs ys below one two there also_there all also_all alike same).cards
