-- By what each deed gives.
use Rattle.card.proofs.Lives.{lives_alike}
use Rattle.card.proofs.Standing.{life_stands}
use Rattle.card.proofs.laws.lived_by_ones_own.Goals as goal

pub returns-clause-stands : goal.returns-clause-stands
returns-clause-stands c = life_stands

pub returns-clause-alike : goal.returns-clause-alike
returns-clause-alike c = lives_alike
