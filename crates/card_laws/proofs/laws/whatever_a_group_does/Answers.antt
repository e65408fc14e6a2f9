-- By the laws of a card.
use Rattle.card_laws.proofs.Whatever.{lived_whatever}
use Rattle.card_laws.proofs.laws.whatever_a_group_does.Goals as goal

pub returns : goal.returns
returns c = lived_whatever (record { stands = c.lived_by_ones_own.ensures.stands; alike = c.lived_by_ones_own.ensures.alike; world = c.heard_by_bounded_work.ensures.world })
