-- By the laws of a card.
use Rattle.card_laws.proofs.Erasing.{alike_itself, alike_without, calls_without, given_without, lived_without}
use Rattle.card_laws.proofs.laws.erased.Goals as goal

pub returns-clause-lived : goal.returns-clause-lived
returns-clause-lived c = lived_without (record { stands = c.lived_by_ones_own.ensures.stands; alike = c.lived_by_ones_own.ensures.alike; world = c.heard_by_bounded_work.ensures.world })

pub returns-clause-cards : goal.returns-clause-cards
returns-clause-cards c = alike_without (record { stands = c.lived_by_ones_own.ensures.stands; alike = c.lived_by_ones_own.ensures.alike; world = c.heard_by_bounded_work.ensures.world })

pub returns-clause-given : goal.returns-clause-given
returns-clause-given c = given_without (record { stands = c.lived_by_ones_own.ensures.stands; alike = c.lived_by_ones_own.ensures.alike; world = c.heard_by_bounded_work.ensures.world })

pub returns-clause-itself : goal.returns-clause-itself
returns-clause-itself c = alike_itself

pub returns-clause-calls : goal.returns-clause-calls
returns-clause-calls c = calls_without (record { stands = c.lived_by_ones_own.ensures.stands; alike = c.lived_by_ones_own.ensures.alike; world = c.heard_by_bounded_work.ensures.world }) c.calls_are_a_life.ensures.alike
