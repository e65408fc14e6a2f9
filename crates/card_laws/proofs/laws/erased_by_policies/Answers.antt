-- By the laws of a card, and by what its host makes of policies.
use Rattle.card_laws.proofs.ByPolicies.{apart_by_policies, inputs_given, lived_by_policies, whatever}
use Rattle.card_laws.proofs.laws.erased_by_policies.Goals as goal

pub returns-clause-lived : goal.returns-clause-lived
returns-clause-lived c = lived_by_policies (record { stands = c.lived_by_ones_own.ensures.stands; alike = c.lived_by_ones_own.ensures.alike; world = c.heard_by_bounded_work.ensures.world })

pub returns-clause-whatever : goal.returns-clause-whatever
returns-clause-whatever c = whatever (record { stands = c.lived_by_ones_own.ensures.stands; alike = c.lived_by_ones_own.ensures.alike; world = c.heard_by_bounded_work.ensures.world })

pub returns-clause-apart : goal.returns-clause-apart
returns-clause-apart c = apart_by_policies (record { stands = c.lived_by_ones_own.ensures.stands; alike = c.lived_by_ones_own.ensures.alike; world = c.heard_by_bounded_work.ensures.world })

pub returns-clause-inputs : goal.returns-clause-inputs
returns-clause-inputs c = inputs_given (record { stands = c.lived_by_ones_own.ensures.stands; alike = c.lived_by_ones_own.ensures.alike; world = c.heard_by_bounded_work.ensures.world })
