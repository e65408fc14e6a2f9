-- The laws, by their lemmas.
use Rattle.transmit_page.proofs.Reasons.{reason_at, value_at}
use Rattle.transmit_page.proofs.laws.nothing_is_invented.Goals as goal

pub returns-clause-reason : goal.returns-clause-reason
returns-clause-reason c = reason_at

pub returns-clause-value : goal.returns-clause-value
returns-clause-value c = value_at
