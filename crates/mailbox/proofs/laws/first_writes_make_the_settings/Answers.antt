-- The law, by its lemmas.
use Rattle.mailbox.proofs.First.{first_settled, first_count, whole_at_first, whole_after}
use Rattle.mailbox.proofs.laws.first_writes_make_the_settings.Goals as goal

pub returns-clause-settings : goal.returns-clause-settings
returns-clause-settings c = first_settled

pub returns-clause-count : goal.returns-clause-count
returns-clause-count c = first_count

pub returns-clause-whole_at_first : goal.returns-clause-whole_at_first
returns-clause-whole_at_first c = whole_at_first

pub returns-clause-whole_after : goal.returns-clause-whole_after
returns-clause-whole_after c = whole_after
