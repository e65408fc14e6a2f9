-- The law, by its lemma.
use Rattle.mailbox_laws.proofs.Kept.{first_run}
use Rattle.mailbox_laws.proofs.laws.brought_up.Goals as goal

pub returns : goal.returns
returns c = first_run
