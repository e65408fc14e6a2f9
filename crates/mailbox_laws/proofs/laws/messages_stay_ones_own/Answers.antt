-- The law, by its lemma.
use Rattle.mailbox_laws.proofs.Kept.{run_keeps}
use Rattle.mailbox_laws.proofs.laws.messages_stay_ones_own.Goals as goal

pub returns : goal.returns
returns c = run_keeps
