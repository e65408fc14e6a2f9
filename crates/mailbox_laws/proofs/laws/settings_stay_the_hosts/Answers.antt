-- The law, by its lemma.
use Rattle.mailbox_laws.proofs.Kept.{run_settles}
use Rattle.mailbox_laws.proofs.laws.settings_stay_the_hosts.Goals as goal

pub returns : goal.returns
returns c = run_settles
