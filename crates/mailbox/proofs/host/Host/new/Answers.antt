-- A host that no policy names a function of is within them all.
use Rattle.mailbox.proofs.Policies.{first_within}
use Rattle.mailbox.proofs.host.Host.new.Goals as goal

pub returns-clause-within : goal.returns-clause-within
returns-clause-within c = rw c.blank.ensures (first_within _ _ _)
