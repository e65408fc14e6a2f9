-- A function that is gone has nothing.
use Rattle.mailbox.proofs.Admitted.{dismiss_within, dismiss_policies}
use Rattle.mailbox.proofs.host.Host.dismiss.Goals as goal

pub returns-clause-within : goal.returns-clause-within
returns-clause-within c = λ w. rw c.remove.ensures.host (dismiss_within c.args.self.now c.args.pool c.remove.ensures.pool w)

pub returns-clause-policies : goal.returns-clause-policies
returns-clause-policies c = rw c.remove.ensures.host (dismiss_policies c.args.self.now c.args.pool)
