-- Nobody has more than its policy, and no policy is another.
use Rattle.mailbox.proofs.Policies.{reset_within, reset_policies}
use Rattle.mailbox.proofs.host.Host.reset.Goals as goal

pub returns-clause-within : goal.returns-clause-within
returns-clause-within c = λ w. rw c.forget.ensures.host (reset_within c.args.self.now c.args.pool c.forget.ensures.pool w)

pub returns-clause-policies : goal.returns-clause-policies
returns-clause-policies c = λ w. rw c.forget.ensures.host (reset_policies c.args.self.now c.args.pool)
