-- Nobody has more than its policy, and no policy is another.
use Rattle.mailbox.specs.Message.{message_of}
use Rattle.mailbox.proofs.Policies.{message_within, message_policies}
use Rattle.mailbox.proofs.host.Host.answer.Goals as goal

pub returns-clause-within : goal.returns-clause-within
returns-clause-within c = λ w. rw c.hear.ensures.host (message_within c.args.self.now c.args.pool (message_of c.args.mailbox.now.words) c.hear.ensures.pool w)

pub returns-clause-policies : goal.returns-clause-policies
returns-clause-policies c = λ w. rw c.hear.ensures.host (message_policies c.args.self.now c.args.pool (message_of c.args.mailbox.now.words))
