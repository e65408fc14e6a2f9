-- By the steps of a queue.
use Rattle.sending_laws.proofs.Faulting.{fault_told}
use Rattle.sending_laws.proofs.laws.faults_have_a_reason.Goals as goal

pub returns : goal.returns
returns c = λ t memory ring s. fault_told t memory ring s
