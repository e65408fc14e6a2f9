-- By the number of segments that are left.
use Rattle.std.proofs.Common.{ap}
use Rattle.sending_laws.specs.Steps.{Queue}
use Rattle.sending_laws.proofs.Segmenting.{all_leave, all_done}
use Rattle.sending_laws.proofs.laws.segments_leave_in_order.Goals as goal

pub returns-clause-leave : goal.returns-clause-leave
returns-clause-leave c = λ t memory ring s g at more some slot cut is. all_leave more t memory ring s g at some slot cut is

pub returns-clause-done : goal.returns-clause-done
returns-clause-done c = λ t memory ring s g at more some slot cut is. ap (λ (q : Queue). q.sending) (all_done more t memory ring s g at some slot cut is)

pub returns-clause-goes_on : goal.returns-clause-goes_on
returns-clause-goes_on c = λ t memory ring s g at more some slot cut is. ap (λ (q : Queue). q.ring) (all_done more t memory ring s g at some slot cut is)
