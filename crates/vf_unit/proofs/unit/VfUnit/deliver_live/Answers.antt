-- Nothing is done with the memory of a function that is closed; an open one counts the frame.
use Rattle.std.proofs.Common.{subst}
use Rattle.vf_unit.specs.Unit.{TracedFunction, Open, IsCounted}
use Rattle.vf_unit.proofs.Told.{met_nothing}
use Rattle.vf_unit.proofs.Counting.{state_once}
use Rattle.vf_unit.proofs.unit.VfUnit.deliver_live.Goals as goal

pub returns-else-self-clause-met : goal.returns-else-self-clause-met
returns-else-self-clause-met g c = met_nothing _ _ _

pub returns-then-self-clause-counted : goal.returns-then-self-clause-counted
returns-then-self-clause-counted g c =
    rw c.if-self.true
    (subst (λ (f : TracedFunction). IsCounted f.function (Open c.deliver.new.self.state)) c.self.view_is
    (rw c.if-self.true (state_once c.args.loopback c.args.frame.bytes.now _ _ c.self.inside.inner.state _ c.deliver.ensures.state)))
