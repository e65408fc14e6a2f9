-- Nothing is done with the memory where legacy buffers have no size.
use Rattle.std.proofs.Common.{subst}
use Rattle.live_memory.specs.Trace.{IsTraced}
use Rattle.live_memory.proofs.Accesses.{traced_none}
use Rattle.vf_unit.specs.Function.{TracedState}
use Rattle.vf_unit.proofs.open.OpenVf.deliver.Goals as goal

pub returns-then-not-has_size-clause-traced : goal.returns-then-not-has_size-clause-traced
returns-then-not-has_size-clause-traced g c =
    subst (λ (s : TracedState). IsTraced g.D.Dma.shared s.state.memory s.accesses c.self.inside.memory.accesses) c.self.view_is (traced_none _ _ _)
