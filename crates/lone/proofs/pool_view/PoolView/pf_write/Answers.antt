-- Own settings that do not differ are those after the write.
use Rattle.std.proofs.Common.{ap, ◌∙◌}
use Rattle.pool_filter.specs.Own.{own}
use Rattle.lone.proofs.pool_view.PoolView.pf_write.Goals as goal

pub invariant_of-self : goal.invariant_of-self
invariant_of-self g c =
    c.is_same.ensures.same.0 c.if-is_same.true
    ∙ c.own.ensures ∙ ap (λ s. own s c.self.inside.pool) c.tables.ensures
