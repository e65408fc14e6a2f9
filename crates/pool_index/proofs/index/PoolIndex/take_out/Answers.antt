-- The key stood in one place, or in none.
use Rattle.std.proofs.Common.{ap, ◌∙◌}
use Rattle.std.proofs.lemmas.Result.{MatchResult-at_ok, MatchResult-at_err}
use Rattle.pool_index.specs.Index.{kept_pools, IsPlace, IsGap}
use Rattle.pool_index.proofs.IndexLemmas.{nothing, rises_removed, changed_removed, changed_nothing, kept_gap}
use Rattle.pool_index.proofs.index.PoolIndex.take_out.Goals as goal

pub invariant_of-self : goal.invariant_of-self
invariant_of-self g c =
    let place : IsPlace c.self.inside.kept.items c.args.key c.in-Ok.place = rw c.as_slice.ensures.value at (MatchResult-at_ok _ _ _ c.in-Ok.is c.find.ensures.place) in
    rw c.remove.ensures.items (rises_removed 0 c.self.inside.kept.items c.self.invariant c.in-Ok.place place.0)

pub returns-in-Ok-clause-kept : goal.returns-in-Ok-clause-kept
returns-in-Ok-clause-kept g c = λ k.
    let place : IsPlace c.self.inside.kept.items c.args.key c.in-Ok.place = rw c.as_slice.ensures.value at (MatchResult-at_ok _ _ _ c.in-Ok.is c.find.ensures.place) in
    rw (← c.self.view_is) (ap (λ ks. kept_pools ks k) c.remove.ensures.items ∙ changed_removed 0 c.self.inside.kept.items c.self.invariant c.in-Ok.place nothing c.args.key place.0 (place.1 nothing) k)

pub returns-in_default-clause-kept : goal.returns-in_default-clause-kept
returns-in_default-clause-kept g c = λ k.
    let gap : IsGap c.self.inside.kept.items c.args.key c.in_default.field-0 = rw c.as_slice.ensures.value at (MatchResult-at_err _ _ _ c.in_default.is c.find.ensures.place) in
    rw (← c.self.view_is) (changed_nothing c.self.inside.kept.items c.args.key (kept_gap c.self.inside.kept.items c.args.key c.in_default.field-0 gap) k)

pub returns-in-Ok-clause-rises : goal.returns-in-Ok-clause-rises
returns-in-Ok-clause-rises g c = invariant_of-self g c
