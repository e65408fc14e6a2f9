-- The key stands in its place with its pools, and what stood there or beside it is as it was.
use Rattle.std.proofs.Common.{arith, rules, refl, sym, ap, ◌∙◌}
use Rattle.std.proofs.lemmas.Result.{MatchResult-at_ok, MatchResult-at_err}
use Rattle.pool_index.specs.Index.{kept_pools, IsPlace, IsGap}
use Rattle.pool_index.proofs.IndexLemmas.{nothing, with_pools, refilled, rises_at, rises_gap, changed_at, changed_gap, kept_gap}
use Rattle.pool_index.proofs.index.PoolIndex.put.Goals as goal

pub invariant_of-self : goal.invariant_of-self
invariant_of-self g c =
    let place : IsPlace c.self.inside.kept.items c.args.key c.in-Ok.place = rw c.as_slice.ensures.value at (MatchResult-at_ok _ _ _ c.in-Ok.is c.find.ensures.place) in
    rw (refilled c.self.inside.kept.items c.deref_mut.result.now c.deref_mut.ensures.value c.in-Ok.place c.args.pools) (rises_at 0 c.self.inside.kept.items c.self.invariant c.in-Ok.place nothing (with_pools c.self.inside.kept.items c.in-Ok.place c.args.pools) place.0 refl)

pub insert-requires : goal.insert-requires
insert-requires g c =
    let gap : IsGap c.self.inside.kept.items c.args.key c.in-Err.place = rw c.as_slice.ensures.value at (MatchResult-at_err _ _ _ c.in-Err.is c.find.ensures.place) in
    (search rules, (gap.0, rw c.self.view_is (c.requires (ap (λ ks. kept_pools ks c.args.key) (sym c.self.view_is) ∙ kept_gap c.self.inside.kept.items c.args.key c.in-Err.place gap))))

pub invariant_of-self-in-Err : goal.invariant_of-self-in-Err
invariant_of-self-in-Err g c =
    let gap : IsGap c.self.inside.kept.items c.args.key c.in-Err.place = rw c.as_slice.ensures.value at (MatchResult-at_err _ _ _ c.in-Err.is c.find.ensures.place) in
    rw c.insert.ensures.items (rises_gap 0 c.self.inside.kept.items c.self.invariant c.in-Err.place _ (omega arith) gap)

pub returns-in-Ok-clause-kept : goal.returns-in-Ok-clause-kept
returns-in-Ok-clause-kept g c = λ k.
    let place : IsPlace c.self.inside.kept.items c.args.key c.in-Ok.place = rw c.as_slice.ensures.value at (MatchResult-at_ok _ _ _ c.in-Ok.is c.find.ensures.place) in
    rw (← c.self.view_is) (ap (λ ks. kept_pools ks k) (refilled c.self.inside.kept.items c.deref_mut.result.now c.deref_mut.ensures.value c.in-Ok.place c.args.pools) ∙ changed_at 0 c.self.inside.kept.items c.self.invariant c.in-Ok.place nothing (with_pools c.self.inside.kept.items c.in-Ok.place c.args.pools) c.args.key place.0 (place.1 nothing) (place.1 nothing) k)

pub returns-in-Err-clause-kept : goal.returns-in-Err-clause-kept
returns-in-Err-clause-kept g c = λ k.
    let gap : IsGap c.self.inside.kept.items c.args.key c.in-Err.place = rw c.as_slice.ensures.value at (MatchResult-at_err _ _ _ c.in-Err.is c.find.ensures.place) in
    rw (← c.self.view_is) (ap (λ ks. kept_pools ks k) c.insert.ensures.items ∙ changed_gap c.self.inside.kept.items c.in-Err.place _ gap k)

pub returns-in-Ok-clause-rises : goal.returns-in-Ok-clause-rises
returns-in-Ok-clause-rises g c = invariant_of-self g c

pub returns-in-Err-clause-rises : goal.returns-in-Err-clause-rises
returns-in-Err-clause-rises g c = invariant_of-self-in-Err g c
