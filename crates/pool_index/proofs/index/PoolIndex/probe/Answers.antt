-- The pools at the place of the key are its pools.
use Rattle.std.proofs.Common.{◌≡◌, ◌∙◌, sym, ap}
use Rattle.std.specs.Option.{unwrap_or}
use Rattle.std.proofs.lemmas.Result.{MatchResult-at_ok, MatchResult-at_err}
use Rattle.pool_index.specs.Index.{Rises, IsPlace, IsGap}
use Rattle.pool_index.proofs.IndexLemmas.{kept_at, kept_gap}
use Rattle.pool_index.proofs.index.PoolIndex.probe.Goals as goal

pub returns-in-Ok-default-clause-pools : goal.returns-in-Ok-default-clause-pools
returns-in-Ok-default-clause-pools g c =
    let slice : c.as_slice-kept.result.now ≡ c.args.self.now = c.as_slice-kept.ensures.value ∙ c.self.view_is in
    let rises : Rises 0 c.args.self.now = rw (← c.self.view_is) c.self.invariant in
    let place : IsPlace c.args.self.now c.args.key c.in-Ok-default.place = rw slice at (MatchResult-at_ok _ _ _ c.in-Ok-default.is-0 c.find.ensures.place) in
    rw slice (sym (ap (λ found. unwrap_or found 0) (kept_at 0 c.args.self.now rises c.in-Ok-default.place _ c.args.key place.0 (place.1 _))))

pub returns-in-Err-default-clause-pools : goal.returns-in-Err-default-clause-pools
returns-in-Err-default-clause-pools g c =
    let slice : c.as_slice-kept.result.now ≡ c.args.self.now = c.as_slice-kept.ensures.value ∙ c.self.view_is in
    let gap : IsGap c.args.self.now c.args.key c.in-Err-default.field-0-0 = rw slice at (MatchResult-at_err _ _ _ c.in-Err-default.is-0 c.find.ensures.place) in
    sym (ap (λ found. unwrap_or found 0) (kept_gap c.args.self.now c.args.key c.in-Err-default.field-0-0 gap))
