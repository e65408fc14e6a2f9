-- The lowest pool that is left is raised, until none is left.
use Rattle.std.proofs.Common.{refl, sym, ap, ◌∙◌, ◌≡◌, ◌+◌, subst, ℕ}
use Rattle.std.specs.Prelude.{slice_index}
use Rattle.std.specs.Int.{bit_at}
use Rattle.std.proofs.lemmas.Nat.Bits.{bit_at-zero}
use Rattle.irq_line.specs.Line.{DeviceEnd, raised, bit_for}
use Rattle.recorder.proofs.RaiseLemmas.{Done, done_first, done_more}
use Rattle.recorder.proofs.raises.raise_all.Goals as goal

pub loop-pool-init : goal.loop-pool-init
loop-pool-init c =
    let from : ℕ → Type 0 = λ rest. Done c.args.messages.now c.args.line.now.raises rest c.args.line.now.raises in
    (refl, subst from (sym c.into_iter-pool-iterator.ensures.into_iter_gives) (done_first _ _ _ c.pools-pool-items.ensures))

pub loop-pool-preserved : goal.loop-pool-preserved
loop-pool-preserved c =
    let before = c.loop-pool.line.raises in
    let got : (p v : ℕ) → raised p v c.raise.new.self.raises ≡ raised p v before + bit_for p v c.in-Some.pool (slice_index c.args.messages.now c.in-Some.pool) =
    λ p v. c.raise.ensures.counted p v ∙ ap (λ vectors. raised p v before + bit_for p v c.in-Some.pool vectors) c.to.ensures in (
      ap (λ (d : DeviceEnd). d.line) c.raise.ensures.made.2 ∙ c.loop-pool.invariant.0,
      done_more _ _ _ _ _ _ _ c.in-Some.ensures.steps got c.loop-pool.invariant.1,
    )

pub returns-clause-raised : goal.returns-clause-raised
returns-clause-raised c = λ p v below. c.loop-pool.invariant.1.done p v below (ap (λ n. bit_at n p) c.in-None.ensures.steps.0 ∙ bit_at-zero p)
