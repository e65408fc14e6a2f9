-- The array is the list of the sets once no pool is left.
use Rattle.std.proofs.Common.{sym, ap, ◌∙◌, refl, arith, get_or}
use Rattle.std.specs.Int.{bit_at}
use Rattle.std.proofs.lemmas.Nat.Bits.{bit_at-zero}
use Rattle.std.proofs.lemmas.List.{get_or-replicate, length-set, ext_get_or}
use Rattle.wire_frame.proofs.BitLemmas.{done_more}
use Rattle.irq_causes.proofs.MessageLemmas.{got_none}
use Rattle.irq_causes.proofs.messages.Messages.to_masks.Goals as goal

pub loop-pool-init : goal.loop-pool-init
loop-pool-init c = (
  refl,
  λ k below left.
      get_or-replicate 64 k 0 0 below ∙ sym (got_none c.pools-pool-items.result _ k (ap (λ w. bit_at w k) (sym c.into_iter-pool-iterator.ensures.into_iter_gives) ∙ left) (c.pools-pool-items.ensures k below)),
)

pub loop-pool-preserved : goal.loop-pool-preserved
loop-pool-preserved c =
    let place = c.from.ensures ∙ c.get.ensures.value in
    let vectors = c.bits.ensures.value ∙ c.to.ensures in
    let taken = c.in-Some.ensures.steps in
    rw place (
      length-set c.loop-pool.masks c.in-Some.pool c.bits.result ∙ c.loop-pool.invariant.0,
      done_more (λ k. get_or c.args.self.now k 0) c.loop-pool.masks 64 c.loop-pool.pool-iterator c.in-Some.pool c.next.new.self c.bits.result 0 taken (omega (arith, taken.below, c.loop-pool.invariant.0)) vectors c.loop-pool.invariant.1,
    )

pub returns : goal.returns
returns c =
    let none = c.in-None.ensures.steps.0 in
    ext_get_or 0 c.loop-pool.masks c.args.self.now (c.loop-pool.invariant.0 ∙ sym c.masks_are_small.ensures.length)
    (λ k below. c.loop-pool.invariant.1 k (omega (arith, below, c.loop-pool.invariant.0)) (ap (λ w. bit_at w k) none ∙ bit_at-zero k))
