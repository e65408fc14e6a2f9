-- Each turn takes the lowest pool and gives its function the frame, where there is one; once no pool is left, all have got it.
use Rattle.std.proofs.Common.{◌≡◌, ℕ, false, ◌<◌, ◌≤◌, ap, sym, subst, ◌∙◌, arith, refl, rules, nat_eq, get_or, set, length, length-set, get_or-set_other}
use Rattle.std.specs.Int.{bit_at}
use Rattle.std.proofs.lemmas.Nat.Bits.{bit_at-zero}
use Rattle.std.proofs.lemmas.List.{get_or_default}
use Rattle.wire_frame.specs.Bits.{has_bit}
use Rattle.wire_frame.specs.Pools.{IsLowestTaken}
use Rattle.wire_frame.proofs.BitLemmas.{still_left}
use Rattle.vf_unit.specs.Unit.{TracedFunction}
use Rattle.device.specs.Units.{nobody, Offers}
use Rattle.device.proofs.Arrivals.{clear_bit, length-no_messages, no_messages_at}
use Rattle.device.proofs.Deliveries.{kept_from, gets, one_more}
use Rattle.device.proofs.switching.deliver_to_all.Goals as goal

pub loop-pool-init : goal.loop-pool-init
unfolding has_bit
loop-pool-init g c =
    let old = c.args.units.now in
    let all = c.into_iter-pool-iterator.ensures.into_iter_gives in
    let unset : (k : ℕ) → bit_at c.into_iter-pool-iterator.result k ≡ 0 → has_bit c.args.pools k ≡ false = λ k clear. clear_bit c.args.pools k (ap (λ w. bit_at w k) (sym all) ∙ clear) in
    record {
      few = c.requires;
      raised_length = length-no_messages _ c.none-raised.ensures;
      same_length = refl;
      set = λ k bit. ap (λ n. nat_eq n 1) (ap (λ w. bit_at w k) (sym all) ∙ bit);
      left = λ k bit. refl;
      silent = λ k bit. no_messages_at _ c.none-raised.ensures k;
      none = λ k past. no_messages_at _ c.none-raised.ensures k;
      done = λ k below clear. kept_from g.D.Dma.shared (has_bit c.args.pools k) c.args.loopback c.args.frame.bytes.now (get_or old k nobody) _ (unset k clear) (no_messages_at _ c.none-raised.ensures k);
    }

pub offset_bounds-units-place : goal.offset_bounds-units-place
offset_bounds-units-place g c =
    let inside : c.from-place.result < length c.loop-pool.units = omega (arith, c.if-place-units) in
    let inside_first : c.from-place.result < length c.args.units.now = omega (arith, inside, c.loop-pool.invariant.same_length) in
    search rules

pub note-requires : goal.note-requires
note-requires g c = c.loop-pool.invariant.silent _ c.in-Some.ensures.steps.there

pub loop-pool-preserved-then-place-units : goal.loop-pool-preserved-then-place-units
loop-pool-preserved-then-place-units g c =
    let h = c.loop-pool.invariant in
    let rest = c.loop-pool.pool-iterator in
    let after = c.next.new.self in
    let p = c.from-place.result in
    let place : p ≡ c.in-Some.pool = c.from-place.ensures ∙ c.get.ensures.value in
    let taken : IsLowestTaken rest p after = subst (λ i. IsLowestTaken rest i after) (sym place) c.in-Some.ensures.steps in
    let old = c.args.units.now in
    let new = c.deliver_live-vectors.new.self in
    let within : p < length c.loop-pool.units = omega (arith, c.if-place-units) in
    let in_raised : p < length c.loop-pool.raised = omega (arith, h.raised_length, taken.below) in
    let heard : c.note.new.raised ≡ set c.loop-pool.raised p c.deliver_live-vectors.result = c.note.ensures ∙ ap (λ i. set c.loop-pool.raised i c.deliver_live-vectors.result) (sym place) in
    let here_now : TracedFunction = get_or c.loop-pool.units p c.index-units-place.result in
    let unit : here_now ≡ get_or old p nobody = get_or_default c.loop-pool.units p c.index-units-place.result nobody within ∙ h.left p taken.there in
    let offers : Offers g.D.Dma.shared (has_bit c.args.pools p) c.args.loopback c.args.frame.bytes.now (get_or old p nobody) new c.deliver_live-vectors.result =
    subst (λ (u : TracedFunction). Offers g.D.Dma.shared (has_bit c.args.pools p) c.args.loopback c.args.frame.bytes.now u new c.deliver_live-vectors.result) unit
    (gets g.D.Dma.shared (has_bit c.args.pools p) c.args.loopback c.args.frame.bytes.now here_now new c.deliver_live-vectors.result (h.set p taken.there) c.deliver_live-vectors.ensures.function c.deliver_live-vectors.ensures.messages c.deliver_live-vectors.ensures.listed c.deliver_live-vectors.ensures.met c.deliver_live-vectors.ensures.size) in
    record {
      few = rw length-set h.few;
      raised_length = ap length heard ∙ length-set c.loop-pool.raised p c.deliver_live-vectors.result ∙ h.raised_length;
      same_length = length-set c.loop-pool.units p new ∙ h.same_length;
      set = λ k bit. h.set k (still_left rest p after k taken bit).1;
      left = λ k bit. get_or-set_other c.loop-pool.units p k new nobody (still_left rest p after k taken bit).0 ∙ h.left k (still_left rest p after k taken bit).1;
      silent = λ k bit. ap (λ ms. get_or ms k 0) heard ∙ get_or-set_other c.loop-pool.raised p k c.deliver_live-vectors.result 0 (still_left rest p after k taken bit).0 ∙ h.silent k (still_left rest p after k taken bit).1;
      none = λ k past. ap (λ ms. get_or ms k 0) heard ∙ get_or-set_other c.loop-pool.raised p k c.deliver_live-vectors.result 0 (λ here. absurd (omega (arith, here, past, within, h.same_length))) ∙ h.none k past;
      done = one_more g.D.Dma.shared c.args.loopback c.args.frame.bytes.now c.args.pools old c.loop-pool.units c.loop-pool.raised c.note.new.raised rest p after new c.deliver_live-vectors.result taken within in_raised heard offers h.done;
    }

pub loop-pool-preserved : goal.loop-pool-preserved
loop-pool-preserved g c =
    let h = c.loop-pool.invariant in
    let taken = c.in-Some.ensures.steps in
    let rest = c.loop-pool.pool-iterator in
    let after = c.next.new.self in
    let p = c.in-Some.pool in
    let place : c.from-place.result ≡ p = c.from-place.ensures ∙ c.get.ensures.value in
    let past : length c.args.units.now ≤ p = omega (arith, c.if-place-units, h.same_length, place) in
    record {
      few = h.few;
      raised_length = h.raised_length;
      same_length = h.same_length;
      set = λ k bit. h.set k (still_left rest p after k taken bit).1;
      left = λ k bit. h.left k (still_left rest p after k taken bit).1;
      silent = λ k bit. h.silent k (still_left rest p after k taken bit).1;
      none = h.none;
      done = λ k below clear. h.done k below (sym (taken.others k (λ here. absurd (omega (arith, here, below, past)))) ∙ clear);
    }

pub returns-clause-offers : goal.returns-clause-offers
returns-clause-offers g c = λ r below. c.loop-pool.invariant.done r below (ap (λ n. bit_at n r) c.in-None.ensures.steps.0 ∙ bit_at-zero r)
