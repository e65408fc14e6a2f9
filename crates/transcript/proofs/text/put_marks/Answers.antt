-- The pools that got any are those whose marks are written, one by one from the lowest.
use Rattle.std.proofs.Common.{rules, ◌≡◌, ℕ, List, ◌++◌, take, append_assoc, append-nil, get_or, sym, ap, ◌∙◌, arith}
use Rattle.transcript.specs.Text.{mark_text}
use Rattle.transcript.proofs.Marks.{marks_of, marks_whole, marks_none, marks_lowest, marks_fit}
use Rattle.transcript.proofs.text.put_marks.Goals as goal

-- one mark more, of the lowest of the pools that are left
next : (held more left : List ℕ) (pool vectors mask : ℕ) → more ≡ held ++ mark_text pool vectors → vectors ≡ mask
    → (before : List ℕ) → before ≡ mark_text pool mask ++ left → more ++ left ≡ held ++ before
next held more left pool vectors mask grown same before one =
    (λ i. grown i ++ left) ∙ append_assoc held (mark_text pool vectors) left ∙ (λ i. held ++ (mark_text pool (same i) ++ left)) ∙ ap (λ (t : List ℕ). held ++ t) (sym one)

pub loop-pool-init : goal.loop-pool-init
loop-pool-init c = record {
  inside = omega (arith, c.requires);
  whole = (λ i. take c.args.at c.args.room.now ++ marks_of (c.into_iter-pool-iterator.ensures.into_iter_gives i) 0 c.args.messages.now)
      ∙ ap (λ (t : List ℕ). take c.args.at c.args.room.now ++ t) (marks_whole c.pools-pool-items.result c.args.messages.now c.masks_are_small.ensures.length c.pools-pool-items.ensures);
}

pub put_mark-end-requires : goal.put_mark-end-requires
put_mark-end-requires c =
    let inv = c.loop-pool.invariant in
    let fits = marks_fit _ _ _ _ _ _ c.masks_are_small.ensures.length c.masks_are_small.ensures.below (omega (arith, c.requires)) inv.inside inv.whole in
    omega (arith, fits, c.requires, c.loop-pool.auto.room)

pub loop-pool-preserved : goal.loop-pool-preserved
loop-pool-preserved c =
    let inv = c.loop-pool.invariant in
    let fits = marks_fit _ _ _ _ _ _ c.masks_are_small.ensures.length c.masks_are_small.ensures.below (omega (arith, c.requires)) inv.inside inv.whole in
    record {
      inside = omega (arith, c.put_mark-end.ensures.end, c.put_mark-end.auto.room, c.loop-pool.auto.room, fits, c.requires);
      whole = next (take c.loop-pool.end c.loop-pool.room) (take c.put_mark-end.result c.put_mark-end.new.room) _ c.in-Some.pool _ _ (search rules) c.to.ensures _
          (marks_lowest c.loop-pool.pool-iterator c.in-Some.pool c.next.new.self c.args.messages.now c.masks_are_small.ensures.length c.in-Some.ensures.steps) ∙ inv.whole;
    }

pub returns : goal.returns
returns c =
    let masks = c.args.messages.now in
    let inv = c.loop-pool.invariant in
    let fits = marks_fit _ _ _ _ _ _ c.masks_are_small.ensures.length c.masks_are_small.ensures.below (omega (arith, c.requires)) inv.inside inv.whole in
    record {
      end = omega (arith, fits);
      text = sym (append-nil _)
          ∙ ap (λ (t : List ℕ). take c.loop-pool.end c.loop-pool.room ++ t) (sym (marks_none masks) ∙ ap (λ (w : ℕ). marks_of w 0 masks) (sym c.in-None.ensures.steps.0))
          ∙ inv.whole;
    }
