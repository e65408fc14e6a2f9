-- The base is the live device, and what was kept is counted.
use Rattle.std.proofs.Common.{arith, ◌≡◌, ◌+◌, ◌≤◌, ◌∙◌, sym, ap, subst, length, sum}
use Rattle.irq_line.specs.Line.{raised}
use Rattle.device.specs.World.{World}
use Rattle.history.specs.Recording.{Logged, made_like}
use Rattle.recorder.specs.Legal.{AreAllowed, kept_raises}
use Rattle.recorder.specs.Held.{Held, folded}
use Rattle.recorder.proofs.CallLemmas.{allowed_none, kept_raises_few, nothing_kept}
use Rattle.recorder.proofs.recorded.Recorded.rebase.Goals as goal

pub invariant_of-self-2 : goal.invariant_of-self-2
invariant_of-self-2 g c =
    let old = c.self.invariant in
    let before = c.self.inside.recording in
    let live : World = before.live in
    let there = sym (c.rebase.ensures.rebased c.if-not-rebase.false) in
    let count : c.len-count.result ≡ length before.kept = c.len-count.ensures.len ∙ ap length c.history.ensures.kept in
    let all : sum c.tally-tallies.result ≡ sum c.self.inside.tallies + length before.kept =
    c.tally-tallies.ensures.all ∙ ap (λ (h : Held). folded h + length h.kept) (sym c.self.view_is) in
    record {
      allowed = subst (λ (r : Logged). AreAllowed r.kept) there allowed_none;
      first = λ none. subst (λ (r : Logged). r.base ≡ made_like r.live) there
          (nothing_kept before.kept before.base live (made_like live) (omega arith) c.agrees.ensures.leads.world (old.first (omega arith)));
      some = subst (λ (r : Logged). 1 ≤ r.cap) there old.some;
      few = subst (λ (r : Logged). r.cap ≤ 65536) there old.few;
      folded = omega (arith, old.folded, count, all);
      few_folded = let f = old.few_folded in let k = c.if-count-self.false in omega arith;
      callers = c.tally-tallies.ensures.long;
      counted = subst (λ (r : Logged). c.self.inside.book.total ≡ sum c.tally-tallies.result + length r.kept) there (omega (arith, old.counted, all));
      shares = old.shares;
      raises = λ p v low. let r = old.raises p v low in let k = kept_raises_few p v before.kept in
          subst (λ (r : Logged). (kept_raises p v r.kept ≤ raised p v c.self.inside.line.raises) × (raised p v c.self.inside.line.raises ≤ kept_raises p v r.kept + (c.self.inside.folded + c.len-count.result))) there (omega arith, omega arith);
    }
