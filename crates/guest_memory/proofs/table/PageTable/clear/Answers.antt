-- No leaf is there, and the room stays.
use Rattle.std.proofs.Common.{◌≡◌, ℕ, List, length, replicate, rules, arith, ap, ◌∙◌}
use Rattle.std.proofs.lemmas.List.{places, same_lists}
use Rattle.guest_memory.proofs.TableLemmas.{is_leafed_none}
use Rattle.guest_memory.proofs.table.PageTable.clear.Goals as goal

pub invariant_of-self : goal.invariant_of-self
invariant_of-self c =
    let all : c.forget.new.top ≡ replicate (length c.self.inside.top.items) 255 = c.forget.ensures ∙ ap (λ (places : List ℕ). replicate (length places) 255) c.deref_mut.ensures.value in
    is_leafed_none _ _ _ (length c.self.inside.top.items) _ _ (rw all (same_lists _ _ (grind (arith, places)) (λ k d h. grind (arith, places)))) c.self.invariant.few c.self.invariant.covers (omega (arith, c.self.invariant.fits)) (search rules) (search rules)
