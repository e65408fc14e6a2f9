-- A page that isn't stored gets the next place; the bytes change only where the write is.
use Rattle.std.proofs.Common.{ℕ, ◌+◌, ◌*◌, ◌/◌, ◌%◌, ◌≤◌, length, arith, ap, sym, ◌∙◌}
use Rattle.guest_memory.proofs.PagesLemmas.{length_paged, free, is_paged_first, write_paged, write_first_paged}
use Rattle.guest_memory.proofs.flat.FlatMem.write_page.Goals as goal

pub store-requires-clause-place : goal.store-requires-clause-place
store-requires-clause-place c =
    let ends : c.args.start + length c.args.source.now ≤ c.self.inside.size = grind (arith, length_paged) in
    let here : c.args.start / 2048 ≤ c.self.inside.size / 2048 = omega (arith, ends) in
    let place = c.place-place.ensures in
    let none = sym place ∙ c.if-place.true in
    let f = free _ _ _ _ _ _ c.self.invariant here none in
    f.place

pub store-requires-clause-entry : goal.store-requires-clause-entry
store-requires-clause-entry c =
    let ends : c.args.start + length c.args.source.now ≤ c.self.inside.size = grind (arith, length_paged) in
    let here : c.args.start / 2048 ≤ c.self.inside.size / 2048 = omega (arith, ends) in
    let place = c.place-place.ensures in
    let none = sym place ∙ c.if-place.true in
    let f = free _ _ _ _ _ _ c.self.invariant here none in
    f.entry

pub store-requires-clause-cells : goal.store-requires-clause-cells
store-requires-clause-cells c =
    let ends : c.args.start + length c.args.source.now ≤ c.self.inside.size = grind (arith, length_paged) in
    let here : c.args.start / 2048 ≤ c.self.inside.size / 2048 = omega (arith, ends) in
    let place = c.place-place.ensures in
    let none = sym place ∙ c.if-place.true in
    let f = free _ _ _ _ _ _ c.self.invariant here none in
    f.cells

pub invariant_of-self : goal.invariant_of-self
invariant_of-self c =
    let ends : c.args.start + length c.args.source.now ≤ c.self.inside.size = grind (arith, length_paged) in
    let here : c.args.start / 2048 ≤ c.self.inside.size / 2048 = omega (arith, ends) in
    let place = c.place-place.ensures in
    let none = sym place ∙ c.if-place.true in
    is_paged_first _ _ _ _ _ _ _ _ _ _ c.self.invariant here none c.store.ensures.table c.store.ensures.len (omega (arith, c.store.ensures.len)) c.store.ensures.room

pub returns-then-place : goal.returns-then-place
returns-then-place c =
    let ends : c.args.start + length c.args.source.now ≤ c.self.inside.size = grind (arith, length_paged) in
    let place = c.place-place.ensures in
    let none = sym place ∙ c.if-place.true in
    rw (c.store.ensures.table, c.store.ensures.cells, ← c.self.view_is) (write_first_paged _ _ _ _ _ _ _ c.self.invariant c.requires.one ends none)

pub returns-else-place : goal.returns-else-place
returns-else-place c =
    let ends : c.args.start + length c.args.source.now ≤ c.self.inside.size = grind (arith, length_paged) in
    let place = c.place-place.ensures in
    rw (c.write_within.ensures.cells, ← c.self.view_is) (write_paged _ _ _ _ _ _ _ c.self.invariant.apart c.self.invariant.filled (ap (λ (n : ℕ). n * 2048 + c.args.start % 2048) place) c.requires.one ends (λ mark. c.if-place.false (place ∙ mark)))
