-- A leaf that isn't there gets the next place; of the entries that one changes which is set.
use Rattle.std.proofs.Common.{◌≡◌, ℕ, ◌+◌, ◌*◌, ◌/◌, ◌%◌, ◌<◌, length, set, arith, ap, sym, ◌∙◌}
use Rattle.std.proofs.lemmas.List.{length-set}
use Rattle.guest_memory.specs.Table.{leaf_in}
use Rattle.guest_memory.proofs.TableLemmas.{length_entries, entries_set, entries_first, is_leafed_more, leaf_free, leaf_read}
use Rattle.guest_memory.proofs.table.PageTable.set.Goals as goal

pub index-stands-requires : goal.index-stands-requires
index-stands-requires c =
    let within : c.args.page < c.self.inside.pages = grind (arith, length_entries) in
    omega (arith, within, c.self.invariant.covers)

pub index_mut-requires : goal.index_mut-requires
index_mut-requires c =
    let within : c.args.page < c.self.inside.pages = grind (arith, length_entries) in
    omega (arith, within, c.self.invariant.covers)

pub add_leaf-requires : goal.add_leaf-requires
add_leaf-requires c =
    let within : c.args.page < c.self.inside.pages = grind (arith, length_entries) in
    let there : c.args.page / 128 < length c.self.inside.top.items = omega (arith, within, c.self.invariant.covers) in
    let none : leaf_in c.self.inside.top.items (c.args.page / 128) ≡ 255 = leaf_read _ _ _ there c.index-stands.ensures ∙ c.if-stands.true in
    let below = leaf_free _ _ _ _ _ _ c.self.invariant there none in
    omega (arith, below, c.self.invariant.filled, c.self.invariant.fits)

pub invariant_of-self : goal.invariant_of-self
invariant_of-self c =
    let within : c.args.page < c.self.inside.pages = grind (arith, length_entries) in
    let there : c.args.page / 128 < length c.self.inside.top.items = omega (arith, within, c.self.invariant.covers) in
    let none : leaf_in c.self.inside.top.items (c.args.page / 128) ≡ 255 = leaf_read _ _ _ there c.index-stands.ensures ∙ c.if-stands.true in
    let end : c.len-end.result ≡ length c.self.inside.leaves.items = omega (arith, c.len-end.ensures) in
    let long = length-set {A = ℕ} c.add_leaf.new.leaves.items _ c.args.place ∙ c.add_leaf.ensures.len in
    is_leafed_more _ _ _ _ _ _ _ _ _ _ c.self.invariant there none (ap (λ (n : ℕ). set c.self.inside.top.items (c.args.page / 128) (n / 128)) end) long (omega (arith, long)) c.add_leaf.ensures.capacity

pub index_mut-requires-else-stands : goal.index_mut-requires-else-stands
index_mut-requires-else-stands c =
    let within : c.args.page < c.self.inside.pages = grind (arith, length_entries) in
    let there : c.args.page / 128 < length c.self.inside.top.items = omega (arith, within, c.self.invariant.covers) in
    let stands = leaf_read _ _ _ there c.index-stands.ensures in
    let below = (c.self.invariant.apart (c.args.page / 128) (λ mark. c.if-stands.false (sym stands ∙ mark))).0 in
    omega (arith, below, stands, c.self.invariant.filled)

pub returns-then-stands : goal.returns-then-stands
returns-then-stands c =
    let within : c.args.page < c.self.inside.pages = grind (arith, length_entries) in
    let there : c.args.page / 128 < length c.self.inside.top.items = omega (arith, within, c.self.invariant.covers) in
    let none : leaf_in c.self.inside.top.items (c.args.page / 128) ≡ 255 = leaf_read _ _ _ there c.index-stands.ensures ∙ c.if-stands.true in
    let end : c.len-end.result ≡ length c.self.inside.leaves.items = omega (arith, c.len-end.ensures) in
    rw (c.add_leaf.ensures.leaves, end, ← c.self.view_is) (entries_first _ _ _ _ _ _ _ c.self.invariant within none)

pub returns-else-stands : goal.returns-else-stands
returns-else-stands c =
    let within : c.args.page < c.self.inside.pages = grind (arith, length_entries) in
    let there : c.args.page / 128 < length c.self.inside.top.items = omega (arith, within, c.self.invariant.covers) in
    let stands = leaf_read _ _ _ there c.index-stands.ensures in
    rw (← c.self.view_is) (entries_set _ _ _ _ _ _ _ c.self.invariant.apart c.self.invariant.filled (ap (λ (n : ℕ). n * 128 + c.args.page % 128) (sym stands)) within (λ mark. c.if-stands.false (sym stands ∙ mark)))
