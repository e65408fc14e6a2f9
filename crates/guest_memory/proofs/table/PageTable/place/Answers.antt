-- An entry is that of its leaf; where the leaf isn't there, its place is past all of them.
use Rattle.std.proofs.Common.{◌/◌, ◌<◌, length, arith}
use Rattle.std.proofs.lemmas.List.{places}
use Rattle.guest_memory.proofs.TableLemmas.{length_entries, get_entries, leaf_read}
use Rattle.guest_memory.proofs.table.PageTable.place.Goals as goal

pub returns-then-at-leaves : goal.returns-then-at-leaves
returns-then-at-leaves c =
    let within : c.args.page < c.self.inside.pages = grind (arith, length_entries) in
    let there : c.args.page / 128 < length c.self.inside.top.items = omega (arith, within, c.self.invariant.covers) in
    let leaf = leaf_read _ _ _ there c.index.ensures in
    rw (c.as_slice-leaves.ensures.value, ← c.self.view_is) (grind (arith, places, leaf, get_entries c.self.inside.pages c.self.inside.top.items c.self.inside.leaves.items c.args.page 65535 within, c.if-at-leaves.true, c.as_slice-leaves.ensures.value))

pub returns-else-at-leaves : goal.returns-else-at-leaves
returns-else-at-leaves c =
    let within : c.args.page < c.self.inside.pages = grind (arith, length_entries) in
    let there : c.args.page / 128 < length c.self.inside.top.items = omega (arith, within, c.self.invariant.covers) in
    let leaf = leaf_read _ _ _ there c.index.ensures in
    rw (← c.self.view_is) (grind (arith, places, leaf, get_entries c.self.inside.pages c.self.inside.top.items c.self.inside.leaves.items c.args.page 65535 within, c.if-at-leaves.false, c.as_slice-leaves.ensures.value))
