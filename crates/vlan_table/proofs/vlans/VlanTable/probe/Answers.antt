-- The words say of the id what the index says, where the VLAN table has it.
use Rattle.std.proofs.Common.{arith, ◌≡◌, true, false, sym, ap, ◌∙◌}
use Rattle.wire_frame.specs.Bits.{has_bit_in}
use Rattle.wire_frame.proofs.BitLemmas.{has_bit_zero}
use Rattle.pool_index.specs.Entries.{is_given}
use Rattle.vlan_table.specs.Vlans.{is_in_entries, has_vlan}
use Rattle.vlan_table.proofs.vlans.VlanTable.probe.Goals as goal

pub returns-then-in_table-clause-pools : goal.returns-then-in_table-clause-pools
unfolding has_vlan is_in_entries is_given
returns-then-in_table-clause-pools c = λ p h.
    let present : has_bit_in c.self.inside.table.table c.args.id ≡ true = rw (← c.words.ensures, ← c.get.ensures.value) (sym c.in_table.ensures ∙ c.if-in_table.true) in
    rw (← c.self.view_is, present) (c.probe.ensures.pools p h ∙ ap (is_in_entries c.self.inside.table p) (c.from.ensures ∙ c.get-then-in_table.ensures.value))

pub returns-then-in_table-clause-few : goal.returns-then-in_table-clause-few
returns-then-in_table-clause-few c = c.probe.ensures.few 7 (omega arith)

pub returns-else-in_table-clause-pools : goal.returns-else-in_table-clause-pools
unfolding has_vlan
returns-else-in_table-clause-pools c = λ p h.
    let absent : has_bit_in c.self.inside.table.table c.args.id ≡ false = rw (← c.words.ensures, ← c.get.ensures.value) (sym c.in_table.ensures ∙ c.if-in_table.false) in
    rw (← c.self.view_is, absent) (has_bit_zero p)
