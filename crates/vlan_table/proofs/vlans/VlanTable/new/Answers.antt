-- No entry is valid where every word is 0.
use Rattle.std.proofs.Common.{arith}
use Rattle.pool_index.proofs.WordLemmas.{no_bit_at}
use Rattle.vlan_table.specs.Vlans.{initial_vlans}
use Rattle.vlan_table.proofs.vlans.VlanTable.new.Goals as goal

pub new-requires-2 : goal.new-requires-2
unfolding initial_vlans
new-requires-2 c = rw c.new.ensures (omega arith, (omega arith, λ e. no_bit_at 64 e 31))
