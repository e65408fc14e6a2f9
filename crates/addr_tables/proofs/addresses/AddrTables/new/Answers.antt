-- No entry is valid where every word is 0.
use Rattle.std.proofs.Common.{arith}
use Rattle.pool_index.proofs.WordLemmas.{no_bit_at}
use Rattle.addr_tables.specs.Addresses.{initial_addresses}
use Rattle.addr_tables.proofs.addresses.AddrTables.new.Goals as goal

pub new-requires-2 : goal.new-requires-2
unfolding initial_addresses
new-requires-2 c = rw c.new.ensures (omega arith, (omega arith, λ e. no_bit_at 128 e 31))
