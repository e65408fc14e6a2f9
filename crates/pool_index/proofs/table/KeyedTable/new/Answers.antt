-- No valid entry holds a key, and the index is empty.
use Rattle.pool_index.proofs.EntryLemmas.{nothing_held}
use Rattle.pool_index.proofs.table.KeyedTable.new.Goals as goal

pub invariant_of-result : goal.invariant_of-result
invariant_of-result g c = rw c.new.ensures (c.requires.few, nothing_held g.row.N (g.W.KeyedWords.entries c.args.words) c.requires.empty)
