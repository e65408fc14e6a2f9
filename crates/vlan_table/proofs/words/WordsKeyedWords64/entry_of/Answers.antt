-- A write at the offset changes words of the entry that it names, and of no other.
use Rattle.vlan_table.proofs.WriteLemmas.{entry_stays}
use Rattle.vlan_table.proofs.words.WordsKeyedWords64.entry_of.Goals as goal

pub returns-clause-others : goal.returns-clause-others
returns-clause-others c = λ words value. entry_stays words c.args.offset value c.entry_at.result (c.entry_at.ensures.entries, c.entry_at.ensures.pools)
