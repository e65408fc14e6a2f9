-- The words of sixteen bytes that were read are the memory's.
use Rattle.std.proofs.Common.{◌∙◌}
use Rattle.guest_memory.proofs.WordsLemmas.{low_word, high_word}
use Rattle.guest_memory.proofs.flat.FlatMem.read_words_apart.Goals as goal

pub returns-clause-low : goal.returns-clause-low
returns-clause-low c = c.words_of.ensures.low ∙ low_word _ _ c.args.addr c.read_pages.ensures

pub returns-clause-high : goal.returns-clause-high
returns-clause-high c = c.words_of.ensures.high ∙ high_word _ _ c.args.addr c.read_pages.ensures
