-- The law, by its lemma.
use Rattle.pool_filter.proofs.WriteLemmas.{settings_at-other}
use Rattle.pool_filter.proofs.laws.other_words_stay.Goals as goal

pub returns : goal.returns
returns c = settings_at-other
