-- The law, by its lemma.
use Rattle.pool_filter.proofs.OwnLemmas.{own_initial}
use Rattle.pool_filter.proofs.laws.own_settings_at_first.Goals as goal

pub returns : goal.returns
returns c = λ pool h. own_initial pool
