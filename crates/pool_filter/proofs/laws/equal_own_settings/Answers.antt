-- The law, by its lemmas.
use Rattle.pool_filter.specs.Own.{own}
use Rattle.pool_filter.proofs.OwnLemmas.{equal_say_same, same_are_equal}
use Rattle.pool_filter.proofs.laws.equal_own_settings.Goals as goal

pub returns : goal.returns
returns c = λ s t p q. (equal_say_same (own s p) (own t q), same_are_equal s t p q)
