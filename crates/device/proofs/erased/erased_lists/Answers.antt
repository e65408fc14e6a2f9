-- The law, by its lemmas.
use Rattle.device.proofs.WithoutGroup.{erased_twice, erase_append}
use Rattle.device.proofs.erased.erased_lists.Goals as goal

pub returns-clause-twice : goal.returns-clause-twice
returns-clause-twice c = erased_twice

pub returns-clause-append : goal.returns-clause-append
returns-clause-append c = erase_append
