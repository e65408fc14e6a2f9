-- The law, by its lemmas.
use Rattle.device.proofs.WithoutGroup.{same_whatever, accesses_whatever, fresh_whatever}
use Rattle.device.proofs.erased.whatever_a_group_does.Goals as goal

pub returns-clause-from_any : goal.returns-clause-from_any
returns-clause-from_any c = same_whatever

pub returns-clause-accesses : goal.returns-clause-accesses
returns-clause-accesses c = accesses_whatever

pub returns-clause-from_fresh : goal.returns-clause-from_fresh
returns-clause-from_fresh c = fresh_whatever
