-- The law, by its lemmas.
use Rattle.live_run.proofs.WithoutGroup.{seen_whatever, state_whatever, accesses_whatever}
use Rattle.live_run.proofs.erased.whatever_a_group_does.Goals as goal

pub returns-clause-seen : goal.returns-clause-seen
returns-clause-seen c = seen_whatever

pub returns-clause-state : goal.returns-clause-state
returns-clause-state c = state_whatever

pub returns-clause-accesses : goal.returns-clause-accesses
returns-clause-accesses c = accesses_whatever
