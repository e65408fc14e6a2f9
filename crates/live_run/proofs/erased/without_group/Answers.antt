-- The law, by its lemmas.
use Rattle.live_run.proofs.WithoutGroup.{seen_erased, state_erased, accesses_erased, worlds_erased, answered_erased}
use Rattle.live_run.proofs.erased.without_group.Goals as goal

pub returns-clause-seen : goal.returns-clause-seen
returns-clause-seen c = seen_erased

pub returns-clause-state : goal.returns-clause-state
returns-clause-state c = state_erased

pub returns-clause-accesses : goal.returns-clause-accesses
returns-clause-accesses c = accesses_erased

pub returns-clause-worlds : goal.returns-clause-worlds
returns-clause-worlds c = worlds_erased

pub returns-clause-answered : goal.returns-clause-answered
returns-clause-answered c = answered_erased
