-- The law, by its lemmas.
use Rattle.device.proofs.WithoutGroup.{fresh_without, fresh_accesses, kept_without, seen_without, state_without, accesses_without, alike_without, pf_alike}
use Rattle.device.proofs.erased.without_group.Goals as goal

pub returns-clause-from_fresh : goal.returns-clause-from_fresh
returns-clause-from_fresh c = fresh_without

pub returns-clause-fresh_accesses : goal.returns-clause-fresh_accesses
returns-clause-fresh_accesses c = fresh_accesses

pub returns-clause-kept : goal.returns-clause-kept
returns-clause-kept c = kept_without

pub returns-clause-seen : goal.returns-clause-seen
returns-clause-seen c = seen_without

pub returns-clause-state : goal.returns-clause-state
returns-clause-state c = state_without

pub returns-clause-accesses : goal.returns-clause-accesses
returns-clause-accesses c = accesses_without

pub returns-clause-worlds : goal.returns-clause-worlds
returns-clause-worlds c = alike_without

pub returns-clause-pf_words : goal.returns-clause-pf_words
returns-clause-pf_words c = pf_alike
