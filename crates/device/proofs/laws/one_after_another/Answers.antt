-- The law, by its lemmas.
use Rattle.device.proofs.Append.{answers_append, world_after_append, keep_append, seen_by_answers_append, lone_after_append, lone_seen_append}
use Rattle.device.proofs.laws.one_after_another.Goals as goal

pub returns-clause-answers : goal.returns-clause-answers
returns-clause-answers c = answers_append

pub returns-clause-world : goal.returns-clause-world
returns-clause-world c = world_after_append

pub returns-clause-kept : goal.returns-clause-kept
returns-clause-kept c = keep_append

pub returns-clause-seen : goal.returns-clause-seen
returns-clause-seen c = seen_by_answers_append

pub returns-clause-lone_state : goal.returns-clause-lone_state
returns-clause-lone_state c = lone_after_append

pub returns-clause-lone_seen : goal.returns-clause-lone_seen
returns-clause-lone_seen c = lone_seen_append
