-- The law, by its lemmas.
use Rattle.device.proofs.ErasedLive.{live_seen_without, live_accesses_without, untouched_outside, live_alike_without}
use Rattle.device.proofs.erased.without_group_live.Goals as goal

pub returns-clause-seen : goal.returns-clause-seen
returns-clause-seen c = live_seen_without

pub returns-clause-accesses : goal.returns-clause-accesses
returns-clause-accesses c = live_accesses_without

pub returns-clause-untouched : goal.returns-clause-untouched
returns-clause-untouched c = untouched_outside

pub returns-clause-worlds : goal.returns-clause-worlds
returns-clause-worlds c = live_alike_without
