-- By induction over the events.
use Rattle.std.proofs.Common.{refl, length}
use Rattle.live_run.proofs.Runs.{as_events, live_state, live_sight, live_made}
use Rattle.live_run.proofs.laws.isolation.Goals as goal

pub returns-clause-events : goal.returns-clause-events
returns-clause-events c = λ shared d events noted met same. as_events shared d.world events d.accesses noted (length d.world.functions) refl met same

pub returns-clause-seen : goal.returns-clause-seen
returns-clause-seen c = λ shared p d events noted below few met same. live_sight shared p d.world events d.accesses noted below few met same

pub returns-clause-state : goal.returns-clause-state
returns-clause-state c = λ shared p d events noted below few met. live_state shared p d.world events d.accesses noted below few met

pub returns-clause-accesses : goal.returns-clause-accesses
returns-clause-accesses c = λ shared p d events noted below few met same. live_made shared p d.world events d.accesses noted below few met same
