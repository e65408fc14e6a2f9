-- The events of a script, and whose they are.
use Rattle.std.specs.Prelude.{ℕ, Bool, List, Option, drop, filter, length, take, unwrap_or}
use Rattle.device.specs.Events.{Event}
use Rattle.history.specs.declared.caller.Caller.{Caller}
use Rattle.script.specs.Reading.{Meaning}
use Rattle.workers.specs.Callers.{caller_of, is_same}

pub record Planned : Type 0 where
  -- all events of the script
  pub events : List Event
  -- how many come before `go`, if there is one
  pub go : Option ℕ
  -- for each pool whether it has a port
  pub ports : List Bool

abbrev pub planned : Meaning → List Bool → Planned
planned script ports = record { events = script.events; go = script.go; ports = ports }

-- how many events come before the first one that the workers do
abbrev pub start_of : Planned → ℕ
start_of plan = unwrap_or plan.go (length plan.events)

-- a caller's events after `go`, in the order of the script
unfoldable pub own_events : Planned → Caller → List Event
own_events plan caller = filter (λ e. is_same (caller_of plan.ports e) caller) (drop (start_of plan) plan.events)

-- the events before `go`: all, where there is none
abbrev pub events_before : Meaning → List Event
events_before script = take (unwrap_or script.go (length script.events)) script.events
