-- The ends of ports that the service records when all workers have ended.
use Rattle.std.specs.Prelude.{◌≡◌, ℕ, List, map}
use Rattle.std.specs.List.{Contains}
use Rattle.device.specs.Events.{Event}
use Rattle.device.specs.declared.event.Event.TheVariants.{End}
use Rattle.history.specs.declared.caller.Caller.TheVariants.{Service}
use Rattle.recorder.specs.Held.{HasAsked, CallerLog}
use Rattle.guest_port.specs.Calls.{CallingPort}
use Rattle.guest_port.specs.Notes.{Known}

-- the pool of a port, beside which its note stands
abbrev pub pool_of : CallingPort × Known → ℕ
pool_of p = p.0.port.pool

-- a port's end, as an event
abbrev pub port_end : CallingPort × Known → Event
port_end p = End (pool_of p)

-- one of the shares is the service's, and the last that it asked are the ends of these ports, each once, in order
pub record HaveEnded (ports : List (CallingPort × Known)) (shares : List CallerLog) : Type 0 where
  pub before : CallerLog
  pub after : CallerLog
  pub service : before.caller ≡ Service
  pub asked : HasAsked (map port_end ports) before after
  pub among : Contains shares after
