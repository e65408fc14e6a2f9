-- What the run of all workers did.
use Rattle.std.specs.Prelude.{◌≡◌, ℕ, ◌+◌, ◌++◌, Bool, true, false, not, List, [], ◌∷◌, filter, length, map, replicate, slice_set, Option}
use Rattle.history.specs.declared.caller.Caller.TheVariants.{Driver, Pump, Service}
use Rattle.recorder.specs.Held.{HasAsked, CallerLog, left_of}
use Rattle.recorder.specs.declared.shares.Shares.{Shares}
use Rattle.guest_port.specs.Calls.{CallingPort}
use Rattle.guest_port.specs.Notes.{Known}
use Rattle.script.specs.Reading.{Meaning}
use Rattle.workers.specs.Duties.{AreDone, Duty, OfShare, port_duty}
use Rattle.workers.specs.Ends.{port_end}
use Rattle.workers.specs.Plans.{Planned, own_events, planned}

-- for each pool whether it has a port, beside those that had one
abbrev pub with_ports : List Bool → List (CallingPort × Known) → List Bool
with_ports pools [] = pools
with_ports pools (p ∷ ports) = with_ports (slice_set pools p.0.port.pool true) ports

-- who does which event, where these ports are handed in
abbrev pub plan_of : Meaning → List (CallingPort × Known) → Planned
plan_of script ports = planned script (with_ports (replicate 64 false) ports)

-- what all workers are to do, in the order of their starts, where the pump and the wire's reader are one
abbrev pub duties_of : {L : Type 0} → Planned → List (CallingPort × Known) → Shares L → List Duty
duties_of plan ports shares = map (port_duty plan) ports ++ OfShare plan shares.pf ∷ OfShare plan shares.pump ∷ OfShare plan shares.service ∷ []

-- a port that is not closed has its share
abbrev pub has_share : CallingPort × Known → Bool
has_share p = not p.0.port.is_closed

-- how many shares come back: those of ports that were not handed out, those that the ports have, and the three that no port has
abbrev pub shares_back : {L : Type 0} → Shares L → List (CallingPort × Known) → ℕ
shares_back shares ports = length (left_of shares.ports.items) + length (filter has_share ports) + 3

-- each worker did all of its own: behind the shares that no worker had stand those that the ports left, in order, and the ones of the
-- driver, of the pump and of the service, which recorded the ports' ends too
pub record HaveRun {L : Type 0} (plan : Planned) (ports : List (CallingPort × Known)) (shares : Shares L) (ended : List CallerLog) : Type 0 where
  pub left : List (Option CallerLog)
  pub ports_done : AreDone (map (port_duty plan) ports) left
  pub pf_left : CallerLog
  pub pf_asked : HasAsked (own_events plan Driver) shares.pf pf_left
  pub pump_left : CallerLog
  pub pump_asked : HasAsked (own_events plan Pump) shares.pump pump_left
  pub service_left : CallerLog
  pub service_asked : HasAsked (own_events plan Service ++ map port_end ports) shares.service service_left
  pub all : ended ≡ left_of shares.ports.items ++ left_of left ++ pf_left ∷ pump_left ∷ service_left ∷ []
