-- What each worker is to do, and what it leaves once it has done all of it.
use Rattle.std.specs.Prelude.{◌≡◌, ◌++◌, Bool, true, false, List, [], ◌∷◌, MatchOption, Option}
use Rattle.history.specs.declared.caller.Caller.TheVariants.{Port}
use Rattle.recorder.specs.Held.{CallerLog, having_calls, left_of}
use Rattle.guest_port.specs.Calls.{CallingPort}
use Rattle.guest_port.specs.Notes.{Known}
use Rattle.workers.specs.Asked.{HasLeft}
use Rattle.workers.specs.Calls.{HasClosed}
use Rattle.workers.specs.Plans.{Planned, own_events}

pub data Duty : Type 0 where
  -- a port's worker does the events of its pool, and closes the port
  OfPort : (plan : Planned) → (port : CallingPort) → Duty
  -- the worker of a share does the events of the share's caller; the pump does so with the wire's reader
  OfShare : (plan : Planned) → (share : CallerLog) → Duty

abbrev pub port_duty : Planned → CallingPort × Known → Duty
port_duty plan p = OfPort plan p.0

-- a port did its pool's events and was closed: its share is what is left, with its calls, unless it was closed before
pub record HasHandedBack (plan : Planned) (old : CallingPort) (left : Option CallerLog) : Type 0 where
  pub new : CallingPort
  pub done : HasClosed (own_events plan (Port old.port.pool)) old new
  pub share : MatchOption left (old.port.is_closed ≡ true) (λ share. (old.port.is_closed ≡ false) × (share.caller ≡ Port old.port.pool)
      × (share ≡ having_calls new.calls new.made))

-- what is left of a worker's share once it did all that it was to do
abbrev pub IsDone : Duty → Option CallerLog → Type 0
IsDone (OfPort plan port) left = HasHandedBack plan port left
IsDone (OfShare plan share) left = HasLeft (own_events plan share.caller) share left

-- the same of each of many, in order
abbrev pub AreDone : List Duty → List (Option CallerLog) → Type 0
AreDone [] [] = Unit
AreDone (duty ∷ duties) (left ∷ rest) = IsDone duty left × AreDone duties rest
AreDone _ _ = ⊥

-- all of them did all that they were to do, and what each left stands behind other shares, in order
pub record HaveDone (duties : List Duty) (old new : List CallerLog) : Type 0 where
  pub left : List (Option CallerLog)
  pub done : AreDone duties left
  pub behind : new ≡ old ++ left_of left

-- the workers that were started so far, and whether a start was refused
pub record Started : Type 0 where
  pub was_refused : Bool
  pub duties : List Duty
