-- What a door knows of the calls by which it took events, and of the event that it refused.
use Rattle.std.specs.Prelude.{◌≡◌, ℕ, List, Option, Some, None, length, take}
use Rattle.device.specs.Events.{Event}
use Rattle.history.specs.Entries.{Entry}
use Rattle.recorder.specs.Held.{CallerLog}
use Rattle.device.specs.declared.event.Event.TheVariants.{Wire}
use Rattle.shadow.specs.declared.Shadow.{Shadow}

-- the door to a device that threads share: the pump's share, and the event that came back last, unless one was taken since
pub record SharedDoor : Type 0 where
  pub share : CallerLog
  pub refused : Option Event

-- the event of a frame that was shown, if one was
abbrev pub event_shown : Option (Shadow (List ℕ)) → Option Event
event_shown (Some frame) = Some (Wire frame.value)
event_shown None = None

-- the calls before stand first among those now, each with its answer
abbrev pub StandFirst : List Entry → List Entry → Type 0
StandFirst old new = take (length old) new ≡ old
