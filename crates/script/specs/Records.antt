-- The events of records, whose bytes stand elsewhere.
use Rattle.std.specs.Prelude.{ℕ, List, ◌≤◌, length}
use Rattle.wire_frame.specs.Frame.{IsFrame}
use Rattle.device.specs.declared.event.Event.{Event as EventOf}
use Rattle.device.specs.declared.event.Event.TheVariants.{MemWrite, Wire}
use Rattle.device.specs.Events.{Event, mapped}
use Rattle.script.specs.declared.store.Stored.{Stored}
use Rattle.script.specs.Store.{Lies, bytes_at}

abbrev pub Record : Type 0
Record = EventOf Stored Stored

-- the event of a record
abbrev pub event_at : List ℕ → Record → Event
event_at pool = mapped (bytes_at pool) (bytes_at pool)

-- bytes that an event brings are there, and are what its kind may have
abbrev pub Fits : List ℕ → Record → Type 0
Fits pool (MemWrite p at span) = Lies pool span × (length (bytes_at pool span) ≤ 2048)
Fits pool (Wire span) = Lies pool span × IsFrame (bytes_at pool span)
Fits pool _ = Unit {0}
