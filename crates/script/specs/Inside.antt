-- What the events of a script are seen as, and what is true of their fields.
use Rattle.std.specs.Prelude.{List, map}
use Rattle.std.specs.List.{All}
use Rattle.device.specs.Events.{Event}
use Rattle.script.specs.declared.events.Events.TheInside.{Inside}
use Rattle.script.specs.Records.{Fits, event_at}

abbrev pub events_of : Inside → List Event
events_of s = map (event_at s.store) s.records.items

pub record IsKept (s : Inside) : Type 0 where
  pub fit : All (Fits s.store) s.records.items
