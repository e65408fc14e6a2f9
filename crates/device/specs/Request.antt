-- An event whose bytes and whose frame stand elsewhere, and the event that it stands for.
use Rattle.wire_frame.specs.declared.frame.Frame.{Frame}
use Rattle.device.specs.declared.bytes.MemSlice.{MemSlice}
use Rattle.device.specs.declared.event.Event.{Event as EventOf}
use Rattle.device.specs.Events.{Event, mapped}

abbrev pub Request : Type 0
Request = EventOf MemSlice Frame

abbrev pub event_of : Request → Event
event_of = mapped (λ written. written.bytes.now) (λ frame. frame.bytes.now)
