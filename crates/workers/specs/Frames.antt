-- The frames that come from the wire.
use Rattle.std.specs.Prelude.{ℕ, List, [], ◌∷◌}
use Rattle.device.specs.Events.{Event}
use Rattle.device.specs.declared.event.Event.TheVariants.{Wire}
use Rattle.wire_pump.specs.declared.pumping.PumpEnd.{PumpEnd}
use Rattle.wire_pump.specs.declared.pumping.PumpEnd.TheVariants.{Last, Full, Gone}
use Rattle.workers.specs.declared.worker.Came.{Came}
use Rattle.workers.specs.declared.worker.Came.TheVariants.{Last as CameLast, Full as CameFull, Gone as CameGone}

-- the frames of events, in order
abbrev pub frames_of : List Event → List (List ℕ)
frames_of [] = []
frames_of (Wire frame ∷ events) = frame ∷ frames_of events
frames_of (_ ∷ events) = frames_of events

-- how a pump ended, without the event that its door did not take
abbrev pub came_by : PumpEnd → Came
came_by Last = CameLast
came_by (Full event) = CameFull
came_by Gone = CameGone
