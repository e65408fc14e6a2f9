-- Which caller may make which event.
use Rattle.std.specs.Prelude.{ℕ, Bool, true, false, not, ◌&&◌, ◌==◌}
use Rattle.device.specs.Events.{Event}
use Rattle.device.specs.declared.event.Event.TheVariants.{Open, End, Serve}
use Rattle.device.specs.declared.event.Whose.{Whose}
use Rattle.device.specs.declared.event.Whose.TheVariants.{Function, Physical, Wire}
use Rattle.device.specs.Whose.{whose_of}
use Rattle.history.specs.declared.caller.Caller.{Caller}
use Rattle.history.specs.declared.caller.Caller.TheVariants.{Port, Driver, Pump, Service}

-- a function is opened, ended or served
abbrev pub is_of_service : Event → Bool
is_of_service (Open p) = true
is_of_service (End p) = true
is_of_service (Serve p q) = true
is_of_service _ = false

abbrev pub is_functions : ℕ → Whose → Bool
is_functions p (Function q) = p == q
is_functions p Physical = false
is_functions p Wire = false

abbrev pub is_physical : Whose → Bool
is_physical (Function p) = false
is_physical Physical = true
is_physical Wire = false

abbrev pub is_of_wire : Whose → Bool
is_of_wire (Function p) = false
is_of_wire Physical = false
is_of_wire Wire = true

-- a port may make the other events of its own pool's function: read and write its registers and its memory, and reset it
abbrev pub is_own : ℕ → Event → Bool
is_own p e = not (is_of_service e) && is_functions p (whose_of e)

-- the driver may read, write and reset the physical function
abbrev pub is_of_driver : Event → Bool
is_of_driver e = is_physical (whose_of e)

-- the pump may bring frames from the wire
abbrev pub is_frame : Event → Bool
is_frame e = is_of_wire (whose_of e)

-- and the service may make any event
abbrev pub may : Caller → Event → Bool
may (Port p) e = is_own p e
may Driver e = is_of_driver e
may Pump e = is_frame e
may Service e = true
