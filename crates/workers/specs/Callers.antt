-- Which caller does an event of a script.
use Rattle.std.specs.Prelude.{ℕ, Bool, true, false, not, ◌&&◌, ◌==◌, List, slice_index_or, if◌then◌else◌}
use Rattle.device.specs.Events.{Event}
use Rattle.device.specs.declared.event.Event.TheVariants.{End}
use Rattle.device.specs.declared.event.Whose.{Whose}
use Rattle.device.specs.declared.event.Whose.TheVariants.{Function, Physical, Wire}
use Rattle.device.specs.Whose.{whose_of}
use Rattle.history.specs.declared.caller.Caller.{Caller}
use Rattle.history.specs.declared.caller.Caller.TheVariants.{Port, Driver, Pump, Service}
use Rattle.recorder.specs.Callers.{is_of_service}

-- who does an event before `go`: those of the physical function its driver, and all others the service
abbrev pub first_caller : Whose → Caller
first_caller Physical = Driver
first_caller (Function p) = Service
first_caller Wire = Service

abbrev pub caller_before : Event → Caller
caller_before e = first_caller (whose_of e)

-- an event is the end of a function
abbrev pub is_end : Event → Bool
is_end (End p) = true
is_end _ = false

-- what the service does of a function's own events, whoever has the function: what no guest can make, but for the end, which the port of
-- a guest has too
abbrev pub is_of_host : Event → Bool
is_of_host e = is_of_service e && not (is_end e)

-- who does what a guest may do itself: the pool's port, where it has one
abbrev pub port_or_service : List Bool → ℕ → Caller
port_or_service ports p = if slice_index_or ports p false then Port p else Service

-- who does an event after `go`, where these pools have a port
abbrev pub caller_among : List Bool → Bool → Whose → Caller
caller_among ports of_host (Function p) = if of_host then Service else port_or_service ports p
caller_among ports of_host Physical = Driver
caller_among ports of_host Wire = Pump

abbrev pub caller_of : List Bool → Event → Caller
caller_of ports e = caller_among ports (is_of_host e) (whose_of e)

-- ---- callers among each other

-- whether two callers are one
abbrev pub is_same : Caller → Caller → Bool
is_same (Port p) (Port q) = p == q
is_same Driver Driver = true
is_same Pump Pump = true
is_same Service Service = true
is_same _ _ = false

-- whether a caller is a guest's port
abbrev pub is_port : Caller → Bool
is_port (Port p) = true
is_port _ = false
