-- A device over blocks that guests write while it works on them.
use Rattle.std.specs.Prelude.{List, true}
use Rattle.live_memory.specs.Trace.{Access}
use Rattle.device.specs.Accesses.{accesses_by}
use Rattle.device.specs.Events.{Event}
use Rattle.device.specs.Live.{TracedWorld, told_world, AreListed, AreMet}
use Rattle.device.specs.World.{World, step}

-- the device has that world, and the accesses that its functions' memories noted up to now
abbrev pub untouched : World → List (List Access) → TracedWorld
untouched w noted = record { world = w; accesses = noted }

-- what a call met: before it each guest wrote what the call read of its memory
abbrev pub met_by : TracedWorld → TracedWorld → TracedWorld
met_by old new = record { world = told_world old.accesses new.accesses old.world; accesses = new.accesses }

-- the device takes an event
abbrev pub taken_by : TracedWorld → Event → TracedWorld
taken_by met e = record { world = (step met.world e).world; accesses = met.accesses }

-- no byte of a function's memory was read in the call after it was read or written there
abbrev pub AreOnce : TracedWorld → TracedWorld → Type 0
AreOnce old new = AreMet true old.accesses new.accesses old.world

-- what the call read and wrote of each function's memory is just what the event lists in the device that it met, in that order
abbrev pub AreAllListed : TracedWorld → Event → TracedWorld → Type 0
AreAllListed old e new = AreListed (accesses_by (met_by old new).world e) old.accesses new.accesses
