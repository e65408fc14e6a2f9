-- The numbers and the statuses of the program's faults.
use Rattle.std.specs.Prelude.{ℕ, Bool, true, false}
use Rattle.modes.specs.declared.fault.Fault.{Fault}
use Rattle.script.specs.declared.fault.Fault.{Fault as Unread}
use Rattle.script.specs.declared.fault.Fault.TheVariants.{BadScript, Io, NoMemory}
use Rattle.modes.specs.declared.fault.Fault.TheVariants.{BadScript, NoSuchVf, Usage, Io, NoMemory, HistoryFull}

-- the number that tells a fault from the others and from the device's
abbrev pub number_of : Fault → ℕ
number_of (BadScript _) = 11
number_of NoSuchVf = 1
number_of Usage = 0
number_of Io = 12
number_of NoMemory = 9
number_of HistoryFull = 8

-- the status that the program ends with
abbrev pub status_of : Fault → ℕ
status_of (BadScript _) = 1
status_of NoSuchVf = 2
status_of Usage = 2
status_of Io = 2
status_of NoMemory = 3
status_of HistoryFull = 3

-- the fault may come after the first event: a write failed, or a growth of memory was refused
abbrev pub is_late : Fault → Bool
is_late Io = true
is_late NoMemory = true
is_late _ = false

-- the fault of the program for a fault of reading
abbrev pub of_reading : Unread → Fault
of_reading (BadScript line) = BadScript line
of_reading Io = Io
of_reading NoMemory = NoMemory
