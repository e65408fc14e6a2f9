-- The numbers of the refusals.
use Rattle.std.specs.Prelude.{ℕ}
use Rattle.wire_frame.specs.declared.fault.Fault.{Fault}
use Rattle.wire_frame.specs.declared.fault.Fault.TheVariants.{NoSuchVf, NotOpen, BadOffset, BadRange, TooLong, BadFrame, AlreadyOpen, HistoryFull, NoMemory, BadMake}

-- the number that scripts and replies show
abbrev pub number_of : Fault → ℕ
number_of NoSuchVf = 1
number_of NotOpen = 2
number_of BadOffset = 3
number_of BadRange = 4
number_of TooLong = 5
number_of BadFrame = 6
number_of AlreadyOpen = 7
number_of HistoryFull = 8
number_of NoMemory = 9
number_of BadMake = 10
