-- What stands in front of a message (Header).
use Rattle.std.specs.Prelude.{ℕ, ◌/◌, ◌%◌, ◌||◌, ◌==◌, not, nat_lt, List, drop, length, Result, Ok, Err, if◌then◌else◌}
use Rattle.vfio_user.specs.Numbers.{HEADER, MOST}
use Rattle.vfio_user.specs.Fields.{number}
use Rattle.vfio_user.specs.declared.header.Header.{Header}
use Rattle.vfio_user.specs.declared.header.Broken.{Broken}
use Rattle.vfio_user.specs.declared.header.Broken.TheVariants.{Short, BadSize, NotACommand}

-- the header with these numbers: bits 3:0 of the flags are the type, which is 0 for a command, and bit 4 is No_reply
abbrev pub made : ℕ → ℕ → ℕ → ℕ → Result Header Broken
made id command size flags =
    if nat_lt size HEADER || nat_lt MOST size then Err BadSize
    else (if not (flags % 16 == 0) then Err NotACommand
    else Ok (record { id = id; command = command; size = size; wants_reply = flags / 16 % 2 == 0 }))

-- id, command, size and flags stand one behind the other, and then the error, which means nothing in a command
unfoldable pub header_of : List ℕ → Result Header Broken
header_of bytes =
    if nat_lt (length bytes) HEADER then Err Short
    else made (number 2 bytes) (number 2 (drop 2 bytes)) (number 4 (drop 2 (drop 2 bytes))) (number 4 (drop 4 (drop 2 (drop 2 bytes))))
