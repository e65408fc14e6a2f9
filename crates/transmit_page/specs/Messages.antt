-- Which messages of vfio-user touch the registers of the page, and which reply gives the page to the client. A message has its command in
-- bytes 2 and 3 and flags in bytes 8 to 11; REGION_WRITE has an offset in bytes 16 to 23 and a region in bytes 24 to 27, and the reply
-- to DEVICE_GET_REGION_INFO has flags in bytes 20 to 23.
use Rattle.std.specs.Prelude.{ℕ, Bool, ◌&&◌, ◌||◌, ◌==◌, nat_le, List, length, drop, Option, Some, None, if◌then◌else◌}
use Rattle.std.specs.Int.{bit_at}
use Rattle.byteorder.specs.Endian.{little_number}
use Rattle.transmit_page.specs.declared.words.TransmitRegister.{TransmitRegister}
use Rattle.transmit_page.specs.declared.messages.Touched.{Touched}
use Rattle.transmit_page.specs.declared.messages.Touched.TheVariants.{Nothing, One, All}
use Rattle.transmit_page.specs.Words.{register_at}

-- the number in n bytes at a place, lowest byte first
abbrev pub number_at : ℕ → ℕ → List ℕ → ℕ
number_at n place bytes = little_number n (drop place bytes)

abbrev pub is_command : ℕ → List ℕ → Bool
is_command command message = nat_le 4 (length message) && (number_at 2 2 message == command)

abbrev pub DEVICE_GET_REGION_INFO : ℕ
DEVICE_GET_REGION_INFO = 5

abbrev pub REGION_WRITE : ℕ
REGION_WRITE = 10

abbrev pub DEVICE_RESET : ℕ
DEVICE_RESET = 13

-- ---- messages

-- BAR 0, and BAR 3, where the vectors of the function are
abbrev pub BAR0 : ℕ
BAR0 = 0

abbrev pub BAR3 : ℕ
BAR3 = 3

-- VFCTRL, and the mailbox's control register VFMAILBOX: to write them may reset the function
abbrev pub VFCTRL : ℕ
VFCTRL = 0x0

abbrev pub VFMAILBOX : ℕ
VFMAILBOX = 0x2FC

abbrev pub of_place : Option (ℕ × TransmitRegister) → Touched
of_place None = Nothing
of_place (Some place) = One place.0 place.1

-- a register of BAR 0 at an offset
abbrev pub touched_in_bar : ℕ → Touched
touched_in_bar offset = if (offset == VFCTRL) || (offset == VFMAILBOX) then All else of_place (register_at offset)

-- a region at an offset, of which the low and the high half are given; the configuration space has a reset of its own
abbrev pub touched_in : ℕ → ℕ → ℕ → Touched
touched_in region low high =
    if region == BAR0
    then (if high == 0 then touched_in_bar low else Nothing)
    else (if region == BAR3 then Nothing else All)

-- what a message may change of the transmit registers
abbrev pub touched : List ℕ → Touched
touched message =
    if is_command DEVICE_RESET message then All
    else (if is_command REGION_WRITE message && nat_le 32 (length message)
    then touched_in (number_at 4 24 message) (number_at 4 16 message) (number_at 4 20 message)
    else Nothing)

-- ---- replies

-- bit 5 of a message's flags: the request failed; bit 2 of a region's: the client may map a part of it
abbrev pub ERROR : ℕ
ERROR = 5

abbrev pub MMAP : ℕ
MMAP = 2

-- a reply that describes a region of which the client may map a part
abbrev pub is_offer : List ℕ → Bool
is_offer reply =
    is_command DEVICE_GET_REGION_INFO reply
    && (nat_le 24 (length reply)
    && ((bit_at (number_at 4 8 reply) ERROR == 0) && (bit_at (number_at 4 20 reply) MMAP == 1)))
