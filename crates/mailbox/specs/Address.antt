-- Addresses, as numbers below 2^48: byte 0 in bits 7:0.
use Rattle.std.specs.Prelude.{ℕ, ◌+◌, ◌*◌, ◌/◌, ◌%◌, ◌^◌, Bool, false, not, ◌&&◌, ◌==◌, nat_lt, Option, Some, None}
use Rattle.byteorder.specs.Endian.{little_number}
use Rattle.wire_frame.specs.declared.address.Mac.{Mac}

-- of six bytes
abbrev pub number_of : Mac → ℕ
number_of mac = little_number 6 mac.0

-- of words 1 and 2 of a message: bytes 0 to 3 in the first word, 4 and 5 in bits 15:0 of the second
abbrev pub address_from : ℕ → ℕ → ℕ
address_from first second = first + second % 2 ^ 16 * 2 ^ 32

-- the number is there, and is that one
abbrev pub is_number : Option ℕ → ℕ → Bool
is_number None a = false
is_number (Some b) a = b == a

-- one station's address, of six bytes, and not 0: bit 0 of the first byte is 0
abbrev pub is_unicast : ℕ → Bool
is_unicast a = nat_lt a (2 ^ 48) && (a % 2 == 0 && not (a == 0))

-- bytes 0 to 3, and bytes 4 and 5
abbrev pub low_part : Option ℕ → ℕ
low_part None = 0
low_part (Some a) = a % 2 ^ 32

abbrev pub high_part : Option ℕ → ℕ
high_part None = 0
high_part (Some a) = a / 2 ^ 32 % 2 ^ 16
