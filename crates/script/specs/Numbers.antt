-- The numbers that words write.
use Rattle.std.specs.Prelude.{ℕ, Bool, List, [], ◌∷◌, ◌+◌, ◌*◌, ◌-◌, ◌^◌, ◌&&◌, Option, Some, None, drop, length, slice_index, nat_eq, nat_le, nat_lt, if◌then◌else◌}

-- the value of a hexadecimal digit of either case as ASCII, and 255 for all other bytes
unfoldable pub digit_value : ℕ → ℕ
digit_value d =
    if nat_lt d 48 then 255 else
    if nat_lt d 58 then d - 48 else
    if nat_lt d 65 then 255 else
    if nat_lt d 71 then d - 55 else
    if nat_lt d 97 then 255 else
    if nat_lt d 103 then d - 87 else 255

-- the number of digits to a base, after others that gave a number; none where one is no digit or it isn't below 2^64
abbrev pub number_on : ℕ → ℕ → List ℕ → Option ℕ
number_on base n [] = Some n
number_on base n (d ∷ ds) =
    if nat_lt (digit_value d) base && nat_lt (n * base + digit_value d) (2 ^ 64)
    then number_on base (n * base + digit_value d) ds else None

-- the number of one or more digits to a base
unfoldable pub number_to : ℕ → List ℕ → Option ℕ
number_to base [] = None
number_to base (d ∷ ds) = number_on base 0 (d ∷ ds)

-- whether a word begins with 0x
abbrev pub is_marked : List ℕ → Bool
is_marked word = nat_le 2 (length word) && nat_eq (slice_index word 0) 48 && nat_eq (slice_index word 1) 120

-- the number that a word writes: 0x and 1 to 16 hexadecimal digits, or decimal digits
unfoldable pub number_of : List ℕ → Option ℕ
number_of word =
    if is_marked word
    then (if nat_le (length word) 18 then number_to 16 (drop 2 word) else None)
    else number_to 10 word
