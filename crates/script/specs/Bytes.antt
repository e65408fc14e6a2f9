-- The bytes that a word writes.
use Rattle.std.specs.Prelude.{ℕ, Bool, List, [], ◌∷◌, ◌++◌, ◌+◌, ◌*◌, ◌&&◌, ◌==◌, Option, Some, None, nat_lt, nat_le, length, slice_index, drop, replicate, codes, if◌then◌else◌}
use Rattle.std.specs.Str.{bytes_eq}
use Rattle.script.specs.Text.{parts}
use Rattle.script.specs.Numbers.{digit_value, number_to}

-- the byte of two hexadecimal digits, the high one first
unfoldable pub byte_of : ℕ → ℕ → Option ℕ
byte_of high low =
    if nat_lt (digit_value high) 16 && nat_lt (digit_value low) 16
    then Some (digit_value high * 16 + digit_value low) else None

-- these bytes before others, where both are there
abbrev pub before : Option ℕ → Option (List ℕ) → Option (List ℕ)
before (Some byte) (Some bytes) = Some (byte ∷ bytes)
before (Some byte) None = None
before None rest = None

-- the bytes of pairs of digits
unfoldable pub pairs_of : List ℕ → Option (List ℕ)
pairs_of [] = Some []
pairs_of (digit ∷ []) = None
pairs_of (high ∷ low ∷ rest) = before (byte_of high low) (pairs_of rest)

-- a byte so many times, 1 to 9018
abbrev pub repeated : Option ℕ → Option ℕ → Option (List ℕ)
repeated (Some byte) (Some count) = if nat_le 1 count && nat_le count 9018 then Some (replicate count byte) else None
repeated (Some byte) None = None
repeated None count = None

-- a chunk is two digits, `*` and a decimal count
abbrev pub has_count : List ℕ → Bool
has_count chunk = nat_le 3 (length chunk) && slice_index chunk 2 == 42

-- the bytes of a chunk: one that is repeated, or those of at least one pair of digits
unfoldable pub chunk_of : List ℕ → Option (List ℕ)
chunk_of chunk =
    if has_count chunk then repeated (byte_of (slice_index chunk 0) (slice_index chunk 1)) (number_to 10 (drop 3 chunk)) else
    if nat_le 1 (length chunk) then pairs_of chunk else None

-- bytes and those after them, where both are there
abbrev pub joined : Option (List ℕ) → Option (List ℕ) → Option (List ℕ)
joined (Some front) (Some rest) = Some (front ++ rest)
joined (Some front) None = None
joined None rest = None

abbrev pub chunks_of : List (List ℕ) → Option (List ℕ)
chunks_of [] = Some []
chunks_of (chunk ∷ rest) = joined (chunk_of chunk) (chunks_of rest)

-- the bytes that a word writes: none for `-`, or those of chunks with `.` between them
unfoldable pub bytes_of : List ℕ → Option (List ℕ)
bytes_of word = if bytes_eq word (codes "-") then Some [] else chunks_of (parts 46 word)

-- bytes that are no more than `most`
abbrev pub few : ℕ → List ℕ → Option (List ℕ)
few most bytes = if nat_le (length bytes) most then Some bytes else None
