-- Bits and fields of words.
use Rattle.std.specs.Prelude.{ℕ, ◌+◌, ◌*◌, ◌/◌, ◌%◌, ◌^◌, Bool, List, [], ◌∷◌, ◌==◌, slice_index, bit_or}
use Rattle.std.specs.Int.{bit_at}

-- whether bit i of the number is 1
unfoldable pub has_bit : ℕ → ℕ → Bool
has_bit n i = bit_at n i == 1

-- the number with bit i at 1
abbrev pub with_bit : ℕ → ℕ → ℕ
with_bit n i = bit_or n (2 ^ i)

-- the bits from low on, as many as there are in size
abbrev pub field : ℕ → ℕ → ℕ → ℕ
field n low size = n / 2 ^ low % 2 ^ size

-- bit i of the words, the first of which has bits 0 to 31
abbrev pub has_bit_in : List ℕ → ℕ → Bool
has_bit_in words i = has_bit (slice_index words (i / 32)) (i % 32)

-- the two words of entry e, of a table with two words an entry
abbrev pub two_words : List ℕ → ℕ → List ℕ
two_words words e = slice_index words (2 * e) ∷ slice_index words (2 * e + 1) ∷ []
