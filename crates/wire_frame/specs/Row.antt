-- A row of a register map: words of 32 bits, where they stand, and what a write keeps.
use Rattle.std.specs.Prelude.{ℕ, ◌-◌, ◌/◌, ◌%◌, Bool, ◌&&◌, ◌==◌, nat_le, nat_lt, List, Option, Some, None, slice_index, slice_set, bit_and, if◌then◌else◌}
use Rattle.std.specs.Option.{option_or}
use Rattle.wire_frame.specs.declared.row.Row.{Row}

-- the row's word that an offset names, counted from 0
abbrev pub place : Row → ℕ → ℕ
place row offset = (offset - row.first) / row.stride

-- the offset names a word of the row
abbrev pub is_in : Row → ℕ → Bool
is_in row offset = nat_le row.first offset && ((offset - row.first) % row.stride == 0 && nat_lt (place row offset) row.count)

-- the place of the word, if the offset names one
abbrev pub place_of : Row → ℕ → Option ℕ
place_of row offset = if is_in row offset then Some (place row offset) else None

-- the first, or else the second
infixl 10 ◌or◌
abbrev pub ◌or◌ : Option ℕ → Option ℕ → Option ℕ
a or b = option_or a b

-- what a read of the offset gives, if it names one of these words
unfoldable pub word_at : Row → List ℕ → ℕ → Option ℕ
word_at row words offset = if is_in row offset then Some (slice_index words (place row offset)) else None

-- the words after a write of x
unfoldable pub words_after : Row → List ℕ → ℕ → ℕ → List ℕ
words_after row words offset x = if is_in row offset then slice_set words (place row offset) (bit_and x row.mask) else words

-- the same for a register of one word
unfoldable pub one_at : ℕ → ℕ → ℕ → Option ℕ
one_at first word offset = if offset == first then Some word else None

unfoldable pub one_after : ℕ → ℕ → ℕ → ℕ → ℕ → ℕ
one_after first mask word offset x = if offset == first then bit_and x mask else word
