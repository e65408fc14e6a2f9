-- The Internet checksum (RFC 1071).
use Rattle.std.specs.Prelude.{ℕ, ◌+◌, ◌-◌, ◌*◌, ◌%◌, ◌==◌, List, [], ◌∷◌, ◌++◌, take, drop, slice_index, if◌then◌else◌}
use Rattle.byteorder.specs.Endian.{big_bytes}

-- the sum of the 16-bit words, each with its highest byte first; an odd last byte has a 0 behind it
unfoldable pub word_sum : List ℕ → ℕ
word_sum [] = 0
word_sum (a ∷ []) = a * 256
word_sum (a ∷ (b ∷ rest)) = a * 256 + b + word_sum rest

-- the same sum in ones' complement, 16 bits wide: what is carried out of the highest bit is added at the lowest. So 65536 counts as 1,
-- and 0 comes from 0 alone
unfoldable pub folded : ℕ → ℕ
folded n = if n == 0 then 0 else (n - 1) % 65535 + 1

-- the checksum of bytes: their sum with each bit turned over
abbrev pub checksum : List ℕ → ℕ
checksum bytes = 65535 - folded (word_sum bytes)

-- a checksum as UDP sends it: 0 would say that there is none, so all bits are 1 instead (RFC 768)
abbrev pub never_zero : ℕ → ℕ
never_zero sum = if sum == 0 then 65535 else sum

-- the word whose first byte stands at that place
abbrev pub word_at : ℕ → List ℕ → ℕ
word_at place bytes = slice_index bytes place * 256 + slice_index bytes (place + 1)

-- the bytes with a word written over the two at that place
abbrev pub with_word : ℕ → ℕ → List ℕ → List ℕ
with_word place word bytes = take place bytes ++ (big_bytes 2 word ++ drop (place + 2) bytes)
