-- The words of sixteen bytes of a memory.
use Rattle.std.proofs.Common.{◌≡◌, ℕ, ◌+◌, ◌≤◌, List, length, slice_range, arith, ap, refl}
use Rattle.std.proofs.lemmas.List.{places, same_lists}
use Rattle.byteorder.specs.Endian.{little_number}
use Rattle.guest_memory.specs.Memory.{word_at, word_bytes, two_words}

-- eight of the sixteen bytes are bytes of the memory
eight : (bytes memory : List ℕ) (a b n : ℕ) → bytes ≡ slice_range memory a (a + 16) → b ≡ a + n → n ≤ 8 → slice_range bytes n (n + 8) ≡ slice_range memory b (b + 8)
eight bytes memory a b n is at few = rw (is, at) (same_lists _ _ (grind (arith, places)) (λ k d h. grind (arith, places)))

pub low_word : (bytes memory : List ℕ) (a : ℕ) → bytes ≡ slice_range memory a (a + 16) → word_at 0 bytes ≡ word_at a memory
unfolding word_at
low_word bytes memory a is = ap (little_number 8) (eight bytes memory a a 0 is (omega arith) (omega arith))

pub high_word : (bytes memory : List ℕ) (a : ℕ) → bytes ≡ slice_range memory a (a + 16) → word_at 8 bytes ≡ word_at (a + 8) memory
unfolding word_at
high_word bytes memory a is = ap (little_number 8) (eight bytes memory a (a + 8) 8 is refl (omega arith))

pub length_word : (word : ℕ) → length (word_bytes word) ≡ 8
unfolding word_bytes
length_word word = refl

pub length_two : (low high : ℕ) → length (two_words low high) ≡ 16
unfolding two_words
length_two low high = refl
