-- The two words of a list of two are the list, at the places below 64.
use Rattle.std.proofs.Common.{arith, ◌≡◌, ℕ, ◌/◌, ◌<◌, ◌≤◌, List, refl, ⊎_elim}
use Rattle.std.proofs.lemmas.Bool.{cases_lt}
use Rattle.wire_frame.specs.Bits.{has_bit_in, two_words}

pub both_words : (words : List ℕ) (p : ℕ) → p < 64 → has_bit_in (two_words words 0) p ≡ has_bit_in words p
both_words words p h = ⊎_elim low high (cases_lt p 32)
  where
    low : p < 32 → has_bit_in (two_words words 0) p ≡ has_bit_in words p
    low below = let word : p / 32 ≡ 0 = omega arith in rw word refl

    high : 32 ≤ p → has_bit_in (two_words words 0) p ≡ has_bit_in words p
    high above = let word : p / 32 ≡ 1 = omega arith in rw word refl
