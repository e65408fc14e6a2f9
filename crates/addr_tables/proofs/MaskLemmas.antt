-- A mask of 64 pools is 0 exactly where no pool passes the test that its bits are.
use Rattle.std.proofs.Common.{arith, ◌≡◌, ℕ, zero, suc, ◌<◌, ◌^◌, Bool, true, false, not, sym, ap, ◌∙◌, eqb, get_or}
use Rattle.std.specs.Int.{w64, trailing_zeros}
use Rattle.std.specs.List.{list_any, range_with_len}
use Rattle.std.proofs.lemmas.Bool.Decides.{nat_tests}
use Rattle.std.proofs.lemmas.List.Folds.{list_any_at}
use Rattle.std.proofs.lemmas.List.FromFn.{length-range_with_len, get_or-range_with_len}
use Rattle.std.proofs.lemmas.Nat.Bits.{bit_at-trailing_zeros}
use Rattle.wire_frame.specs.Bits.{has_bit}
use Rattle.wire_frame.proofs.BitLemmas.{has_bit_zero}
use Rattle.pool_index.proofs.EntryLemmas.{none_passes}

one_passes : (t : ℕ → Bool) (n p : ℕ) → p < n → t p ≡ true → list_any t (range_with_len 0 n) ≡ true
one_passes t n p h passes =
    let place : get_or (range_with_len 0 n) p 0 ≡ p = omega (arith, get_or-range_with_len 0 n p 0 h) in
    list_any_at t (range_with_len 0 n) p 0 (omega (arith, length-range_with_len 0 n)) (ap t place ∙ passes)

-- a number that is not 0 has a bit, its lowest
has_some_bit : (mask : ℕ) → 0 < mask → mask < 2 ^ 64 → (trailing_zeros w64 mask < 64) × (has_bit mask (trailing_zeros w64 mask) ≡ true)
unfolding has_bit
has_some_bit mask some fits =
    let lowest = bit_at-trailing_zeros w64 mask some fits in
    (lowest.0, ap (λ b. eqb b 1) lowest.1)

pub mask_is_zero : (mask : ℕ) (t : ℕ → Bool) → mask < 2 ^ 64 → ((p : ℕ) → p < 64 → has_bit mask p ≡ t p) → eqb mask 0 ≡ not (list_any t (range_with_len 0 64))
mask_is_zero zero t fits bits = sym (ap not (none_passes t 0 64 (λ p h. sym (bits p h) ∙ has_bit_zero p)))
mask_is_zero (suc n) t fits bits =
    let lowest = has_some_bit (suc n) (omega arith) fits in
    let other : eqb (suc n) 0 ≡ false = grind (arith, nat_tests) in
    other ∙ sym (ap not (one_passes t 64 (trailing_zeros w64 (suc n)) lowest.0 (sym (bits _ lowest.0) ∙ lowest.1)))
