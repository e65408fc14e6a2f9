-- Bits of what the code computes: or, and, shifts, two words as one, a loop that sets bits.
use Rattle.std.proofs.Common.{arith, ◌≡◌, ◌≢◌, ℕ, zero, suc, ◌+◌, ◌-◌, ◌*◌, ◌/◌, ◌%◌, ◌^◌, ◌<◌, ◌≤◌, min, max, Bool, true, false, ◌&&◌, ◌||◌, List, [], ◌∷◌, length, set, refl, sym, ap, ◌∙◌, eqb, eqb-true, add-one, ltb, get_or, bit_and, bit_or, ⊎_elim}
use Rattle.std.specs.Int.{bit_at, bit_not, trailing_zeros, w64}
use Rattle.std.specs.List.{list_any, range_with_len}
use Rattle.std.proofs.lemmas.Bool.Decides.{nat_tests}
use Rattle.std.proofs.lemmas.Bool.{eqb-false, cases_lt}
use Rattle.std.proofs.Math.Bool.{or-true, or-false, or_assoc}
use Rattle.std.proofs.lemmas.Nat.{or_shifted, or_comm, and_le_l}
use Rattle.std.proofs.lemmas.Nat.Bits.{bit_at_or, bit_at_and, bit_at-lt, bit_at-zero, bit_at_above, bit_at_ones, bit_at_set_same, bit_at_set_other, bit_at_clear_same, bit_at_clear_other, bit_at-trailing_zeros, bit_at_cat_low, bit_at_cat_high, shr_and_one}
use Rattle.std.proofs.lemmas.List.{get_or-set_same, get_or-set_other}
use Rattle.wire_frame.specs.Bits.{has_bit, has_bit_in}
use Rattle.wire_frame.specs.Pools.{IsLowestTaken}

max-one : (x y : ℕ) → x < 2 → y < 2 → eqb (max x y) 1 ≡ (eqb x 1 || eqb y 1)
max-one zero zero h k = refl
max-one zero (suc zero) h k = refl
max-one (suc zero) zero h k = refl
max-one (suc zero) (suc zero) h k = refl
max-one (suc (suc x)) y h k = absurd (omega arith)
max-one zero (suc (suc y)) h k = absurd (omega arith)
max-one (suc zero) (suc (suc y)) h k = absurd (omega arith)

min-one : (x y : ℕ) → x < 2 → y < 2 → eqb (min x y) 1 ≡ (eqb x 1 && eqb y 1)
min-one zero zero h k = refl
min-one zero (suc zero) h k = refl
min-one (suc zero) zero h k = refl
min-one (suc zero) (suc zero) h k = refl
min-one (suc (suc x)) y h k = absurd (omega arith)
min-one zero (suc (suc y)) h k = absurd (omega arith)
min-one (suc zero) (suc (suc y)) h k = absurd (omega arith)

pub has_bit_or : (a b i : ℕ) → has_bit (bit_or a b) i ≡ (has_bit a i || has_bit b i)
unfolding has_bit
has_bit_or a b i = ap (λ v. eqb v 1) (bit_at_or a b i) ∙ max-one _ _ (bit_at-lt a i) (bit_at-lt b i)

pub has_bit_and : (a b i : ℕ) → has_bit (bit_and a b) i ≡ (has_bit a i && has_bit b i)
unfolding has_bit
has_bit_and a b i = ap (λ v. eqb v 1) (bit_at_and a b i) ∙ min-one _ _ (bit_at-lt a i) (bit_at-lt b i)

pub has_bit_zero : (i : ℕ) → has_bit 0 i ≡ false
unfolding has_bit
has_bit_zero i = ap (λ v. eqb v 1) (bit_at-zero i)

-- `u64::MAX` has every bit below 64
pub has_bit_ones : (i : ℕ) → i < 64 → has_bit 18446744073709551615 i ≡ true
unfolding has_bit
has_bit_ones i h = ap (λ v. eqb v 1) (bit_at_ones 64 i h)

-- the test `(n >> i) & 1 == 1`
pub has_bit_shr : (n i : ℕ) → eqb (bit_and (n / 2 ^ i) 1) 1 ≡ has_bit n i
unfolding has_bit
has_bit_shr n i = ap (λ v. eqb v 1) (shr_and_one n i)

-- `low | high << 32` is the two words
pub has_bit_two_words : (low high p : ℕ) → low < 2 ^ 32 → high < 2 ^ 32 → p < 64 → has_bit (bit_or low (high * 4294967296 % 18446744073709551616)) p ≡ has_bit_in (low ∷ high ∷ []) p
unfolding has_bit
has_bit_two_words low high p l h small =
    ap (λ n. eqb (bit_at n p) 1) merged ∙ ⊎_elim below above (cases_lt p 32)
  where
    fits : high * 4294967296 % 18446744073709551616 ≡ high * 2 ^ 32
    fits = omega arith

    merged : bit_or low (high * 4294967296 % 18446744073709551616) ≡ high * 2 ^ 32 + low
    merged = ap (bit_or low) fits ∙ or_comm low (high * 2 ^ 32) ∙ or_shifted high 32 low l

    below : p < 32 → eqb (bit_at (high * 2 ^ 32 + low) p) 1 ≡ eqb (bit_at (get_or (low ∷ high ∷ []) (p / 32) 0) (p % 32)) 1
    below h =
        let word : p / 32 ≡ 0 = omega arith in
        let bit : p % 32 ≡ p = omega arith in
        rw (word, bit) (ap (λ v. eqb v 1) (bit_at_cat_low high 32 low p h))

    above : 32 ≤ p → eqb (bit_at (high * 2 ^ 32 + low) p) 1 ≡ eqb (bit_at (get_or (low ∷ high ∷ []) (p / 32) 0) (p % 32)) 1
    above h =
        let word : p / 32 ≡ 1 = omega arith in
        let bit : p % 32 ≡ p - 32 = omega arith in
        rw (word, bit) (ap (λ v. eqb v 1) (bit_at_cat_high high 32 low p l h))

-- `pools | 1 << k`
pub has_bit_set : (pools k p : ℕ) → k < 64 → has_bit (bit_or pools (1 * 2 ^ k % 18446744073709551616)) p ≡ (has_bit pools p || eqb k p)
unfolding has_bit
has_bit_set pools k p h = go (eqb k p) refl
  where
    go : (b : Bool) → eqb k p ≡ b → eqb (bit_at (bit_or pools (1 * 2 ^ k % 18446744073709551616)) p) 1 ≡ (eqb (bit_at pools p) 1 || b)
    go true e = let same : k ≡ p = eqb-true k p e in rw (← same) (ap (λ v. eqb v 1) (bit_at_set_same w64 pools k h) ∙ sym (or-true _))
    go false e = ap (λ v. eqb v 1) (bit_at_set_other w64 pools k h p (λ same. eqb-false k p e (sym same))) ∙ sym (or-false _)

-- A loop over the entries joins the pools of those that pass a test: the mask has a pool where some entry up to here has it.

list_any-range_suc : (t : ℕ → Bool) (a n : ℕ) → list_any t (range_with_len a (suc n)) ≡ (list_any t (range_with_len a n) || t (a + n))
list_any-range_suc t a zero = let place : a ≡ a + 0 = omega arith in or-false (t a) ∙ ap t place
list_any-range_suc t a (suc n) =
    let place : a + 1 + n ≡ a + suc n = omega arith in
    ap (λ b. t a || b) (list_any-range_suc t (a + 1) n ∙ ap (λ k. list_any t (range_with_len (a + 1) n) || t k) place)
    ∙ sym (or_assoc (t a) (list_any t (range_with_len (a + 1) n)) (t (a + suc n)))

pub list_any-range_more : (t : ℕ → Bool) (n : ℕ) → list_any t (range_with_len 0 (n + 1)) ≡ (list_any t (range_with_len 0 n) || t n)
list_any-range_more t n =
    let place : 0 + n ≡ n = omega arith in
    rw add-one (list_any-range_suc t 0 n ∙ ap (λ k. list_any t (range_with_len 0 n) || t k) place)

-- the mask of entry n is joined
pub joined_more : (t : ℕ → Bool) (pools mask p n : ℕ) → has_bit pools p ≡ list_any t (range_with_len 0 n) → has_bit mask p ≡ t n → has_bit (bit_or pools mask) p ≡ list_any t (range_with_len 0 (n + 1))
joined_more t pools mask p n so_far entry =
    has_bit_or pools mask p ∙ ap (λ b. b || has_bit mask p) so_far ∙ ap (λ b. list_any t (range_with_len 0 n) || b) entry ∙ sym (list_any-range_more t n)

-- ---- the lowest pool is taken from a set

pub lowest_taken : (rest : ℕ) → 0 < rest → rest < 2 ^ 64
    → IsLowestTaken rest (trailing_zeros w64 rest) (bit_and rest (bit_not w64 (1 * 2 ^ trailing_zeros w64 rest % 18446744073709551616)))
lowest_taken rest some fits = record {
  below = found.0;
  there = found.1;
  lowest = found.2;
  gone = gone;
  others = λ k other. others k other (ltb k 64) refl;
  fewer = fewer (eqb less rest) refl;
}
  where
    lowest : ℕ
    lowest = trailing_zeros w64 rest

    less : ℕ
    less = bit_and rest (bit_not w64 (1 * 2 ^ lowest % 18446744073709551616))

    found : (lowest < 64) × (bit_at rest lowest ≡ 1) × ((k : ℕ) → k < lowest → bit_at rest k ≡ 0)
    found = bit_at-trailing_zeros w64 rest some fits

    gone : bit_at less lowest ≡ 0
    gone = bit_at_clear_same w64 rest lowest found.0

    others : (k : ℕ) → k ≢ lowest → (inside : Bool) → ltb k 64 ≡ inside → bit_at less k ≡ bit_at rest k
    others k other true is = bit_at_clear_other w64 rest lowest found.0 k (grind (arith, nat_tests)) other
    others k other false is =
        let none : bit_at rest k ≡ 0 = bit_at_above rest 64 k fits (grind (arith, nat_tests)) in
        omega (arith, none, bit_at_and rest (bit_not w64 (1 * 2 ^ lowest % 18446744073709551616)) k)

    fewer : (same : Bool) → eqb less rest ≡ same → less < rest
    fewer true is = absurd (omega (arith, ap (λ n. bit_at n lowest) (eqb-true less rest is), found.1, gone))
    fewer false is = omega (arith, and_le_l rest (bit_not w64 (1 * 2 ^ lowest % 18446744073709551616)), eqb-false less rest is)

-- a pool that is left after one was taken is another one, and was there before
pub still_left : (rest p after k : ℕ) → IsLowestTaken rest p after → bit_at after k ≡ 1 → (k ≢ p) × (bit_at rest k ≡ 1)
still_left rest p after k taken left =
    let other : k ≢ p = λ same. absurd (omega (arith, left, ap (bit_at after) same, taken.gone)) in
    (other, sym (taken.others k other) ∙ left)

-- what is done at the pool that is taken is done at one place more
pub done_more : {X : Type 0} (f : ℕ → X) (xs : List X) (n rest p after : ℕ) (x d : X) → IsLowestTaken rest p after → p < length xs → x ≡ f p
    → ((k : ℕ) → k < n → bit_at rest k ≡ 0 → get_or xs k d ≡ f k)
    → (k : ℕ) → k < n → bit_at after k ≡ 0 → get_or (set xs p x) k d ≡ f k
done_more f xs n rest p after x d taken there is done k below left = at (eqb k p) refl
  where
    at : (same : Bool) → eqb k p ≡ same → get_or (set xs p x) k d ≡ f k
    at true e = let here : k ≡ p = eqb-true k p e in rw here (get_or-set_same xs p x d there ∙ is)
    at false e =
        let elsewhere : k ≢ p = eqb-false k p e in
        get_or-set_other xs p k x d elsewhere ∙ done k below (sym (taken.others k elsewhere) ∙ left)
