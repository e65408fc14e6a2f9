-- What the tables of digits have.
use Rattle.std.proofs.Common.{◌≡◌, ℕ, zero, suc, ◌+◌, ◌-◌, ◌*◌, ◌/◌, ◌%◌, ◌<◌, ◌≤◌, Bool, true, ◌&&◌, T, eqb, List, [], ◌∷◌, ◌++◌, length, take, drop, get_or, slice_index, slice_range, refl, sym, ap, ◌∙◌, inl, inr, arith, eq-zero-or-pos, eqb→eq}
use Rattle.std.specs.Prelude.{codes, decimal}
use Rattle.std.specs.Int.{to_be_bytes, w32}
use Rattle.std.proofs.lemmas.Fmt.{decimal_digit}
use Rattle.std.proofs.lemmas.Bool.Decides.{nat_tests}
use Rattle.std.proofs.lemmas.List.{drop_more, take-take, take-append-drop}
use Rattle.itoa.proofs.Decimal.{decimal_two}
use Rattle.hex.specs.Hex.{encode_lower, encode_with, lower_digits}
use Rattle.transcript.specs.declared.digits.TheConstants.{PAIRS}
use Rattle.transcript.specs.declared.text.TheConstants.{POOLS}
use lib.Ieee.Fits.{and_l, and_r}

-- ---- tests of each number below one

abbrev all_below : (ℕ → Bool) → ℕ → Bool
all_below test zero = true
all_below test (suc n) = test n && all_below test n

at_each : (test : ℕ → Bool) (n k : ℕ) → T (all_below test n) → k < n → T (test k)
at_each test zero k t h = absurd (omega arith)
at_each test (suc n) k t h =
    elim (eq-zero-or-pos (n - k)) [
      | inl z ↦ let e : k ≡ n = omega arith in rw e (and_l (test n) (all_below test n) t)
      | inr g ↦ at_each test n k (and_r (test n) (all_below test n) t) (omega arith)
    ]

-- ---- two digits for each byte

abbrev is_pair : ℕ → Bool
is_pair b = eqb (get_or PAIRS (2 * b) 0) (get_or lower_digits (b / 16) 0) && eqb (get_or PAIRS (2 * b + 1) 0) (get_or lower_digits (b % 16) 0)

pub byte_digits : (b k : ℕ) → b < 256 → k ≡ b → slice_index PAIRS (2 * k) ∷ slice_index PAIRS (2 * k + 1) ∷ [] ≡ encode_lower (b ∷ [])
unfolding encode_with
byte_digits b k h is =
    let t = at_each is_pair 256 b tt h in
    let high = eqb→eq (get_or PAIRS (2 * b) 0) (get_or lower_digits (b / 16) 0) (and_l _ _ t) in
    let low = eqb→eq (get_or PAIRS (2 * b + 1) 0) (get_or lower_digits (b % 16) 0) (and_r _ _ t) in
    rw is (λ i. high i ∷ low i ∷ [])

pub word_digits : (value : ℕ) (bytes p q r s : List ℕ) → bytes ≡ to_be_bytes w32 value
    → p ≡ encode_lower (get_or bytes 0 0 ∷ []) → q ≡ encode_lower (get_or bytes 1 0 ∷ [])
    → r ≡ encode_lower (get_or bytes 2 0 ∷ []) → s ≡ encode_lower (get_or bytes 3 0 ∷ [])
    → slice_index p 0 ∷ slice_index p 1 ∷ slice_index q 0 ∷ slice_index q 1 ∷ slice_index r 0 ∷ slice_index r 1 ∷ slice_index s 0 ∷ slice_index s 1 ∷ []
    ≡ encode_lower (to_be_bytes w32 value)
unfolding encode_with
word_digits value bytes p q r s is f g h k =
    (λ i. slice_index (f i) 0 ∷ slice_index (f i) 1 ∷ slice_index (g i) 0 ∷ slice_index (g i) 1 ∷ slice_index (h i) 0 ∷ slice_index (h i) 1 ∷ slice_index (k i) 0 ∷ slice_index (k i) 1 ∷ [])
    ∙ ap (λ (xs : List ℕ). encode_lower (get_or xs 0 0 ∷ get_or xs 1 0 ∷ get_or xs 2 0 ∷ get_or xs 3 0 ∷ [])) is

digits-append : (xs ys : List ℕ) → encode_lower (xs ++ ys) ≡ encode_lower xs ++ encode_lower ys
unfolding encode_with
digits-append [] ys = refl
digits-append (x ∷ xs) ys = ap (λ (t : List ℕ). get_or lower_digits (x / 16) 0 ∷ get_or lower_digits (x % 16) 0 ∷ t) (digits-append xs ys)

-- digits of a front and of the rest
pub digits_split : (xs front rest : List ℕ) (n : ℕ) → front ≡ take n xs → rest ≡ drop n xs → encode_lower xs ≡ encode_lower front ++ encode_lower rest
digits_split xs front rest n is left =
    ap encode_lower (sym (take-append-drop n xs)) ∙ digits-append (take n xs) (drop n xs)
    ∙ (λ i. encode_lower (sym is i) ++ encode_lower (sym left i))

pub digits_none : (xs : List ℕ) → eqb (length xs) 0 ≡ true → encode_lower xs ≡ []
unfolding encode_with
digits_none [] none = refl
digits_none (x ∷ xs) none = let some : length (x ∷ xs) ≡ 0 = grind (arith, nat_tests) in absurd (omega (arith, some))

-- ---- the number of a pool and a colon

two_at : (xs : List ℕ) (k : ℕ) → k + 1 < length xs → take 2 (drop k xs) ≡ get_or xs k 0 ∷ get_or xs (k + 1) 0 ∷ []
two_at xs k h = rw (drop_more xs k 0 (omega arith), drop_more xs (k + 1) 0 h) refl

three_at : (xs : List ℕ) (k : ℕ) → k + 2 < length xs → take 3 (drop k xs) ≡ get_or xs k 0 ∷ get_or xs (k + 1) 0 ∷ get_or xs (k + 2) 0 ∷ []
three_at xs k h =
    let two : k + 1 + 1 ≡ k + 2 = omega arith in
    rw (drop_more xs k 0 (omega arith), drop_more xs (k + 1) 0 (omega arith), two, drop_more xs (k + 2) 0 h) refl

part_of_four : (xs : List ℕ) (a n : ℕ) → n ≤ 4 → take n (slice_range xs a (a + 4)) ≡ take n (drop a xs)
part_of_four xs a n few =
    let four : a + 4 - a ≡ 4 = omega arith in
    rw four (take-take n 4 (drop a xs) few)

abbrev is_one : ℕ → Bool
is_one p = eqb (get_or POOLS (4 * p) 0) (48 + p) && eqb (get_or POOLS (4 * p + 1) 0) 58

abbrev is_two : ℕ → Bool
is_two k =
    eqb (get_or POOLS (4 * (10 + k)) 0) (48 + (10 + k) / 10)
    && (eqb (get_or POOLS (4 * (10 + k) + 1) 0) (48 + (10 + k) % 10) && eqb (get_or POOLS (4 * (10 + k) + 2) 0) 58)

pub one_digit : (p k : ℕ) → p < 10 → k ≡ p → take 2 (slice_range POOLS (4 * k) (4 * k + 4)) ≡ decimal p ++ codes ":"
one_digit p k h is =
    let t = at_each is_one 10 p tt h in
    let one : get_or POOLS (4 * p) 0 ≡ 48 + p = eqb→eq _ _ (and_l _ _ t) in
    let colon : get_or POOLS (4 * p + 1) 0 ≡ 58 = eqb→eq _ _ (and_r _ _ t) in
    rw (is, part_of_four POOLS (4 * p) 2 (omega arith), two_at POOLS (4 * p) (omega arith), decimal_digit p h) (λ i. one i ∷ colon i ∷ [])

pub two_digits : (p k : ℕ) → 10 ≤ p → p < 64 → k ≡ p → take 3 (slice_range POOLS (4 * k) (4 * k + 4)) ≡ decimal p ++ codes ":"
two_digits p k more h is =
    let e : 10 + (p - 10) ≡ p = omega arith in
    let t = rw e at (at_each is_two 54 (p - 10) tt (omega arith)) in
    let rest = and_r (eqb (get_or POOLS (4 * p) 0) (48 + p / 10)) _ t in
    let ten : get_or POOLS (4 * p) 0 ≡ 48 + p / 10 = eqb→eq _ _ (and_l _ _ t) in
    let one : get_or POOLS (4 * p + 1) 0 ≡ 48 + p % 10 = eqb→eq _ _ (and_l _ _ rest) in
    let colon : get_or POOLS (4 * p + 2) 0 ≡ 58 = eqb→eq _ _ (and_r (eqb (get_or POOLS (4 * p + 1) 0) (48 + p % 10)) _ rest) in
    rw (is, part_of_four POOLS (4 * p) 3 (omega arith), three_at POOLS (4 * p) (omega arith), decimal_two p more (omega arith))
    (λ i. ten i ∷ one i ∷ colon i ∷ [])
