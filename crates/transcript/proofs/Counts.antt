-- Numbers that differ in the last digit alone.
use Rattle.std.proofs.Common.{◌≡◌, ℕ, ◌+◌, ◌/◌, ◌%◌, ◌^◌, ◌<◌, ◌≤◌, Bool, true, false, nat_lt, List, [], ◌∷◌, ◌++◌, length, length-append, length-drop, drop, take, length-take-le, slice_index, slice_set, refl, sym, ap, ◌∙◌, arith}
use Rattle.std.specs.Prelude.{decimal}
use Rattle.std.proofs.lemmas.Bool.Decides.{nat_tests}
use Rattle.std.proofs.lemmas.Fmt.{decimal_digit, decimal_step}
use Rattle.std.proofs.lemmas.List.{drop-set-add, get_or-drop, get_or-take}
use Rattle.std.proofs.Math.Seq.{get_or-append_seam, set-append_seam, take-set-lt}

-- the digits of a number before its last one
record Front (n : ℕ) : Type 0 where
  front : List ℕ
  last : decimal n ≡ front ++ (48 + n % 10) ∷ []
  next : n % 10 < 9 → n + 1 < 2 ^ 64 → decimal (n + 1) ≡ front ++ (48 + n % 10 + 1) ∷ []

front_of : (n : ℕ) → n < 2 ^ 64 → Front n
front_of n fits = go (nat_lt n 10) refl
  where
    go : (short : Bool) → nat_lt n 10 ≡ short → Front n
    go true is =
        let few : n < 10 = grind (arith, nat_tests) in
        let same : n % 10 ≡ n = omega arith in
        record {
          front = [];
          last = decimal_digit n few ∙ ap (λ (d : ℕ). (48 + d) ∷ []) (sym same);
          next = λ less more.
              let sum : 48 + (n + 1) ≡ 48 + n % 10 + 1 = omega arith in
              decimal_digit (n + 1) (omega arith) ∙ ap (λ (d : ℕ). d ∷ []) sum;
        }
    go false is =
        let many : 10 ≤ n = grind (arith, nat_tests) in
        record {
          front = decimal (n / 10);
          last = decimal_step n many fits;
          next = λ less more.
              let tens : (n + 1) / 10 ≡ n / 10 = omega arith in
              let ones : 48 + (n + 1) % 10 ≡ 48 + n % 10 + 1 = omega arith in
              decimal_step (n + 1) (omega arith) more
              ∙ ap (λ (t : ℕ). decimal t ++ (48 + (n + 1) % 10) ∷ []) tens
              ∙ ap (λ (d : ℕ). decimal (n / 10) ++ d ∷ []) ones;
        }

-- the last digit rises by one, where it is no 9
counted : (digits : List ℕ) (first n m : ℕ) → length digits ≡ 20 → first < 20 → n < 2 ^ 64 → m < 2 ^ 64
    → drop first digits ≡ decimal n → m ≡ n + 1 → slice_index digits 19 < 57
    → drop first (slice_set digits 19 (slice_index digits 19 + 1)) ≡ decimal m
counted digits first n m all inside fits more is next less =
    let f = front_of n fits in
    let front : List ℕ = f.front in
    let x : ℕ = 48 + n % 10 in
    let ends : drop first digits ≡ front ++ x ∷ [] = is ∙ f.last in
    let long : length (drop first digits) ≡ length front + 1 = ap (λ (xs : List ℕ). length xs) ends ∙ length-append front (x ∷ []) in
    let place : 19 ≡ first + length front = omega (arith, long, length-drop first digits) in
    let last : slice_index digits 19 ≡ x =
    ap (slice_index digits) place ∙ sym (get_or-drop first digits (length front) 0)
    ∙ ap (λ (xs : List ℕ). slice_index xs (length front)) ends ∙ get_or-append_seam front x [] 0 in
    let small : n % 10 < 9 = omega (arith, last, less) in
    ap (λ (k : ℕ). drop first (slice_set digits k (slice_index digits 19 + 1))) place
    ∙ drop-set-add first digits (length front) (slice_index digits 19 + 1)
    ∙ ap (λ (xs : List ℕ). slice_set xs (length front) (slice_index digits 19 + 1)) ends
    ∙ set-append_seam front x [] (slice_index digits 19 + 1)
    ∙ ap (λ (d : ℕ). front ++ (d + 1) ∷ []) last
    ∙ sym (f.next small (omega arith)) ∙ ap decimal (sym next)

-- the same of digits that stand before index 20
pub counted_on : (digits : List ℕ) (first n m : ℕ) → length digits ≡ 40 → first < 20 → n < 2 ^ 64 → m < 2 ^ 64
    → drop first (take 20 digits) ≡ decimal n → m ≡ n + 1 → slice_index digits 19 < 57
    → drop first (take 20 (slice_set digits 19 (slice_index digits 19 + 1))) ≡ decimal m
counted_on digits first n m all inside fits more is next less =
    let last : slice_index (take 20 digits) 19 ≡ slice_index digits 19 = get_or-take 20 digits 19 0 (omega arith) in
    let long : length (take 20 digits) ≡ 20 = length-take-le 20 digits (omega arith) in
    ap (drop first) (take-set-lt 20 digits 19 (slice_index digits 19 + 1) (omega arith) ∙ ap (λ d. slice_set (take 20 digits) 19 (d + 1)) (sym last))
    ∙ counted (take 20 digits) first n m long inside fits more is next (omega (arith, last, less))
