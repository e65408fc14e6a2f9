-- Marks of the pools that a word has, from the lowest on, and how long they are.
use Rattle.std.proofs.Common.{arith, ◌≡◌, ◌≢◌, ℕ, zero, suc, ◌+◌, ◌*◌, ◌<◌, ◌≤◌, Bool, true, false, eqb, ltb, List, [], ◌∷◌, ◌++◌, length, length-append, length-take-le, take, get_or, append_assoc, refl, sym, ap, ◌∙◌}
use Rattle.std.specs.Int.{bit_at}
use Rattle.std.specs.Prelude.{codes, decimal}
use Rattle.std.proofs.lemmas.Bool.Decides.{nat_tests}
use Rattle.std.proofs.lemmas.Fmt.{decimal_digit, length-decimal-le}
use Rattle.std.proofs.lemmas.Nat.Bits.{bit_at-lt, bit_at-zero}
use Rattle.itoa.proofs.Decimal.{length_one}
use Rattle.wire_frame.specs.Bits.{has_bit}
use Rattle.wire_frame.specs.Pools.{IsLowestTaken}
use Rattle.transcript.specs.Text.{mark_text, marks_text}

-- a text where a bit is set
abbrev pub where_set : ℕ → List ℕ → List ℕ
where_set zero text = []
where_set (suc n) text = text

-- the marks of the pools from one on that a word has
abbrev pub marks_of : ℕ → ℕ → List ℕ → List ℕ
marks_of word pool [] = []
marks_of word pool (mask ∷ masks) = where_set (bit_at word pool) (mark_text pool mask) ++ marks_of word (suc pool) masks

-- ---- a word of all pools that got any

got : (mask : ℕ) → false ≡ ltb 0 (suc mask) → ⊥
got mask same = grind (arith, nat_tests)

marked : (bit pool mask : ℕ) → bit < 2 → eqb bit 1 ≡ ltb 0 mask → where_set bit (mark_text pool mask) ≡ mark_text pool mask
unfolding mark_text
marked zero pool zero small same = refl
marked zero pool (suc mask) small same = absurd (got mask same)
marked (suc bit) pool mask small same = refl

whole_from : (word pool : ℕ) (masks : List ℕ) → ((k : ℕ) → k < length masks → has_bit word (pool + k) ≡ ltb 0 (get_or masks k 0))
    → marks_of word pool masks ≡ marks_text pool masks
unfolding has_bit
whole_from word pool [] same = refl
whole_from word pool (mask ∷ masks) same =
    let here : pool + 0 ≡ pool = omega arith in
    let first = marked (bit_at word pool) pool mask (bit_at-lt word pool) (ap (λ p. eqb (bit_at word p) 1) (sym here) ∙ same 0 (omega arith)) in
    let rest = whole_from word (suc pool) masks (λ k below.
    let there : suc pool + k ≡ pool + suc k = omega arith in
    ap (λ p. eqb (bit_at word p) 1) there ∙ same (suc k) (omega arith)) in
    λ i. first i ++ rest i

pub marks_whole : (word : ℕ) (masks : List ℕ) → length masks ≡ 64 → ((p : ℕ) → p < 64 → has_bit word p ≡ ltb 0 (get_or masks p 0))
    → marks_of word 0 masks ≡ marks_text 0 masks
marks_whole word masks all same =
    whole_from word 0 masks (λ k below. let there : 0 + k ≡ k = omega arith in ap (has_bit word) there ∙ same k (omega arith))

-- ---- a word of none

none_from : (pool : ℕ) (masks : List ℕ) → marks_of 0 pool masks ≡ []
none_from pool [] = refl
none_from pool (mask ∷ masks) = λ i. where_set (bit_at-zero pool i) (mark_text pool mask) ++ none_from (suc pool) masks i

pub marks_none : (masks : List ℕ) → marks_of 0 0 masks ≡ []
marks_none masks = none_from 0 masks

-- ---- the lowest pool leaves the word

same_from : (a b pool : ℕ) (masks : List ℕ) → ((p : ℕ) → pool ≤ p → p < pool + length masks → bit_at a p ≡ bit_at b p)
    → marks_of a pool masks ≡ marks_of b pool masks
same_from a b pool [] same = refl
same_from a b pool (mask ∷ masks) same =
    let rest = same_from a b (suc pool) masks (λ p from below. same p (omega arith) (omega arith)) in
    λ i. where_set (same pool (omega arith) (omega arith) i) (mark_text pool mask) ++ rest i

-- a word and the same without pool p, of which it has none that is lower
lowest_from : (a b p pool k : ℕ) (masks : List ℕ) → p ≡ pool + k → k < length masks
    → ((q : ℕ) → q < p → bit_at a q ≡ 0) → bit_at a p ≡ 1 → bit_at b p ≡ 0
    → ((q : ℕ) → q < pool + length masks → q ≢ p → bit_at b q ≡ bit_at a q)
    → marks_of a pool masks ≡ mark_text p (get_or masks k 0) ++ marks_of b pool masks
lowest_from a b p pool k [] there below none some gone others = absurd (omega arith)
lowest_from a b p pool zero (mask ∷ masks) there below none some gone others =
    let here : p ≡ pool = omega arith in
    let rest = same_from a b (suc pool) masks (λ q from less. sym (others q (omega arith) (omega arith))) in
    let own : bit_at a pool ≡ 1 = ap (bit_at a) (sym here) ∙ some in
    let left : bit_at b pool ≡ 0 = ap (bit_at b) (sym here) ∙ gone in
    (λ i. where_set (own i) (mark_text pool mask) ++ rest i)
    ∙ (λ i. mark_text (sym here i) mask ++ (where_set (sym left i) (mark_text pool mask) ++ marks_of b (suc pool) masks))
lowest_from a b p pool (suc k) (mask ∷ masks) there below none some gone others =
    let rest = lowest_from a b p (suc pool) k masks (omega arith) (omega arith) none some gone (λ q less other. others q (omega arith) other) in
    let not_a : bit_at a pool ≡ 0 = none pool (omega arith) in
    let not_b : bit_at b pool ≡ 0 = others pool (omega arith) (omega arith) ∙ not_a in
    (λ i. where_set (not_a i) (mark_text pool mask) ++ rest i)
    ∙ (λ i. mark_text p (get_or masks k 0) ++ (where_set (sym not_b i) (mark_text pool mask) ++ marks_of b (suc pool) masks))

pub marks_lowest : (rest pool after : ℕ) (masks : List ℕ) → length masks ≡ 64 → IsLowestTaken rest pool after
    → marks_of rest 0 masks ≡ mark_text pool (get_or masks pool 0) ++ marks_of after 0 masks
marks_lowest rest pool after masks all taken =
    lowest_from rest after pool 0 pool masks (omega arith) (omega (arith, all, taken.below)) taken.lowest taken.there taken.gone
    (λ q below other. taken.others q other)

-- ---- the parts of a mark

mark_open : (pool vectors : ℕ) → eqb vectors 0 ≡ false → mark_text pool vectors ≡ codes " !" ++ (decimal pool ++ (codes ":" ++ decimal vectors))
unfolding mark_text
mark_open pool vectors some = rw some refl

pub mark_parts : (front : List ℕ) (pool vectors : ℕ) → eqb vectors 0 ≡ false → vectors < 10
    → ((front ++ codes " !") ++ (decimal pool ++ codes ":")) ++ (48 + vectors) ∷ [] ≡ front ++ mark_text pool vectors
mark_parts front pool vectors some few =
    let digit : List ℕ = (48 + vectors) ∷ [] in
    append_assoc (front ++ codes " !") (decimal pool ++ codes ":") digit
    ∙ append_assoc front (codes " !") ((decimal pool ++ codes ":") ++ digit)
    ∙ ap (λ (t : List ℕ). front ++ (codes " !" ++ t))
    (append_assoc (decimal pool) (codes ":") digit ∙ ap (λ (t : List ℕ). decimal pool ++ (codes ":" ++ t)) (sym (decimal_digit vectors few)))
    ∙ ap (λ (t : List ℕ). front ++ t) (sym (mark_open pool vectors some))

-- ---- how long marks are

mark_none : (pool mask : ℕ) → eqb mask 0 ≡ true → mark_text pool mask ≡ []
unfolding mark_text
mark_none pool mask none = rw none refl

mark_short : (pool mask : ℕ) → pool < 64 → mask < 8 → length (mark_text pool mask) ≤ 6
mark_short pool mask below few = go (eqb mask 0) refl
  where
    go : (none : Bool) → eqb mask 0 ≡ none → length (mark_text pool mask) ≤ 6
    go true is = rw (mark_none pool mask is) (omega arith)
    go false is =
        let one = length_one mask (omega arith) in
        let two = length-decimal-le 2 pool (omega arith) (omega arith) (omega arith) in
        let all = length-append (decimal pool) (codes ":" ++ decimal mask) in
        rw (mark_open pool mask is) (omega (arith, one, two, all))

marks_short : (pool : ℕ) (masks : List ℕ) → pool + length masks ≤ 64 → ((k : ℕ) → get_or masks k 0 < 8) → length (marks_text pool masks) ≤ 6 * length masks
marks_short pool [] below few = omega arith
marks_short pool (mask ∷ masks) below few =
    let here = mark_short pool mask (omega arith) (few 0) in
    let rest = marks_short (suc pool) masks (omega arith) (λ k. few (suc k)) in
    let all = length-append (mark_text pool mask) (marks_text (suc pool) masks) in
    omega (arith, here, rest, all)

-- marks that were written, with those of a word that are left, are the marks of all
pub marks_fit : (first room : List ℕ) (at end word : ℕ) (masks : List ℕ) → length masks ≡ 64 → ((k : ℕ) → get_or masks k 0 < 8)
    → at ≤ length first → end ≤ length room → take end room ++ marks_of word 0 masks ≡ take at first ++ marks_text 0 masks → end ≤ at + 384
marks_fit first room at end word masks all few fits inside same =
    let long = ap (λ (t : List ℕ). length t) same in
    let left = length-append (take end room) (marks_of word 0 masks) in
    let right = length-append (take at first) (marks_text 0 masks) in
    omega (arith, long, left, right, length-take-le at first fits, length-take-le end room inside, marks_short 0 masks (omega arith) few, all)
