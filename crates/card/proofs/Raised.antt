-- Sets of vectors that join.
use Rattle.std.proofs.Common.{◌≡◌, ℕ, zero, suc, ◌+◌, ◌*◌, ◌<◌, ◌≤◌, ◌==◌, Bool, true, false, List, length, ltb, refl, sym, ap, ◌∙◌, subst, arith}
use Rattle.std.specs.Prelude.{bit_and, bit_or, max, slice_index, slice_set}
use Rattle.std.specs.Int.{bit_at}
use Rattle.std.proofs.lemmas.Bool.{eq-eqb, eqb-true, false≢true, ltb-false, ltb-true}
use Rattle.std.proofs.lemmas.List.{ext_get_or, get_or_past, get_or-set_other, get_or-set_same, length-set}
use Rattle.std.proofs.lemmas.List.FromFn.{get_or-map-range_with_len, length-map-range_with_len}
use Rattle.std.proofs.lemmas.Nat.Bits.{bit_at-lt, bit_at-zero, bit_at_or}
use Rattle.irq_causes.proofs.Bounds.{or_below_eight}
use Rattle.irq_causes.specs.Causes.{◌without◌}
use Rattle.irq_causes.specs.Messages.{both, either}

-- a set by its three bits
three_bits : (a : ℕ) → a < 8 → bit_at a 0 + 2 * bit_at a 1 + 4 * bit_at a 2 ≡ a
three_bits a small = omega (arith, small)

pub either_or : (a b : ℕ) → a < 8 → b < 8 → bit_or a b ≡ either a b
either_or a b small also = sym (three_bits (bit_or a b) (or_below_eight a b small also)) ∙ (λ i. bit_at_or a b 0 i + 2 * bit_at_or a b 1 i + 4 * bit_at_or a b 2 i)

pub either_small : (a b : ℕ) → either a b < 8
either_small a b = omega (arith, bit_at-lt a 0, bit_at-lt a 1, bit_at-lt a 2, bit_at-lt b 0, bit_at-lt b 1, bit_at-lt b 2)

pub either_none : (a : ℕ) → a < 8 → either a 0 ≡ a
either_none a small = omega (arith, three_bits a small, bit_at-zero 0, bit_at-zero 1, bit_at-zero 2)

-- the bits of three
bit_zero : (x y z : ℕ) → x < 2 → y < 2 → z < 2 → bit_at (x + 2 * y + 4 * z) 0 ≡ x
bit_zero x y z one two three = omega (arith, one, two, three)

bit_one : (x y z : ℕ) → x < 2 → y < 2 → z < 2 → bit_at (x + 2 * y + 4 * z) 1 ≡ y
bit_one x y z one two three = omega (arith, one, two, three)

bit_two : (x y z : ℕ) → x < 2 → y < 2 → z < 2 → bit_at (x + 2 * y + 4 * z) 2 ≡ z
bit_two x y z one two three = omega (arith, one, two, three)

-- whether one of two sets has a vector
abbrev in_either : ℕ → ℕ → ℕ → ℕ
in_either a b i = max (bit_at a i) (bit_at b i)

one_bit : (a b i : ℕ) → in_either a b i < 2
one_bit a b i = omega (arith, bit_at-lt a i, bit_at-lt b i)

at_zero : (a b : ℕ) → bit_at (either a b) 0 ≡ in_either a b 0
at_zero a b = bit_zero (in_either a b 0) (in_either a b 1) (in_either a b 2) (one_bit a b 0) (one_bit a b 1) (one_bit a b 2)

at_one : (a b : ℕ) → bit_at (either a b) 1 ≡ in_either a b 1
at_one a b = bit_one (in_either a b 0) (in_either a b 1) (in_either a b 2) (one_bit a b 0) (one_bit a b 1) (one_bit a b 2)

at_two : (a b : ℕ) → bit_at (either a b) 2 ≡ in_either a b 2
at_two a b = bit_two (in_either a b 0) (in_either a b 1) (in_either a b 2) (one_bit a b 0) (one_bit a b 1) (one_bit a b 2)

max_both : (x y z : ℕ) → max x (max y z) ≡ max (max x y) z
max_both x y z = omega arith

pub either_both : (a b c : ℕ) → either a (either b c) ≡ either (either a b) c
either_both a b c =
    (λ i. max (bit_at a 0) (at_zero b c i) + 2 * max (bit_at a 1) (at_one b c i) + 4 * max (bit_at a 2) (at_two b c i))
    ∙ (λ i. max_both (bit_at a 0) (bit_at b 0) (bit_at c 0) i + 2 * max_both (bit_at a 1) (bit_at b 1) (bit_at c 1) i + 4 * max_both (bit_at a 2) (bit_at b 2) (bit_at c 2) i)
    ∙ sym (λ i. max (at_zero a b i) (bit_at c 0) + 2 * max (at_one a b i) (bit_at c 1) + 4 * max (at_two a b i) (bit_at c 2))

-- ---- where all three are named

pub all_named : (a : ℕ) → a < 8 → bit_and a 7 ≡ a
all_named zero small = refl
all_named (suc zero) small = refl
all_named (suc (suc zero)) small = refl
all_named (suc (suc (suc zero))) small = refl
all_named (suc (suc (suc (suc zero)))) small = refl
all_named (suc (suc (suc (suc (suc zero))))) small = refl
all_named (suc (suc (suc (suc (suc (suc zero)))))) small = refl
all_named (suc (suc (suc (suc (suc (suc (suc zero))))))) small = refl
all_named (suc (suc (suc (suc (suc (suc (suc (suc a)))))))) small = absurd (omega (arith, small))

pub none_left : (a : ℕ) → a < 8 → (a without 7) ≡ 0
none_left zero small = refl
none_left (suc zero) small = refl
none_left (suc (suc zero)) small = refl
none_left (suc (suc (suc zero))) small = refl
none_left (suc (suc (suc (suc zero)))) small = refl
none_left (suc (suc (suc (suc (suc zero))))) small = refl
none_left (suc (suc (suc (suc (suc (suc zero)))))) small = refl
none_left (suc (suc (suc (suc (suc (suc (suc zero))))))) small = refl
none_left (suc (suc (suc (suc (suc (suc (suc (suc a)))))))) small = absurd (omega (arith, small))

-- ---- the sets of all pools

pub both_count : (xs ys : List ℕ) → length (both xs ys) ≡ 64
unfolding both
both_count xs ys = length-map-range_with_len {X = ℕ} (λ q. either (slice_index xs q) (slice_index ys q)) 0 64

pub both_here : (xs ys : List ℕ) (p : ℕ) → p < 64 → slice_index (both xs ys) p ≡ either (slice_index xs p) (slice_index ys p)
unfolding both
both_here xs ys p below = get_or-map-range_with_len {X = ℕ} (λ q. either (slice_index xs q) (slice_index ys q)) 0 64 p p 0 below (omega arith)

pub both_small : (xs ys : List ℕ) (p : ℕ) → slice_index (both xs ys) p < 8
both_small xs ys p = go (ltb p 64) refl
  where
    go : (b : Bool) → ltb p 64 ≡ b → slice_index (both xs ys) p < 8
    go true is = subst (λ (n : ℕ). n < 8) (sym (both_here xs ys p (ltb-true p 64 is))) (either_small (slice_index xs p) (slice_index ys p))
    go false is = subst (λ (n : ℕ). n < 8) (sym (get_or_past (both xs ys) p 0 (subst (λ (n : ℕ). n ≤ p) (sym (both_count xs ys)) (ltb-false p 64 is)))) (omega arith)

-- two lists of 64 that agree at each place
agree : (xs ys : List ℕ) → length xs ≡ 64 → length ys ≡ 64 → ((p : ℕ) → p < 64 → slice_index xs p ≡ slice_index ys p) → xs ≡ ys
agree xs ys long also same = ext_get_or 0 xs ys (long ∙ sym also) (λ p inside. same p (omega (arith, inside, long)))

-- where nobody gets any, the sets stay
pub both_none : (xs ys : List ℕ) → length xs ≡ 64 → ((p : ℕ) → slice_index xs p < 8) → ((p : ℕ) → p < 64 → slice_index ys p ≡ 0) → both xs ys ≡ xs
both_none xs ys long small none = agree (both xs ys) xs (both_count xs ys) long
    (λ p below. both_here xs ys p below ∙ ap (either (slice_index xs p)) (none p below) ∙ either_none (slice_index xs p) (small p))

-- of three it is the same which two join first
pub both_of_both : (xs ys zs : List ℕ) → both xs (both ys zs) ≡ both (both xs ys) zs
both_of_both xs ys zs = agree (both xs (both ys zs)) (both (both xs ys) zs) (both_count xs (both ys zs)) (both_count (both xs ys) zs)
    (λ p below. both_here xs (both ys zs) p below ∙ ap (either (slice_index xs p)) (both_here ys zs p below)
    ∙ either_both (slice_index xs p) (slice_index ys p) (slice_index zs p)
    ∙ ap (λ (n : ℕ). either n (slice_index zs p)) (sym (both_here xs ys p below)) ∙ sym (both_here (both xs ys) zs p below))

-- one pool has another set
pub set_small : (xs : List ℕ) (q x : ℕ) → ((p : ℕ) → slice_index xs p < 8) → x < 8 → (p : ℕ) → slice_index (slice_set xs q x) p < 8
set_small xs q x small fits p = go (q == p) (ltb q (length xs)) refl refl
  where
    go : (b c : Bool) → (q == p) ≡ b → ltb q (length xs) ≡ c → slice_index (slice_set xs q x) p < 8
    go false c differ inside = subst (λ (n : ℕ). n < 8) (sym (get_or-set_other xs q p x 0 (λ same. false≢true (sym differ ∙ eq-eqb q p (sym same))))) (small p)
    go true true same inside =
        subst (λ (k : ℕ). slice_index (slice_set xs q x) k < 8) (eqb-true q p same) (subst (λ (n : ℕ). n < 8) (sym (get_or-set_same xs q x 0 (ltb-true q (length xs) inside))) fits)
    go true false same outside =
        subst (λ (k : ℕ). slice_index (slice_set xs q x) k < 8) (eqb-true q p same)
        (subst (λ (n : ℕ). n < 8) (sym (get_or_past (slice_set xs q x) q 0 (subst (λ (n : ℕ). n ≤ q) (sym (length-set xs q x)) (ltb-false q (length xs) outside)))) (omega arith))
