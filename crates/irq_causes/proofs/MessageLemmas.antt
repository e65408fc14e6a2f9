-- What the three words say after a call is what the list of the pools' sets says.
use Rattle.std.proofs.Common.{arith, ◌≡◌, ◌≢◌, ℕ, zero, suc, ◌+◌, ◌*◌, ◌/◌, ◌%◌, ◌^◌, ◌<◌, Bool, true, false, max, nat_eq, List, [], ◌∷◌, length, get_or, set, eqb, eqb-true, ltb, bit_and, bit_or, refl, sym, ap, ◌∙◌}
use Rattle.std.specs.Int.{bit_at, bit_not, w64}
use Rattle.std.specs.Cmp.Lexicographic.{pointwise}
use Rattle.std.proofs.lemmas.Bool.{eqb-false}
use Rattle.std.proofs.lemmas.Bool.Decides.{nat_tests, Decides-like, same_from_decides}
use Rattle.std.proofs.lemmas.Slice.Eq.{bytes_eq-Decides}
use Rattle.std.proofs.lemmas.Nat.Bits.{bit_at-lt, bit_at-zero, bit_at_above, bit_at_or, bit_at_set_same, bit_at_set_other, bit_at_clear_same, bit_at_clear_other}
use Rattle.std.proofs.lemmas.List.{get_or_past, length-set, get_or-set_same, get_or-set_other}
use Rattle.std.proofs.lemmas.List.FromFn.{fill_by_all}
use Rattle.wire_frame.specs.Bits.{has_bit}
use Rattle.irq_causes.specs.Messages.{mask_at, masks, no_messages}
use Rattle.irq_causes.specs.Words.{pools_of, length_of_masks, mask_of_pool, bit_zero, bit_one, bit_two, zero_back, one_back, two_back}

pub masks_as : (a b c : ℕ) (xs : List ℕ) → length xs ≡ 64 → ((p : ℕ) → p < 64 → get_or xs p 0 ≡ mask_at a b c p) → xs ≡ masks a b c
unfolding masks
masks_as a b c xs same each = fill_by_all (mask_at a b c) xs 64 0 same each

pub mask_small : (a b c p : ℕ) → mask_at a b c p < 8
mask_small a b c p = omega (arith, bit_at-lt a p, bit_at-lt b p, bit_at-lt c p)

pub masks_none : masks 0 0 0 ≡ no_messages
unfolding masks no_messages
masks_none = refl

-- ---- one bit of a word is written: `word & !(1 << k) | bit << k`

pub put_own : (word k bit : ℕ) → k < 64 → bit < 2 → bit_at (bit_or (bit_and word (bit_not w64 (1 * 2 ^ k % 18446744073709551616))) (bit * 2 ^ k % 18446744073709551616)) k ≡ bit
put_own word k zero h small =
    let none : 0 * 2 ^ k % 18446744073709551616 ≡ 0 = omega arith in
    rw none (bit_at_or _ 0 k ∙ omega (arith, bit_at-zero k, bit_at_clear_same w64 word k h))
put_own word k (suc zero) h small = bit_at_set_same w64 _ k h
put_own word k (suc (suc n)) h small = absurd (omega arith)

pub put_other : (word k bit p : ℕ) → k < 64 → bit < 2 → p < 64 → p ≢ k → bit_at (bit_or (bit_and word (bit_not w64 (1 * 2 ^ k % 18446744073709551616))) (bit * 2 ^ k % 18446744073709551616)) p ≡ bit_at word p
put_other word k zero p h small below other =
    let none : 0 * 2 ^ k % 18446744073709551616 ≡ 0 = omega arith in
    rw none (bit_at_or _ 0 p ∙ omega (arith, bit_at-zero p, bit_at_clear_other w64 word k h p below other))
put_other word k (suc zero) p h small below other = bit_at_set_other w64 _ k h p other ∙ bit_at_clear_other w64 word k h p below other
put_other word k (suc (suc n)) p h small below other = absurd (omega arith)

-- ---- one bit of a word that hasn't it is written: `word | bit << k`

pub join_own : (word k bit : ℕ) → k < 64 → bit < 2 → bit_at word k ≡ 0 → bit_at (bit_or word (bit * 2 ^ k % 18446744073709551616)) k ≡ bit
join_own word k zero h small lacks =
    let none : 0 * 2 ^ k % 18446744073709551616 ≡ 0 = omega arith in
    rw none (bit_at_or word 0 k ∙ omega (arith, bit_at-zero k, lacks))
join_own word k (suc zero) h small lacks = bit_at_set_same w64 word k h
join_own word k (suc (suc n)) h small lacks = absurd (omega arith)

pub join_other : (word k bit p : ℕ) → k < 64 → bit < 2 → p ≢ k → bit_at (bit_or word (bit * 2 ^ k % 18446744073709551616)) p ≡ bit_at word p
join_other word k zero p h small other =
    let none : 0 * 2 ^ k % 18446744073709551616 ≡ 0 = omega arith in
    rw none (bit_at_or word 0 p ∙ omega (arith, bit_at-zero p))
join_other word k (suc zero) p h small other = bit_at_set_other w64 word k h p other
join_other word k (suc (suc n)) p h small other = absurd (omega arith)

-- a pool that got nothing has its bit in no word
pub none_of_zero : (a b c p : ℕ) → p < 64 → get_or (masks a b c) p 0 ≡ 0 → bit_at a p ≡ 0
none_of_zero a b c p below none = omega (arith, none, mask_of_pool a b c p below)

pub none_of_one : (a b c p : ℕ) → p < 64 → get_or (masks a b c) p 0 ≡ 0 → bit_at b p ≡ 0
none_of_one a b c p below none = omega (arith, none, mask_of_pool a b c p below)

pub none_of_two : (a b c p : ℕ) → p < 64 → get_or (masks a b c) p 0 ≡ 0 → bit_at c p ≡ 0
none_of_two a b c p below none = omega (arith, none, mask_of_pool a b c p below)

-- the three bits of pool k are written: the list has the set there in place of the old one
pub masks_put : (a b c x y z k m : ℕ) → k < 64 → m < 8
    → bit_at x k ≡ m % 2 → bit_at y k ≡ m / 2 % 2 → bit_at z k ≡ m / 4
    → ((p : ℕ) → p < 64 → p ≢ k → bit_at x p ≡ bit_at a p) → ((p : ℕ) → p < 64 → p ≢ k → bit_at y p ≡ bit_at b p) → ((p : ℕ) → p < 64 → p ≢ k → bit_at z p ≡ bit_at c p)
    → masks x y z ≡ set (masks a b c) k m
masks_put a b c x y z k m within small x_is y_is z_is x_keeps y_keeps z_keeps =
    sym (masks_as x y z (set (masks a b c) k m) (length-set (masks a b c) k m ∙ length_of_masks a b c) (λ p below. at p below (eqb p k) refl))
  where
    at : (p : ℕ) → p < 64 → (same : Bool) → eqb p k ≡ same → get_or (set (masks a b c) k m) p 0 ≡ mask_at x y z p
    at p below true is =
        let there : p ≡ k = eqb-true p k is in
        rw there (get_or-set_same (masks a b c) k m 0 (rw (length_of_masks a b c) within) ∙ omega (arith, x_is, y_is, z_is, small))
    at p below false is =
        let elsewhere : p ≢ k = eqb-false p k is in
        get_or-set_other (masks a b c) k p m 0 elsewhere ∙ mask_of_pool a b c p below
        ∙ omega (arith, x_keeps p below elsewhere, y_keeps p below elsewhere, z_keeps p below elsewhere)

-- ---- the pools that got any, the pools that got one vector

pub any_of : (a b c p : ℕ) → p < 64 → has_bit (bit_or (bit_or a b) c) p ≡ ltb 0 (get_or (masks a b c) p 0)
unfolding has_bit
any_of a b c p below = rw (mask_of_pool a b c p below, bit_at_or (bit_or a b) c p, bit_at_or a b p) (cases _ _ _ (bit_at-lt a p) (bit_at-lt b p) (bit_at-lt c p))
  where
    cases : (x y z : ℕ) → x < 2 → y < 2 → z < 2 → eqb (max (max x y) z) 1 ≡ ltb 0 (x + 2 * y + 4 * z)
    cases x y z h k l = grind (arith, nat_tests)

-- a pool got vector v where its mask has bit v, and none got a vector past 2
pub pools_with_zero : (a b c p : ℕ) → p < 64 → has_bit a p ≡ has_bit (get_or (masks a b c) p 0) 0
unfolding has_bit
pools_with_zero a b c p below = ap (λ bit. eqb bit 1) (sym (ap (λ m. bit_at m 0) (mask_of_pool a b c p below) ∙ bit_zero a b c p))

pub pools_with_one : (a b c p : ℕ) → p < 64 → has_bit b p ≡ has_bit (get_or (masks a b c) p 0) 1
unfolding has_bit
pools_with_one a b c p below = ap (λ bit. eqb bit 1) (sym (ap (λ m. bit_at m 1) (mask_of_pool a b c p below) ∙ bit_one a b c p))

pub pools_with_two : (a b c p : ℕ) → p < 64 → has_bit c p ≡ has_bit (get_or (masks a b c) p 0) 2
unfolding has_bit
pools_with_two a b c p below = ap (λ bit. eqb bit 1) (sym (ap (λ m. bit_at m 2) (mask_of_pool a b c p below) ∙ bit_two a b c p))

pub pools_with_past_two : (a b c p v : ℕ) → p < 64 → v ≢ 0 → v ≢ 1 → v ≢ 2 → has_bit 0 p ≡ has_bit (get_or (masks a b c) p 0) v
unfolding has_bit
pools_with_past_two a b c p v below h k l =
    ap (λ bit. eqb bit 1) (bit_at-zero p ∙ sym (ap (λ m. bit_at m v) (mask_of_pool a b c p below) ∙ bit_at_above (mask_at a b c p) 3 v (mask_small a b c p) (omega arith)))

-- ---- comparison

-- two lists are equal where the words are
pub compared : (a b c x y z : ℕ) → a < 2 ^ 64 → b < 2 ^ 64 → c < 2 ^ 64 → x < 2 ^ 64 → y < 2 ^ 64 → z < 2 ^ 64
    → pointwise nat_eq (a ∷ b ∷ c ∷ []) (x ∷ y ∷ z ∷ []) ≡ pointwise nat_eq (masks a b c) (masks x y z)
compared a b c x y z fits_a fits_b fits_c fits_x fits_y fits_z =
    same_from_decides _ _ (Decides-like _ join split (bytes_eq-Decides (a ∷ b ∷ c ∷ []) (x ∷ y ∷ z ∷ []))) (bytes_eq-Decides (masks a b c) (masks x y z))
  where
    join : a ∷ b ∷ c ∷ [] ≡ x ∷ y ∷ z ∷ [] → masks a b c ≡ masks x y z
    join h = λ i. masks (get_or (h i) 0 0) (get_or (h i) 1 0) (get_or (h i) 2 0)

    split : masks a b c ≡ masks x y z → a ∷ b ∷ c ∷ [] ≡ x ∷ y ∷ z ∷ []
    split h = λ i.
        (sym (zero_back a b c fits_a) ∙ ap (pools_of 0) h ∙ zero_back x y z fits_x) i
        ∷ (sym (one_back a b c fits_b) ∙ ap (pools_of 1) h ∙ one_back x y z fits_y) i
        ∷ (sym (two_back a b c fits_c) ∙ ap (pools_of 2) h ∙ two_back x y z fits_z) i ∷ []

-- ---- every list of sets

pub mask_of_pool_small : (a b c p : ℕ) → get_or (masks a b c) p 0 < 8
mask_of_pool_small a b c p = at (ltb p 64) refl
  where
    at : (inside : Bool) → ltb p 64 ≡ inside → get_or (masks a b c) p 0 < 8
    at true is = rw (mask_of_pool a b c p (grind (arith, nat_tests))) (mask_small a b c p)
    at false is = rw (get_or_past (masks a b c) p 0 (rw (length_of_masks a b c) (grind (arith, nat_tests)))) (omega arith)

-- ---- a pool that is none of those that got any got none
pub got_none : (pools mask p : ℕ) → bit_at pools p ≡ 0 → has_bit pools p ≡ ltb 0 mask → mask ≡ 0
unfolding has_bit
got_none pools mask p clear is =
    let test : eqb 0 1 ≡ ltb 0 mask = ap (λ bit. eqb bit 1) (sym clear) ∙ is in
    grind (arith, nat_tests)
