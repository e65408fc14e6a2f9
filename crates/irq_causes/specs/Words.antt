-- The list of the pools' masks gives back the three words that it was read from: so such a value may be copied.
use Rattle.std.proofs.Common.{arith, ◌≡◌, ℕ, suc, zero, ◌+◌, ◌-◌, ◌*◌, ◌^◌, ◌<◌, List, [], ◌∷◌, length, get_or, sym, ap, ◌∙◌, subst}
use Rattle.std.specs.Int.{bit_at}
use Rattle.std.proofs.lemmas.Nat.Bits.{bit_at-lt, bit_at-zero, bit_at_cat_high, same_from_bits_below}
use Rattle.std.proofs.lemmas.List.FromFn.{get_or-map-range_with_len, length-map-range_with_len}
use Rattle.irq_causes.specs.Messages.{mask_at, masks}

-- the word of the pools that got vector v
unfoldable pub pools_of : ℕ → List ℕ → ℕ
pools_of v [] = 0
pools_of v (x ∷ xs) = pools_of v xs * 2 + bit_at x v

pub length_of_masks : (a b c : ℕ) → length (masks a b c) ≡ 64
unfolding masks
length_of_masks a b c = length-map-range_with_len (mask_at a b c) 0 64

pub mask_of_pool : (a b c p : ℕ) → p < 64 → get_or (masks a b c) p 0 ≡ mask_at a b c p
unfolding masks
mask_of_pool a b c p below = get_or-map-range_with_len (mask_at a b c) 0 64 p p 0 below (omega arith)

pub bit_zero : (a b c p : ℕ) → bit_at (mask_at a b c p) 0 ≡ bit_at a p
bit_zero a b c p = omega (arith, bit_at-lt a p, bit_at-lt b p, bit_at-lt c p)

pub bit_one : (a b c p : ℕ) → bit_at (mask_at a b c p) 1 ≡ bit_at b p
bit_one a b c p = omega (arith, bit_at-lt a p, bit_at-lt b p, bit_at-lt c p)

pub bit_two : (a b c p : ℕ) → bit_at (mask_at a b c p) 2 ≡ bit_at c p
bit_two a b c p = omega (arith, bit_at-lt a p, bit_at-lt b p, bit_at-lt c p)

bit_of_pools : (v : ℕ) (xs : List ℕ) (p : ℕ) → bit_at (pools_of v xs) p ≡ bit_at (get_or xs p 0) v
unfolding pools_of
bit_of_pools v [] p = bit_at-zero p ∙ sym (bit_at-zero v)
bit_of_pools v (x ∷ xs) zero = omega (arith, bit_at-lt x v)
bit_of_pools v (x ∷ xs) (suc p) =
    let before : suc p - 1 ≡ p = omega arith in
    bit_at_cat_high (pools_of v xs) 1 (bit_at x v) (suc p) (bit_at-lt x v) (omega arith) ∙ ap (bit_at (pools_of v xs)) before ∙ bit_of_pools v xs p

pools_of_fits : (v : ℕ) (xs : List ℕ) → pools_of v xs < 2 ^ length xs
unfolding pools_of
pools_of_fits v [] = omega arith
pools_of_fits v (x ∷ xs) =
    let twice : 2 ^ suc (length xs) ≡ 2 ^ length xs * 2 = omega arith in
    rw twice (omega (arith, pools_of_fits v xs, bit_at-lt x v))

word_back : (v a b c word : ℕ) → word < 2 ^ 64 → ((p : ℕ) → bit_at (mask_at a b c p) v ≡ bit_at word p) → pools_of v (masks a b c) ≡ word
word_back v a b c word fits each =
    same_from_bits_below 64 (pools_of v (masks a b c)) word (subst (λ n. pools_of v (masks a b c) < 2 ^ n) (length_of_masks a b c) (pools_of_fits v (masks a b c))) fits
    (λ p below. bit_of_pools v (masks a b c) p ∙ ap (λ x. bit_at x v) (mask_of_pool a b c p below) ∙ each p)

pub zero_back : (a b c : ℕ) → a < 2 ^ 64 → pools_of 0 (masks a b c) ≡ a
zero_back a b c fits = word_back 0 a b c a fits (bit_zero a b c)

pub one_back : (a b c : ℕ) → b < 2 ^ 64 → pools_of 1 (masks a b c) ≡ b
one_back a b c fits = word_back 1 a b c b fits (bit_one a b c)

pub two_back : (a b c : ℕ) → c < 2 ^ 64 → pools_of 2 (masks a b c) ≡ c
two_back a b c fits = word_back 2 a b c c fits (bit_two a b c)
