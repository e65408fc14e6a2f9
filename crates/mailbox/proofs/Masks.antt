-- The bits of a mask, and its size.
use Rattle.std.proofs.Common.{arith, ◌≡◌, ℕ, zero, suc, ◌+◌, ◌-◌, ◌*◌, ◌/◌, ◌%◌, ◌^◌, ◌<◌, ◌≤◌, Bool, true, false, cond, ◌&&◌, ltb, refl, sym, ap, ◌∙◌, eqb}
use Rattle.std.specs.Int.{bit_at}
use Rattle.std.proofs.Math.Nat.{pow-le-pow_right}
use Rattle.std.proofs.lemmas.Grind.{pow_more}
use Rattle.std.proofs.lemmas.Nat.Bits.{bit_at-suc, bit_at_lowest}
use Rattle.wire_frame.specs.Bits.{has_bit}
use Rattle.std.proofs.lemmas.Bool.{and_parts}
use Rattle.std.proofs.lemmas.Bool.Decides.{nat_tests}
use Rattle.mailbox.specs.declared.words.Set.{Set}
use Rattle.mailbox.specs.declared.words.Set.TheVariants.{Up, Joined, Named}
use Rattle.mailbox.specs.Words.{mask_from, reaches}

pub mask_none : (t : ℕ → Bool) (first : ℕ) → mask_from t first 0 ≡ 0
unfolding mask_from
mask_none t first = refl

pub mask_more : (t : ℕ → Bool) (first count : ℕ) → mask_from t first (suc count) ≡ cond (t first) 1 0 + 2 * mask_from t (suc first) count
unfolding mask_from
mask_more t first count = refl

bit_below : (b : Bool) → cond b 1 0 < 2
bit_below true = omega arith
bit_below false = omega arith

pub mask_below : (t : ℕ → Bool) (first count : ℕ) → mask_from t first count < 2 ^ count
mask_below t first zero = rw (mask_none t first) (omega arith)
mask_below t first (suc count) =
    let next : suc count ≡ count + 1 = omega arith in
    let twice : 2 ^ suc count ≡ 2 ^ count * 2 = ap (λ n. 2 ^ n) next ∙ pow_more 2 count in
    rw (mask_more t first count) (omega (arith, twice, mask_below t (suc first) count, bit_below (t first)))

-- a mask of fewer than 32 bits has room for one more
pub mask_room : (t : ℕ → Bool) (first count : ℕ) → count < 32 → mask_from t first count < 2 ^ 31
mask_room t first count few =
    let most : 2 ^ count ≤ 2 ^ 31 = pow-le-pow_right {n = 2} (omega arith) {i = count} {j = 31} (omega arith) in
    omega (arith, mask_below t first count, most)

lowest : (b : Bool) (m : ℕ) → eqb ((cond b 1 0 + 2 * m) % 2) 1 ≡ b
lowest true m = let odd : (1 + 2 * m) % 2 ≡ 1 = omega arith in ap (λ v. eqb v 1) odd
lowest false m = let even : (0 + 2 * m) % 2 ≡ 0 = omega arith in ap (λ v. eqb v 1) even

half : (b : Bool) (m : ℕ) → (cond b 1 0 + 2 * m) / 2 ≡ m
half true m = omega arith
half false m = omega arith

-- bit i says whether the test holds of first + i
pub has_bit_mask : (t : ℕ → Bool) (first count i : ℕ) → i < count → has_bit (mask_from t first count) i ≡ t (first + i)
unfolding has_bit
has_bit_mask t first zero i h = absurd (omega arith)
has_bit_mask t first (suc count) zero h =
    let here : first + 0 ≡ first = omega arith in
    ap (λ v. eqb v 1) (bit_at_lowest (mask_from t first (suc count)) ∙ ap (λ m. m % 2) (mask_more t first count)) ∙ lowest (t first) (mask_from t (suc first) count) ∙ ap t (sym here)
has_bit_mask t first (suc count) (suc i) h =
    let there : suc first + i ≡ first + suc i = omega arith in
    ap (λ v. eqb v 1) (bit_at-suc (mask_from t first (suc count)) i ∙ ap (λ m. bit_at m i) (ap (λ m. m / 2) (mask_more t first count) ∙ half (t first) (mask_from t (suc first) count)))
    ∙ has_bit_mask t (suc first) count i (omega arith) ∙ ap t there

-- tests that hold alike from first on have one mask
pub mask_same : (t u : ℕ → Bool) (first count : ℕ) → ((i : ℕ) → i < count → t (first + i) ≡ u (first + i)) → mask_from t first count ≡ mask_from u first count
mask_same t u first zero same = mask_none t first ∙ sym (mask_none u first)
mask_same t u first (suc count) same =
    let here : first + 0 ≡ first = omega arith in
    let head : t first ≡ u first = ap t (sym here) ∙ same 0 (omega arith) ∙ ap u here in
    let rest : mask_from t (suc first) count ≡ mask_from u (suc first) count =
    mask_same t u (suc first) count (λ i h. let there : suc first + i ≡ first + suc i = omega arith in ap t there ∙ same (suc i) (omega arith) ∙ ap u (sym there)) in
    mask_more t first count ∙ (λ k. cond (head k) 1 0 + 2 * rest k) ∙ sym (mask_more u first count)

-- one turn of a loop from the last number to the first
pub mask_step : (t : ℕ → Bool) (top done word : ℕ) (b : Bool) → done < top → word ≡ mask_from t (top - done) done → b ≡ t (top - 1 - done) → 2 * word + cond b 1 0 ≡ mask_from t (top - (done + 1)) (done + 1)
mask_step t top done word b below is bit =
    let first : top - (done + 1) ≡ top - 1 - done = omega arith in
    let next : suc (top - 1 - done) ≡ top - done = omega arith in
    let count : done + 1 ≡ suc done = omega arith in
    swap (cond b 1 0) (2 * word)
    ∙ (λ k. cond (bit k) 1 0 + 2 * is k)
    ∙ ap (λ n. cond (t (top - 1 - done)) 1 0 + 2 * mask_from t n done) (sym next)
    ∙ sym (mask_more t (top - 1 - done) done)
    ∙ ap (λ n. mask_from t n (suc done)) (sym first)
    ∙ ap (mask_from t (top - (done + 1))) (sym count)
  where
    swap : (x y : ℕ) → y + x ≡ x + y
    swap x y = omega arith

-- a set reaches every number below one that it reaches
pub reaches_below : (set : Set) (n m : ℕ) → m ≤ n → reaches set n ≡ true → reaches set m ≡ true
reaches_below Up n m less far = grind (arith, nat_tests, far, less)
reaches_below (Joined k) n m less far =
    let parts : (ltb k 64 ≡ true) × (ltb n 64 ≡ true) = and_parts (ltb k 64) (ltb n 64) far in
    let below : ltb m 64 ≡ true = grind (arith, nat_tests, parts.1, less) in
    λ i. parts.0 i && below i
reaches_below Named n m less far = grind (arith, nat_tests, far, less)
