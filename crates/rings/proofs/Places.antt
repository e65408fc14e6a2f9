-- The places that a ring's device owns.
use Rattle.std.proofs.Common.{◌≡◌, ℕ, zero, suc, ◌+◌, ◌-◌, ◌%◌, ◌<◌, ◌≤◌, [], length, get_or, ◌≢◌, ⊎_elim, Bool, true, false, cond, refl, sym, ◌∙◌, ap, arith}
use Rattle.std.proofs.lemmas.Bool.{cases_lt}
use Rattle.std.proofs.Math.Nat.{mod-eq-sub-mod, mod-eq_of_lt, mod-lt}
use Rattle.rings.specs.Ring.{RingState, places_from, owned, owned_count, IsRing, IsValidRing}

-- a place less than one round past the end
pub mod_wrapped : (m n : ℕ) → n ≤ m → m < n + n → m % n ≡ m - n
mod_wrapped m n h k = mod-eq-sub-mod h ∙ mod-eq_of_lt (omega arith)

pub length-places_from : (n h k : ℕ) → length (places_from n h k) ≡ k
unfolding places_from
length-places_from n h zero = refl
length-places_from n h (suc k) = let e = length-places_from n (h + 1) k in omega (arith, e)

pub get_or-places_from : (n h k i : ℕ) → i < k → get_or (places_from n h k) i 0 ≡ (h + i) % n
unfolding places_from
get_or-places_from n h zero i l = absurd (omega arith)
get_or-places_from n h (suc k) zero l = let e : h ≡ h + 0 = omega arith in ap (λ (x : ℕ). x % n) e
get_or-places_from n h (suc k) (suc i) l =
    let e : h + 1 + i ≡ h + suc i = omega arith in
    get_or-places_from n (h + 1) k i (omega arith) ∙ ap (λ (x : ℕ). x % n) e

-- what is known of the owned place at i
pub record IsOwnedAt (r : RingState) (i : ℕ) : Type 0 where
  pub on : r.enabled ≡ true
  pub valid : IsValidRing r
  pub below : i < owned_count r
  pub in_round : r.head + i < r.count + r.count
  pub place : get_or (owned r) i 0 ≡ (r.head + i) % r.count

pub owned_count-lt : (r : RingState) → IsValidRing r → owned_count r < r.count
owned_count-lt r v = let some : 0 < r.count = omega (arith, v.least) in mod-lt _ some

-- where head and tail differ, there is an owned place
pub owned_count-some : (r : RingState) → IsValidRing r → r.head ≢ r.tail → 1 ≤ owned_count r
owned_count-some r v differ = ⊎_elim ahead behind (cases_lt r.tail r.head)
  where
    ahead : r.tail < r.head → 1 ≤ owned_count r
    ahead h =
        let below : r.tail + r.count - r.head < r.count = omega (arith, v.head_below) in
        let same : owned_count r ≡ r.tail + r.count - r.head = mod-eq_of_lt below in
        omega (arith, v.head_below)

    behind : r.head ≤ r.tail → 1 ≤ owned_count r
    behind h =
        let same : owned_count r ≡ r.tail + r.count - r.head - r.count = mod_wrapped (r.tail + r.count - r.head) r.count (omega (arith, v.tail_below)) (omega (arith, v.tail_below, v.head_below)) in
        omega (arith, v.head_below)

-- where they are equal, there is none
pub owned_count-none : (r : RingState) → IsValidRing r → r.head ≡ r.tail → owned_count r ≡ 0
owned_count-none r v same =
    mod_wrapped (r.tail + r.count - r.head) r.count (omega (arith, same)) (omega (arith, same, v.least)) ∙ (omega (arith, same))

pub length-owned : (r : RingState) → length (owned r) ≡ cond r.enabled (owned_count r) 0
unfolding owned
length-owned r = elim r.enabled as (λ b. length (cond b (places_from r.count r.head (owned_count r)) []) ≡ cond b (owned_count r) 0) [ true ↦ length-places_from r.count r.head (owned_count r) | false ↦ refl ]

owned_at_by : (r : RingState) (i : ℕ) (b : Bool) → r.enabled ≡ b → IsRing r → i < length (owned r) → IsOwnedAt r i
unfolding owned
owned_at_by r i true e ok l =
    let v : IsValidRing r = ok e in
    let n : length (owned r) ≡ owned_count r = length-owned r ∙ (rw e refl) in
    let below : i < owned_count r = omega arith in
    let less : owned_count r < r.count = owned_count-lt r v in
    record {
      on = e;
      valid = v;
      below = below;
      in_round = omega (arith, v.head_below);
      place = rw e (get_or-places_from r.count r.head (owned_count r) i below);
    }
owned_at_by r i false e ok l =
    let n : length (owned r) ≡ 0 = length-owned r ∙ (rw e refl) in absurd (omega arith)

pub owned_at : (r : RingState) (i : ℕ) → IsRing r → i < length (owned r) → IsOwnedAt r i
owned_at r i ok l = owned_at_by r i r.enabled refl ok l

-- ---- the law on them

pub owned-off : (r : RingState) → r.enabled ≡ false → owned r ≡ []
unfolding owned
owned-off r off = rw off refl

pub length-owned-on : (r : RingState) → r.enabled ≡ true → length (owned r) ≡ owned_count r
length-owned-on r on = length-owned r ∙ (rw on refl)

pub owned-place : (r : RingState) (i : ℕ) → IsValidRing r → i < length (owned r) → get_or (owned r) i 0 ≡ (r.head + i) % r.count
owned-place r i v l = (owned_at r i (λ on. v) l).place

-- between head and tail, the tail is not met
tail_not_met : (n h t i : ℕ) → h < n → t < n → i < (t + n - h) % n → (h + i) % n ≢ t
tail_not_met n h t i hn tn l = ⊎_elim round straight (cases_lt t h)
  where
    round : t < h → (h + i) % n ≢ t
    round th =
        let count : (t + n - h) % n ≡ t + n - h = mod-eq_of_lt (omega (arith, th, hn)) in
        let below : i < t + n - h = rw (← count) l in
        ⊎_elim
        (λ (s : h + i < n). λ e. let same : (h + i) % n ≡ h + i = mod-eq_of_lt s in omega (arith, same, e, th))
        (λ (s : n ≤ h + i). λ e. let same : (h + i) % n ≡ h + i - n = mod_wrapped (h + i) n s (omega (arith, below, hn, tn)) in omega (arith, same, e, below, s, hn))
        (cases_lt (h + i) n)

    straight : h ≤ t → (h + i) % n ≢ t
    straight ht =
        let count : (t + n - h) % n ≡ t + n - h - n = mod_wrapped (t + n - h) n (omega (arith, ht)) (omega (arith, ht, tn, hn)) in
        let below : i < t + n - h - n = rw (← count) l in
        λ e. let same : (h + i) % n ≡ h + i = mod-eq_of_lt (omega (arith, below, tn)) in omega (arith, same, e, below)

-- and the place after the last is the tail
ends_at_tail : (n h t : ℕ) → h < n → t < n → (h + (t + n - h) % n) % n ≡ t
ends_at_tail n h t hn tn = ⊎_elim round straight (cases_lt t h)
  where
    round : t < h → (h + (t + n - h) % n) % n ≡ t
    round th =
        let count : (t + n - h) % n ≡ t + n - h = mod-eq_of_lt (omega (arith, th, hn)) in
        let place : h + (t + n - h) % n ≡ t + n = omega (arith, count, hn) in
        ap (λ (x : ℕ). x % n) place ∙ mod_wrapped (t + n) n (omega arith) (omega (arith, tn)) ∙ (omega arith)

    straight : h ≤ t → (h + (t + n - h) % n) % n ≡ t
    straight ht =
        let count : (t + n - h) % n ≡ t + n - h - n = mod_wrapped (t + n - h) n (omega (arith, ht)) (omega (arith, ht, tn, hn)) in
        let place : h + (t + n - h) % n ≡ t = omega (arith, count, hn, ht) in
        ap (λ (x : ℕ). x % n) place ∙ mod-eq_of_lt tn

pub owned-before_tail : (r : RingState) (i : ℕ) → IsValidRing r → i < length (owned r) → get_or (owned r) i 0 ≢ r.tail
owned-before_tail r i v l =
    let a = owned_at r i (λ on. v) l in
    λ e. tail_not_met r.count r.head r.tail i v.head_below v.tail_below a.below (sym a.place ∙ e)

pub owned-ends : (r : RingState) → IsValidRing r → r.enabled ≡ true → (r.head + length (owned r)) % r.count ≡ r.tail
owned-ends r v on = ap (λ (x : ℕ). (r.head + x) % r.count) (length-owned-on r on) ∙ ends_at_tail r.count r.head r.tail v.head_below v.tail_below

-- ---- the first of them

pub length-owned-equal : (r : RingState) → IsRing r → r.head ≡ r.tail → length (owned r) ≡ 0
length-owned-equal r ok same = by r.enabled refl
  where
    by : (b : Bool) → r.enabled ≡ b → length (owned r) ≡ 0
    by true on = length-owned-on r on ∙ owned_count-none r (ok on) same
    by false off = ap length (owned-off r off)

pub owned-first : (r : RingState) → IsRing r → 1 ≤ length (owned r) → get_or (owned r) 0 0 ≡ r.head
owned-first r ok some =
    let a = owned_at r 0 ok some in
    let same : r.head + 0 ≡ r.head = omega arith in
    a.place ∙ ap (λ (x : ℕ). x % r.count) same ∙ mod-eq_of_lt a.valid.head_below
