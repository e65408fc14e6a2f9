-- Keys that rise, and what stands where in an index of them.
use Rattle.std.proofs.Common.{arith, ◌≡◌, ℕ, zero, suc, ◌+◌, ◌-◌, ◌*◌, ◌/◌, ◌<◌, ◌≤◌, ◌^◌, Bool, true, false, cond, List, [], ◌∷◌, ◌++◌, Option, Some, None, length, take, drop, get_or, slice_index_or, slice_set, insert, remove, refl, sym, ap, ◌∙◌, ⊎_elim, eqb, eqb-true, if◌then◌else◌}
use Rattle.std.specs.List.{refill}
use Rattle.std.proofs.lemmas.List.{length-set}
use Rattle.std.proofs.Math.Seq.{take-append_seam}
use Rattle.std.proofs.lemmas.Bool.{cases_lt, eq-eqb}
use Rattle.std.proofs.lemmas.Bool.Decides.{nat_tests}
use Rattle.std.proofs.Math.Nat.{pow-suc}
use Rattle.pool_index.specs.declared.index.Entry.{Entry}
use Rattle.pool_index.specs.Index.{kept_pools, Rises, IsGap}

-- ---- keys that rise

rises_low : (low : ℕ) (ks : List Entry) → Rises low ks → (i : ℕ) (d : Entry) → i < length ks → low ≤ (get_or ks i d).key
rises_low low [] r i d h = absurd (omega arith)
rises_low low (k ∷ ks) r zero d h = r.0
rises_low low (k ∷ ks) r (suc i) d h = let later = rises_low (k.key + 1) ks r.1 i d (omega arith) in omega (arith, r.0, later)

rises_far : (low : ℕ) (ks : List Entry) → Rises low ks → (i j : ℕ) (d e : Entry) → i < j → j < length ks → (get_or ks i d).key < (get_or ks j e).key
rises_far low [] r i j d e h l = absurd (omega arith)
rises_far low (k ∷ ks) r i zero d e h l = absurd (omega arith)
rises_far low (k ∷ ks) r zero (suc j) d e h l = let later = rises_low (k.key + 1) ks r.1 j e (omega arith) in omega (arith, later)
rises_far low (k ∷ ks) r (suc i) (suc j) d e h l = rises_far (k.key + 1) ks r.1 i j d e (omega arith) (omega arith)

rises_from_lower : (low from : ℕ) (ks : List Entry) → low ≤ from → Rises from ks → Rises low ks
rises_from_lower low from [] h r = tt
rises_from_lower low from (k ∷ ks) h r = (omega (arith, h, r.0), r.1)

same_default : (ks : List Entry) (i : ℕ) (d e : Entry) → i < length ks → get_or ks i d ≡ get_or ks i e
same_default [] i d e h = absurd (omega arith)
same_default (k ∷ ks) zero d e h = refl
same_default (k ∷ ks) (suc i) d e h = same_default ks i d e (omega arith)

-- ---- a comparison with the key at a place

pub all_lower : (ks : List Entry) (key middle : ℕ) (d : Entry) → Rises 0 ks → middle < length ks → (get_or ks middle d).key < key → (k : ℕ) (e : Entry) → k < middle + 1 → (get_or ks k e).key < key
all_lower ks key middle d r h below k e l = ⊎_elim (λ before. let far = rises_far 0 ks r k middle e d before h in omega (arith, far, below)) (λ after. here (omega (arith, after, l))) (cases_lt k middle)
  where
    here : k ≡ middle → (get_or ks k e).key < key
    here same = rw (same, same_default ks middle e d h) below

pub all_higher : (ks : List Entry) (key middle : ℕ) (d : Entry) → Rises 0 ks → middle < length ks → key < (get_or ks middle d).key → (k : ℕ) (e : Entry) → middle ≤ k → k < length ks → key < (get_or ks k e).key
all_higher ks key middle d r h above k e l m = ⊎_elim (λ before. absurd (omega (arith, before, l))) (λ after. ⊎_elim (λ later. let far = rises_far 0 ks r middle k d e later m in omega (arith, far, above)) (λ no_later. here (omega (arith, l, no_later))) (cases_lt middle k)) (cases_lt k middle)
  where
    here : k ≡ middle → key < (get_or ks k e).key
    here same = rw (same, same_default ks middle e d h) above

-- a power of two is twice the one before it
power_halves : (digits n : ℕ) → n < digits → 2 ^ (digits - n) ≡ 2 ^ (digits - (n + 1)) * 2
power_halves digits n h = let one_more : digits - n ≡ suc (digits - (n + 1)) = omega arith in ap (λ k. 2 ^ k) one_more ∙ pow-suc 2 (digits - (n + 1))

-- while anything is left to compare, fewer comparisons were made than the number has digits
pub some_left : (digits n width : ℕ) → n ≤ digits → 0 < width → width < 2 ^ (digits - n) → n < digits
some_left digits n width h some fits = ⊎_elim (λ below. below) (λ above. absurd (none (omega (arith, above, h)))) (cases_lt n digits)
  where
    none : n ≡ digits → ⊥
    none same =
        let nothing_more : digits - n ≡ 0 = omega (arith, same) in
        let bound : width < 1 = (rw nothing_more at fits) in
        omega (arith, bound, some)

-- a width below 2 ^ k that is halved is below 2 ^ (k - 1)
pub halved_more : (digits n width half : ℕ) → n < digits → width < 2 ^ (digits - n) → half ≤ width / 2 → half < 2 ^ (digits - (n + 1))
halved_more digits n width half h fits less = let power = power_halves digits n h in omega (arith, power, fits, less)

-- ---- what is kept with a key

pub kept_at : (low : ℕ) (ks : List Entry) → Rises low ks → (i : ℕ) (d : Entry) (key : ℕ) → i < length ks → (get_or ks i d).key ≡ key → kept_pools ks key ≡ Some (get_or ks i d).pools
unfolding kept_pools
kept_at low [] r i d key h is = absurd (omega arith)
kept_at low (k ∷ ks) r zero d key h is = let same : eqb k.key key ≡ true = eq-eqb k.key key is in rw same refl
kept_at low (k ∷ ks) r (suc i) d key h is =
    let later = rises_low (k.key + 1) ks r.1 i d (omega arith) in
    let differs : eqb k.key key ≡ false = grind (arith, nat_tests, later, is) in
    rw differs (kept_at (k.key + 1) ks r.1 i d key (omega arith) is)

later_gap : (k : Entry) (ks : List Entry) (key i : ℕ) → IsGap (k ∷ ks) key (suc i) → IsGap ks key i
later_gap k ks key i gap = (omega (arith, gap.0), ((λ j d h. gap.1.0 (suc j) d (omega arith)), (λ j d h l. gap.1.1 (suc j) d (omega arith) (omega arith))))

pub kept_gap : (ks : List Entry) (key i : ℕ) → IsGap ks key i → kept_pools ks key ≡ None
unfolding kept_pools
kept_gap [] key i gap = refl
kept_gap (k ∷ ks) key zero gap =
    let first = gap.1.1 0 k (omega arith) (omega arith) in
    let differs : eqb k.key key ≡ false = grind (arith, nat_tests, first) in
    rw differs (kept_gap ks key 0 (omega arith, ((λ j d h. absurd (omega arith)), (λ j d h l. gap.1.1 (suc j) d (omega arith) (omega arith)))))
kept_gap (k ∷ ks) key (suc i) gap =
    let first = gap.1.0 0 k (omega arith) in
    let differs : eqb k.key key ≡ false = grind (arith, nat_tests, first) in
    rw differs (kept_gap ks key i (later_gap k ks key i gap))

-- a key below all that are kept is not kept
kept_below : (low : ℕ) (ks : List Entry) (key : ℕ) → Rises low ks → key < low → kept_pools ks key ≡ None
unfolding kept_pools
kept_below low [] key r h = refl
kept_below low (k ∷ ks) key r h =
    let differs : eqb k.key key ≡ false = grind (arith, nat_tests, r.0) in
    rw differs (kept_below (k.key + 1) ks key r.1 (omega (arith, r.0)))

-- ---- one key changes

-- one key is kept with other pools, or no more, and the others stay
abbrev pub Changed : ℕ → Option ℕ → List Entry → List Entry → Type 0
Changed key found old new = (k : ℕ) → kept_pools new k ≡ (if eqb key k then found else kept_pools old k)

pub changed_at : (low : ℕ) (ks : List Entry) → Rises low ks → (i : ℕ) (d n : Entry) (key : ℕ) → i < length ks → (get_or ks i d).key ≡ key → n.key ≡ key → Changed key (Some n.pools) ks (slice_set ks i n)
unfolding kept_pools
changed_at low [] r i d n key h is same a = absurd (omega arith)
changed_at low (k ∷ ks) r zero d n key h is same a = rw (is, same) (go (eqb key a) refl)
  where
    go : (b : Bool) → eqb key a ≡ b → cond (eqb key a) (Some n.pools) (kept_pools ks a) ≡ cond (eqb key a) (Some n.pools) (cond (eqb key a) (Some k.pools) (kept_pools ks a))
    go true e = rw e refl
    go false e = rw e refl
changed_at low (k ∷ ks) r (suc i) d n key h is same a = go (eqb k.key a) refl (changed_at (k.key + 1) ks r.1 i d n key (omega arith) is same a)
  where
    go : (b : Bool) → eqb k.key a ≡ b → kept_pools (slice_set ks i n) a ≡ (if eqb key a then Some n.pools else kept_pools ks a) → cond (eqb k.key a) (Some k.pools) (kept_pools (slice_set ks i n) a) ≡ cond (eqb key a) (Some n.pools) (cond (eqb k.key a) (Some k.pools) (kept_pools ks a))
    go true e rest =
        let later = rises_low (k.key + 1) ks r.1 i d (omega arith) in
        let differs : eqb key a ≡ false = grind (arith, nat_tests, later, is, e) in
        rw (e, differs) refl
    go false e rest = rw e rest

pub rises_at : (low : ℕ) (ks : List Entry) → Rises low ks → (i : ℕ) (d n : Entry) → i < length ks → (get_or ks i d).key ≡ n.key → Rises low (slice_set ks i n)
rises_at low [] r i d n h is = absurd (omega arith)
rises_at low (k ∷ ks) r zero d n h is = rw (← is) r
rises_at low (k ∷ ks) r (suc i) d n h is = (r.0, rises_at (k.key + 1) ks r.1 i d n (omega arith) is)

pub changed_gap : (ks : List Entry) (i : ℕ) (n : Entry) → IsGap ks n.key i → Changed n.key (Some n.pools) ks (insert ks i n)
unfolding kept_pools
changed_gap ks zero n gap a = refl
changed_gap [] (suc i) n gap a = absurd (omega (arith, gap.0))
changed_gap (k ∷ ks) (suc i) n gap a = go (eqb k.key a) refl (changed_gap ks i n (later_gap k ks n.key i gap) a)
  where
    go : (b : Bool) → eqb k.key a ≡ b → kept_pools (insert ks i n) a ≡ (if eqb n.key a then Some n.pools else kept_pools ks a) → cond (eqb k.key a) (Some k.pools) (kept_pools (insert ks i n) a) ≡ cond (eqb n.key a) (Some n.pools) (cond (eqb k.key a) (Some k.pools) (kept_pools ks a))
    go true e rest =
        let first = gap.1.0 0 k (omega arith) in
        let differs : eqb n.key a ≡ false = grind (arith, nat_tests, first, e) in
        rw (e, differs) refl
    go false e rest = rw e rest

pub rises_gap : (low : ℕ) (ks : List Entry) → Rises low ks → (i : ℕ) (n : Entry) → low ≤ n.key → IsGap ks n.key i → Rises low (insert ks i n)
rises_gap low [] r zero n h gap = (h, tt)
rises_gap low [] r (suc i) n h gap = absurd (omega (arith, gap.0))
rises_gap low (k ∷ ks) r zero n h gap = (h, (let first = gap.1.1 0 k (omega arith) (omega arith) in omega (arith, first), r.1))
rises_gap low (k ∷ ks) r (suc i) n h gap = (r.0, rises_gap (k.key + 1) ks r.1 i n (let first = gap.1.0 0 k (omega arith) in omega (arith, first)) (later_gap k ks n.key i gap))

pub changed_removed : (low : ℕ) (ks : List Entry) → Rises low ks → (i : ℕ) (d : Entry) (key : ℕ) → i < length ks → (get_or ks i d).key ≡ key → Changed key None ks (remove ks i)
unfolding kept_pools
changed_removed low [] r i d key h is a = absurd (omega arith)
changed_removed low (k ∷ ks) r zero d key h is a = rw is (go (eqb key a) refl)
  where
    go : (b : Bool) → eqb key a ≡ b → kept_pools ks a ≡ cond (eqb key a) None (cond (eqb key a) (Some k.pools) (kept_pools ks a))
    go true e = rw e (kept_below (k.key + 1) ks a r.1 (let same = eqb-true key a e in omega (arith, same, is)))
    go false e = rw e refl
changed_removed low (k ∷ ks) r (suc i) d key h is a = go (eqb k.key a) refl (changed_removed (k.key + 1) ks r.1 i d key (omega arith) is a)
  where
    go : (b : Bool) → eqb k.key a ≡ b → kept_pools (remove ks i) a ≡ (if eqb key a then None else kept_pools ks a) → cond (eqb k.key a) (Some k.pools) (kept_pools (remove ks i) a) ≡ cond (eqb key a) None (cond (eqb k.key a) (Some k.pools) (kept_pools ks a))
    go true e rest =
        let later = rises_low (k.key + 1) ks r.1 i d (omega arith) in
        let differs : eqb key a ≡ false = grind (arith, nat_tests, later, is, e) in
        rw (e, differs) refl
    go false e rest = rw e rest

pub rises_removed : (low : ℕ) (ks : List Entry) → Rises low ks → (i : ℕ) → i < length ks → Rises low (remove ks i)
rises_removed low [] r i h = absurd (omega arith)
rises_removed low (k ∷ ks) r zero h = rises_from_lower low (k.key + 1) ks (omega (arith, r.0)) r.1
rises_removed low (k ∷ ks) r (suc i) h = (r.0, rises_removed (k.key + 1) ks r.1 i (omega arith))

-- a key that is not kept, taken out
pub changed_nothing : (ks : List Entry) (key : ℕ) → kept_pools ks key ≡ None → Changed key None ks ks
changed_nothing ks key none a = go (eqb key a) refl
  where
    go : (b : Bool) → eqb key a ≡ b → kept_pools ks a ≡ (if eqb key a then None else kept_pools ks a)
    go true e = rw e (ap (kept_pools ks) (sym (eqb-true key a e)) ∙ none)
    go false e = rw e refl

-- ---- a write through a slice

abbrev pub nothing : Entry
nothing = record { key = 0; pools = 0 }

-- place i of the index with other pools
abbrev pub with_pools : List Entry → ℕ → ℕ → Entry
with_pools ks i pools = record { key = (slice_index_or ks i nothing).key; pools = pools }

pub refilled : (ks slice : List Entry) → slice ≡ ks → (i pools : ℕ) → refill (length ks) ks (slice_set slice i (with_pools slice i pools)) ≡ slice_set ks i (with_pools ks i pools)
refilled ks slice is i pools =
    let new = slice_set ks i (with_pools ks i pools) in
    let same : length ks ≡ length new = sym (length-set ks i (with_pools ks i pools)) in
    rw is (ap (λ n. take n (new ++ drop (length new) ks)) same ∙ take-append_seam new (drop (length new) ks))
