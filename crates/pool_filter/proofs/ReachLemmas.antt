-- Sets of pools that may be reached: by the entries that share an id, and within a group.
use Rattle.std.proofs.Common.{arith, ◌≡◌, ℕ, zero, suc, ◌+◌, ◌^◌, ◌<◌, ◌≤◌, Bool, true, false, cond, not, ◌&&◌, ◌||◌, List, [], ◌∷◌, map, Some, None, is_some, refl, sym, ap, ◌∙◌, eqb, eqb-true, ltb, true≢false, bit_and}
use Rattle.std.specs.Prelude.{IsTrue, ◌↔◌}
use Rattle.std.specs.Option.{unwrap_or}
use Rattle.std.specs.Int.{bit_at, bit_not, trailing_zeros, w64}
use Rattle.std.specs.List.{list_any, range_with_len, filter}
use Rattle.std.proofs.lemmas.Bool.Decides.{nat_tests}
use Rattle.std.proofs.lemmas.Bool.{eqb-false}
use Rattle.std.proofs.lemmas.Nat.Bits.{bit_at_not, bit_at-lt, bit_at-trailing_zeros}
use Rattle.std.proofs.lemmas.Nat.{and_le_l}
use Rattle.std.proofs.Math.Bool.{or-false, and-false}
use Rattle.wire_frame.specs.Bits.{has_bit, has_bit_in}
use Rattle.wire_frame.specs.Pools.{IsLowestTaken}
use Rattle.wire_frame.proofs.BitLemmas.{has_bit_and, has_bit_zero, list_any-range_more}
use Rattle.vlan_table.specs.Vlans.{Vlans, entry_id, entry_has_pool, has_vlan}
use Rattle.pool_filter.specs.Settings.{Settings}
use Rattle.pool_filter.specs.Accepts.{takes_untagged}
use Rattle.pool_filter.specs.Own.{own, with_number, rising, vlan_ids_of}
use Rattle.pool_filter.specs.Reach.{have_common}
use Rattle.pool_filter.proofs.OwnLemmas.{contains_vlan_ids}
use Rattle.pool_filter.proofs.PutLemmas.{id_given}

pub untagged_of : (s : Settings) (p : ℕ) → (own s p).takes_untagged ≡ takes_untagged s p
unfolding own
untagged_of s p = refl

-- ---- some id of a pool's is another's

or_again : (a b : Bool) → (a || (a || b)) ≡ (a || b)
or_again true b = refl
or_again false b = refl

or_swap : (a b c : Bool) → (a || (b || c)) ≡ (b || (a || c))
or_swap true true c = refl
or_swap true false c = refl
or_swap false b c = refl

any-with_number : (t : ℕ → Bool) (x : ℕ) (xs : List ℕ) → list_any t (with_number x xs) ≡ (t x || list_any t xs)
any-with_number t x [] = refl
any-with_number t x (y ∷ ys) = go (ltb x y) refl (eqb x y) refl (any-with_number t x ys)
  where
    go : (a : Bool) → ltb x y ≡ a → (b : Bool) → eqb x y ≡ b → list_any t (with_number x ys) ≡ (t x || list_any t ys) → list_any t (with_number x (y ∷ ys)) ≡ (t x || (t y || list_any t ys))
    go true is b also rest = rw is refl
    go false is true also rest =
        let same : t x ≡ t y = ap t (eqb-true x y also) in
        rw (is, also) (ap (λ b. b || list_any t ys) (sym same) ∙ sym (or_again (t x) (list_any t ys)) ∙ ap (λ b. t x || (b || list_any t ys)) same)
    go false is false also rest = rw (is, also) (ap (λ b. t y || b) rest ∙ or_swap (t y) (t x) (list_any t ys))

any-rising : (t : ℕ → Bool) (xs : List ℕ) → list_any t (rising xs) ≡ list_any t xs
any-rising t [] = refl
any-rising t (x ∷ xs) = any-with_number t x (rising xs) ∙ ap (λ b. t x || b) (any-rising t xs)

any-filter : (t u : ℕ → Bool) (xs : List ℕ) → list_any t (filter u xs) ≡ list_any (λ x. u x && t x) xs
any-filter t u [] = refl
any-filter t u (x ∷ xs) = go (u x) refl (any-filter t u xs)
  where
    go : (b : Bool) → u x ≡ b → list_any t (filter u xs) ≡ list_any (λ x. u x && t x) xs → list_any t (filter u (x ∷ xs)) ≡ list_any (λ x. u x && t x) (x ∷ xs)
    go true is rest = rw is (ap (λ b. t x || b) rest)
    go false is rest = rw is rest

any-map : (t : ℕ → Bool) (f : ℕ → ℕ) (xs : List ℕ) → list_any t (map f xs) ≡ list_any (λ x. t (f x)) xs
any-map t f [] = refl
any-map t f (x ∷ xs) = ap (λ b. t (f x) || b) (any-map t f xs)

-- entry e gives the one pool an id that the other has
abbrev pub joins : Vlans → ℕ → ℕ → ℕ → Bool
joins v q p e = entry_has_pool v q e && (has_bit_in v.table (entry_id v e) && has_vlan v p (entry_id v e))

pub common_by_entries : (v : Vlans) (q p : ℕ) → list_any (joins v q p) (range_with_len 0 64) ≡ have_common (rising (vlan_ids_of v q)) (rising (vlan_ids_of v p))
common_by_entries v q p =
    sym (
    (λ i. list_any (λ id. contains_vlan_ids v p id i) (rising (vlan_ids_of v q)))
    ∙ any-rising (has_vlan v p) (vlan_ids_of v q)
    ∙ any-filter (has_vlan v p) (has_bit_in v.table) (map (entry_id v) (filter (entry_has_pool v q) (range_with_len 0 64)))
    ∙ any-map (λ id. has_bit_in v.table id && has_vlan v p id) (entry_id v) (filter (entry_has_pool v q) (range_with_len 0 64))
    ∙ any-filter (λ e. has_bit_in v.table (entry_id v e) && has_vlan v p (entry_id v e)) (entry_has_pool v q) (range_with_len 0 64)
    )

-- what an entry that gives an id adds, and one that gives none
pub joins-given : (v : Vlans) (q p e id : ℕ) → id_given v q e ≡ Some id → has_vlan v p id ≡ joins v q p e
joins-given v q p e id is = go (entry_has_pool v q e) (has_bit_in v.table (entry_id v e)) is
  where
    go : (a b : Bool) → cond (a && b) (Some (entry_id v e)) None ≡ Some id → has_vlan v p id ≡ (a && (b && has_vlan v p (entry_id v e)))
    go true true is = ap (λ given. has_vlan v p (unwrap_or given 0)) (sym is)
    go true false is = absurd (true≢false (sym (ap is_some is)))
    go false b is = absurd (true≢false (sym (ap is_some is)))

pub joins-none : (v : Vlans) (q p e : ℕ) → id_given v q e ≡ None → joins v q p e ≡ false
joins-none v q p e is = go (entry_has_pool v q e) (has_bit_in v.table (entry_id v e)) is
  where
    go : (a b : Bool) → cond (a && b) (Some (entry_id v e)) None ≡ None → (a && (b && has_vlan v p (entry_id v e))) ≡ false
    go true true is = absurd (true≢false (ap is_some is))
    go true false is = refl
    go false b is = refl

-- entry n joins nothing
pub joined_none : (t : ℕ → Bool) (pools p n : ℕ) → has_bit pools p ≡ list_any t (range_with_len 0 n) → t n ≡ false → has_bit pools p ≡ list_any t (range_with_len 0 (n + 1))
joined_none t pools p n so_far none = so_far ∙ sym (or-false (list_any t (range_with_len 0 n))) ∙ ap (λ b. list_any t (range_with_len 0 n) || b) (sym none) ∙ sym (list_any-range_more t n)

-- ---- a set within another

flipped : (group p : ℕ) → group < 2 ^ 64 → p < 64 → has_bit (bit_not w64 group) p ≡ not (has_bit group p)
unfolding has_bit
flipped group p fits small = let bit = bit_at-lt group p in rw (bit_at_not w64 group p fits small) (grind (arith, nat_tests, bit))

-- `pools & !group` is the pools outside the group
outside : (pools group p : ℕ) → group < 2 ^ 64 → p < 64 → has_bit (bit_and pools (bit_not w64 group)) p ≡ (has_bit pools p && not (has_bit group p))
outside pools group p fits small = has_bit_and pools (bit_not w64 group) p ∙ ap (λ b. has_bit pools p && b) (flipped group p fits small)

pub has_bit-one : (n p : ℕ) → bit_at n p ≡ 1 → has_bit n p ≡ true
unfolding has_bit
has_bit-one n p is = ap (λ v. eqb v 1) is

pub has_bit-none : (n p : ℕ) → bit_at n p ≡ 0 → has_bit n p ≡ false
unfolding has_bit
has_bit-none n p is = ap (λ v. eqb v 1) is

-- once a pool is taken from what is left, the pools that aren't left are it and those that weren't
pub taken_within : (reaches : ℕ → ℕ → Bool) (rest p after q r : ℕ) → IsLowestTaken rest p after → bit_at after q ≡ 0 → reaches p r ≡ false → (bit_at rest q ≡ 0 → reaches q r ≡ false) → reaches q r ≡ false
taken_within reaches rest p after q r taken clear here before = go (eqb q p) refl
  where
    go : (b : Bool) → eqb q p ≡ b → reaches q r ≡ false
    go true is = ap (λ k. reaches k r) (eqb-true q p is) ∙ here
    go false is = before (sym (taken.others q (eqb-false q p is)) ∙ clear)

-- a set of which no pool below 64 is there is empty
empty : (x : ℕ) → x < 2 ^ 64 → ((p : ℕ) → p < 64 → has_bit x p ≡ false) → eqb x 0 ≡ true
empty zero fits none = refl
empty (suc x) fits none =
    let found : (trailing_zeros w64 (suc x) < 64) × (bit_at (suc x) (trailing_zeros w64 (suc x)) ≡ 1) × ((k : ℕ) → k < trailing_zeros w64 (suc x) → bit_at (suc x) k ≡ 0) = bit_at-trailing_zeros w64 (suc x) (omega arith) fits in
    absurd (true≢false (sym (has_bit-one (suc x) (trailing_zeros w64 (suc x)) found.1) ∙ none (trailing_zeros w64 (suc x)) found.0))

second_false : (a b : Bool) → b ≡ false → (a && not b) ≡ a
second_false true b is = ap not is
second_false false b is = refl

both_false : (a b : Bool) → (b ≡ false → a ≡ false) → (a && not b) ≡ false
both_false a true h = and-false a
both_false a false h = ap (λ c. c && true) (h refl)

-- nothing of the set is outside the group exactly where each pool outside is not in the set
pub none_outside : (pools bits group : ℕ) (f : ℕ → Bool) → pools < 2 ^ 64 → bits < 2 ^ 64 → bits ≡ group → ((p : ℕ) → p < 64 → has_bit pools p ≡ f p)
    → IsTrue (eqb (bit_and pools (bit_not w64 bits)) 0) ↔ ((p : ℕ) → p < 64 → has_bit group p ≡ false → f p ≡ false)
none_outside pools bits group f fits few same is_set = (
  λ none p below away.
      sym (is_set p below) ∙ sym (second_false (has_bit pools p) (has_bit bits p) (ap (λ n. has_bit n p) same ∙ away)) ∙ sym (outside pools bits p few below)
      ∙ ap (λ n. has_bit n p) (eqb-true (bit_and pools (bit_not w64 bits)) 0 none) ∙ has_bit_zero p,
  λ h.
      let less : bit_and pools (bit_not w64 bits) ≤ pools = and_le_l pools (bit_not w64 bits) in
      empty (bit_and pools (bit_not w64 bits)) (omega (arith, less, fits))
      (λ p below. outside pools bits p few below
      ∙ both_false (has_bit pools p) (has_bit bits p) (λ away. is_set p below ∙ h p below (ap (λ n. has_bit n p) (sym same) ∙ away))),
)
