-- What a scan of the entries finds of a key, what a write to one entry leaves, and that there is room for every key.
use Rattle.std.proofs.Common.{arith, ◌≡◌, ◌≢◌, ℕ, zero, suc, ◌+◌, ◌<◌, ◌≤◌, Bool, true, false, true≢false, ◌&&◌, ◌||◌, List, [], ◌∷◌, ◌++◌, Option, Some, None, is_some, length, map, bit_or, refl, sym, ap, ◌∙◌, eqb, eqb-true, length-append, if◌then◌else◌}
use Rattle.std.specs.Cmp.{nat_eq_equiv}
use Rattle.std.specs.List.{list_any, range_with_len, AllByRecursion, IsDistinct}
use Rattle.std.proofs.Math.Bool.{or-false, or-true, and-false}
use Rattle.std.proofs.lemmas.Bool.{eq-eqb, eqb-false, and_parts}
use Rattle.std.proofs.lemmas.Bool.Decides.{nat_tests}
use Rattle.std.proofs.lemmas.List.Folds.{list_any-append}
use Rattle.std.proofs.lemmas.List.FromFn.{length-range_with_len}
use Rattle.std.proofs.lemmas.List.{length-map}
use Rattle.std.proofs.lemmas.Map.Keys.{IsDistinct-push}
use Rattle.std.proofs.lemmas.Map.Made.{length-le_from_is_member}
use Rattle.std.specs.Option.{unwrap_or}
use Rattle.wire_frame.specs.Bits.{has_bit}
use Rattle.wire_frame.proofs.BitLemmas.{has_bit_or, has_bit_zero, joined_more, list_any-range_more}
use Rattle.pool_index.specs.declared.index.Entry.{Entry}
use Rattle.pool_index.specs.Index.{kept_pools, Rises}
use Rattle.pool_index.specs.Entries.{Entries, SaySame, is_held, is_given, IsAnswer, IsIndexOf}
use Rattle.pool_index.proofs.IndexLemmas.{Changed}

-- ---- no entry passes

pub none_passes : (t : ℕ → Bool) (a n : ℕ) → ((p : ℕ) → p < a + n → t p ≡ false) → list_any t (range_with_len a n) ≡ false
none_passes t a zero fails = refl
none_passes t a (suc n) fails = rw (fails a (omega arith)) (none_passes t (a + 1) n (λ p h. fails p (omega arith)))

-- ---- a scan of the entries

all_pass : (t u : ℕ → Bool) (es : List ℕ) → ((e : ℕ) → t e ≡ true → u e ≡ true) → list_any t es ≡ true → list_any u es ≡ true
all_pass t u [] implies some = some
all_pass t u (e ∷ es) implies some = go (t e) refl (all_pass t u es implies)
  where
    go : (b : Bool) → t e ≡ b → (list_any t es ≡ true → list_any u es ≡ true) → (u e || list_any u es) ≡ true
    go true is rest = rw (implies e is) refl
    go false is rest = rw (rest (rw is at some)) (or-true (u e))

pub none_held : (t : Entries) (key : ℕ) → false ≡ is_held 0 t key
unfolding is_held
none_held t key = refl

pub none_given : (t : Entries) (key p : ℕ) → has_bit 0 p ≡ is_given 0 t p key
unfolding is_given
none_given t key p = has_bit_zero p

pub held_more : (held : Bool) (n : ℕ) (t : Entries) (key : ℕ) → held ≡ is_held n t key → (held || (t.is_valid n && eqb (t.key n) key)) ≡ is_held (n + 1) t key
unfolding is_held
held_more held n t key so_far = ap (λ b. b || (t.is_valid n && eqb (t.key n) key)) so_far ∙ sym (list_any-range_more (λ e. t.is_valid e && eqb (t.key e) key) n)

between_false : (a b c : Bool) → (a && c) ≡ false → ((a && b) && c) ≡ false
between_false true true c is = is
between_false true false c is = refl
between_false false b c is = refl

between_true : (a b c : Bool) → (a && c) ≡ true → ((a && b) && c) ≡ b
between_true true true c is = is
between_true true false c is = refl
between_true false b c is = absurd (true≢false (sym is))

module _ (pools p n : ℕ) (t : Entries) (key : ℕ) (so_far : has_bit pools p ≡ is_given n t p key) (holds : Bool) (is : holds ≡ (t.is_valid n && eqb (t.key n) key)) where
  -- entry n doesn't hold the key
  pub given_same : holds ≡ false → has_bit (bit_or pools 0) p ≡ is_given (n + 1) t p key
  unfolding is_given
  given_same not_held = joined_more (λ e. (t.is_valid e && t.has_pool p e) && eqb (t.key e) key) pools 0 p n so_far (has_bit_zero p ∙ sym (between_false (t.is_valid n) (t.has_pool p n) (eqb (t.key n) key) (sym is ∙ not_held)))

  -- it holds the key, and its pools join the mask
  pub given_more : (given : ℕ) → has_bit given p ≡ t.has_pool p n → holds ≡ true → has_bit (bit_or pools given) p ≡ is_given (n + 1) t p key
  unfolding is_given
  given_more given mask held = joined_more (λ e. (t.is_valid e && t.has_pool p e) && eqb (t.key e) key) pools given p n so_far (mask ∙ sym (between_true (t.is_valid n) (t.has_pool p n) (eqb (t.key n) key) (sym is ∙ held)))

-- a key that no valid entry holds is given to no pool
pub unheld_not_given : (n : ℕ) (t : Entries) (key : ℕ) → false ≡ is_held n t key → (p : ℕ) → has_bit 0 p ≡ is_given n t p key
unfolding is_held is_given
unheld_not_given n t key none p = go (list_any given (range_with_len 0 n)) refl
  where
    given : ℕ → Bool
    given e = (t.is_valid e && t.has_pool p e) && eqb (t.key e) key

    holds : ℕ → Bool
    holds e = t.is_valid e && eqb (t.key e) key

    without_pool : (a b c : Bool) → ((a && b) && c) ≡ true → (a && c) ≡ true
    without_pool true true c is = is
    without_pool true false c is = absurd (true≢false (sym is))
    without_pool false b c is = absurd (true≢false (sym is))

    go : (b : Bool) → list_any given (range_with_len 0 n) ≡ b → has_bit 0 p ≡ list_any given (range_with_len 0 n)
    go true is = absurd (true≢false (sym (all_pass given holds (range_with_len 0 n) (λ e. without_pool (t.is_valid e) (t.has_pool p e) (eqb (t.key e) key)) is) ∙ sym none))
    go false is = has_bit_zero p ∙ sym is

-- ---- a table in which no entry is valid

pub nothing_held : (n : ℕ) (t : Entries) → ((e : ℕ) → t.is_valid e ≡ false) → IsIndexOf [] n t
unfolding kept_pools is_held is_given
nothing_held n t invalid = (
  tt,
  λ key. (
    sym (none_passes (λ e. t.is_valid e && eqb (t.key e) key) 0 n (λ e h. ap (λ b. b && eqb (t.key e) key) (invalid e))),
    λ p h. has_bit_zero p ∙ sym (none_passes (λ e. (t.is_valid e && t.has_pool p e) && eqb (t.key e) key) 0 n (λ e l. ap (λ b. (b && t.has_pool p e) && eqb (t.key e) key) (invalid e))),
  ),
)

-- ---- a write to one entry

pub index_stays : (ks : List Entry) (n : ℕ) (a b : Entries) → ((e : ℕ) → SaySame a b e) → IsIndexOf ks n a → IsIndexOf ks n b
unfolding is_held is_given
index_stays ks n a b same says = (
  says.0,
  λ key. (
    (says.1 key).0 ∙ ap (λ t. list_any t (range_with_len 0 n)) (λ i e. (same e).valid i && eqb ((same e).keys i) key),
    λ p h. (says.1 key).1 p h ∙ ap (λ t. list_any t (range_with_len 0 n)) (λ i e. ((same e).valid i && (same e).pools p i) && eqb ((same e).keys i) key),
  ),
)

-- of a key that entry e holds neither before nor after, the entries say what they said
module _ (a b : Entries) (e : ℕ) (others : (x : ℕ) → x ≢ e → SaySame a b x) where
  neither : (key : ℕ) → a.key e ≢ key → b.key e ≢ key → (f g : ℕ → Bool) → ((x : ℕ) → x ≢ e → f x ≡ g x) → (x : ℕ) → (f x && eqb (a.key x) key) ≡ (g x && eqb (b.key x) key)
  neither key before after f g same x = go (eqb x e) refl
    where
      go : (here : Bool) → eqb x e ≡ here → (f x && eqb (a.key x) key) ≡ (g x && eqb (b.key x) key)
      go true is =
          let there = eqb-true x e is in
          let old : eqb (a.key x) key ≡ false = rw there (grind (arith, nat_tests, before)) in
          let new : eqb (b.key x) key ≡ false = rw there (grind (arith, nat_tests, after)) in
          rw (old, new) (and-false (f x) ∙ sym (and-false (g x)))
      go false is = let other = eqb-false x e is in λ i. same x other i && eqb ((others x other).keys i) key

  pub answer_stays : (found : Option ℕ) (n key : ℕ) → a.key e ≢ key → b.key e ≢ key → IsAnswer found n a key → IsAnswer found n b key
  unfolding is_held is_given
  answer_stays found n key before after says = (
    says.0 ∙ ap (λ t. list_any t (range_with_len 0 n)) (λ i x. neither key before after a.is_valid b.is_valid (λ y other. (others y other).valid) x i),
    λ p h. says.1 p h ∙ ap (λ t. list_any t (range_with_len 0 n)) (λ i x. neither key before after (λ y. a.is_valid y && a.has_pool p y) (λ y. b.is_valid y && b.has_pool p y) (λ y other j. (others y other).valid j && (others y other).pools p j) x i),
  )

-- an entry that isn't valid, before or after, is no matter to the index
module _ (a b : Entries) (e : ℕ) (others : (x : ℕ) → x ≢ e → SaySame a b x) where
  idle : (key : ℕ) (f g : ℕ → Bool) → f e ≡ false → g e ≡ false → ((x : ℕ) → x ≢ e → f x ≡ g x) → (x : ℕ) → (f x && eqb (a.key x) key) ≡ (g x && eqb (b.key x) key)
  idle key f g before after same x = go (eqb x e) refl
    where
      go : (here : Bool) → eqb x e ≡ here → (f x && eqb (a.key x) key) ≡ (g x && eqb (b.key x) key)
      go true is =
          let there = eqb-true x e is in
          let old : f x ≡ false = rw there before in
          let new : g x ≡ false = rw there after in
          rw (old, new) refl
      go false is = let other = eqb-false x e is in λ i. same x other i && eqb ((others x other).keys i) key

  pub index_idle : (ks : List Entry) (n : ℕ) → a.is_valid e ≡ false → b.is_valid e ≡ false → IsIndexOf ks n a → IsIndexOf ks n b
  unfolding is_held is_given
  index_idle ks n before after says = (
    says.0,
    λ key. (
      (says.1 key).0 ∙ ap (λ t. list_any t (range_with_len 0 n)) (λ i x. idle key a.is_valid b.is_valid before after (λ y other. (others y other).valid) x i),
      λ p h. (says.1 key).1 p h ∙ ap (λ t. list_any t (range_with_len 0 n)) (λ i x. idle key (λ y. a.is_valid y && a.has_pool p y) (λ y. b.is_valid y && b.has_pool p y) (ap (λ v. v && a.has_pool p e) before) (ap (λ v. v && b.has_pool p e) after) (λ y other j. (others y other).valid j && (others y other).pools p j) x i),
    ),
  )

-- ---- an entry that gives more of one key

one_passes : (t : ℕ → Bool) (a n e : ℕ) → a ≤ e → e < a + n → t e ≡ true → list_any t (range_with_len a n) ≡ true
one_passes t a zero e l h is = absurd (omega (arith, l, h))
one_passes t a (suc n) e l h is = go (eqb a e) refl (λ differ. one_passes t (a + 1) n e (grind (arith, nat_tests, l, differ)) (omega (arith, h)) is)
  where
    go : (first : Bool) → eqb a e ≡ first → (eqb a e ≡ false → list_any t (range_with_len (a + 1) n) ≡ true) → (t a || list_any t (range_with_len (a + 1) n)) ≡ true
    go true same later = let here : t a ≡ true = ap t (eqb-true a e same) ∙ is in rw here refl
    go false other later = rw (later other) (or-true (t a))

-- where all but e pass as they did, and e still passes if it did, some pass just where some did or e does now
one_more : (f g : ℕ → Bool) (n e : ℕ) → e < n → ((x : ℕ) → x ≢ e → f x ≡ g x) → (f e ≡ true → g e ≡ true) → (list_any f (range_with_len 0 n) || g e) ≡ list_any g (range_with_len 0 n)
one_more f g n e h same still = go (g e) refl (f e) refl
  where
    go : (now : Bool) → g e ≡ now → (was : Bool) → f e ≡ was → (list_any f (range_with_len 0 n) || g e) ≡ list_any g (range_with_len 0 n)
    go true is was before = rw is (or-true (list_any f (range_with_len 0 n)) ∙ sym (one_passes g 0 n e (omega arith) (omega (arith, h)) is))
    go false is true before = absurd (true≢false (sym (still before) ∙ is))
    go false is false before = rw is (or-false (list_any f (range_with_len 0 n)) ∙ ap (λ t. list_any t (range_with_len 0 n)) (λ i x. each x (eqb x e) refl i))
      where
        each : (x : ℕ) (here : Bool) → eqb x e ≡ here → f x ≡ g x
        each x true there = let at = eqb-true x e there in ap f at ∙ before ∙ sym is ∙ ap g (sym at)
        each x false elsewhere = same x (eqb-false x e elsewhere)

-- a mask that others are joined to without a change has the bits of those
has_those : (gave gives p : ℕ) → bit_or gave gives ≡ gives → has_bit gave p ≡ true → has_bit gives p ≡ true
has_those gave gives p more has = ap (λ m. has_bit m p) (sym more) ∙ has_bit_or gave gives p ∙ (rw has refl)

module _ (a b : Entries) (e n key : ℕ) (others : (x : ℕ) → x ≢ e → SaySame a b x) (within : e < n) (was_valid : a.is_valid e ≡ true) (is_valid : b.is_valid e ≡ true) (held : key ≡ a.key e) (holds : key ≡ b.key e) where
  pub answer_grown : (found : Option ℕ) (gave gives : ℕ) → ((p : ℕ) → p < 64 → has_bit gave p ≡ a.has_pool p e) → ((p : ℕ) → p < 64 → has_bit gives p ≡ b.has_pool p e) → bit_or gave gives ≡ gives → IsAnswer found n a key → IsAnswer (Some (bit_or (unwrap_or found 0) gives)) n b key
  unfolding is_held is_given
  answer_grown found gave gives given_before given_now more says = (
    sym (one_passes (λ x. b.is_valid x && eqb (b.key x) key) 0 n e (omega arith) (omega (arith, within)) here),
    λ p h. has_bit_or (unwrap_or found 0) gives p ∙ (λ i. says.1 p h i || now p h i) ∙ one_more (before p) (after p) n e within (elsewhere p) (still p h),
  )
    where
      here : (b.is_valid e && eqb (b.key e) key) ≡ true
      here = rw (is_valid) (eq-eqb (b.key e) key (sym holds))

      before : ℕ → ℕ → Bool
      before p x = (a.is_valid x && a.has_pool p x) && eqb (a.key x) key

      after : ℕ → ℕ → Bool
      after p x = (b.is_valid x && b.has_pool p x) && eqb (b.key x) key

      there : (p : ℕ) → after p e ≡ b.has_pool p e
      there p = between_true (b.is_valid e) (b.has_pool p e) (eqb (b.key e) key) here

      now : (p : ℕ) → p < 64 → has_bit gives p ≡ after p e
      now p h = given_now p h ∙ sym (there p)

      elsewhere : (p x : ℕ) → x ≢ e → before p x ≡ after p x
      elsewhere p x other = let same = others x other in λ i. (same.valid i && same.pools p i) && eqb (same.keys i) key

      had : (p : ℕ) → before p e ≡ a.has_pool p e
      had p = between_true (a.is_valid e) (a.has_pool p e) (eqb (a.key e) key) (rw was_valid (eq-eqb (a.key e) key (sym held)))

      still : (p : ℕ) → p < 64 → before p e ≡ true → after p e ≡ true
      still p h has = there p ∙ sym (given_now p h) ∙ has_those gave gives p more (given_before p h ∙ sym (had p) ∙ has)

-- ---- there is room for every key that an entry holds

abbrev keys_of : List Entry → List ℕ
keys_of ks = map (λ k. k.key) ks

-- every kept key, but for this one, is held
abbrev pub KeptAreHeld : List Entry → ℕ → Entries → ℕ → Type 0
KeptAreHeld ks n t key = (k : ℕ) → k ≢ key → is_some (kept_pools ks k) ≡ true → is_held n t k ≡ true

rises_apart : (x low : ℕ) (ks : List Entry) → Rises low ks → x < low → AllByRecursion (λ y. eqb x y ≡ false) (keys_of ks)
rises_apart x low [] r h = tt
rises_apart x low (k ∷ ks) r h = (grind (arith, nat_tests, r.0, h), rises_apart x (k.key + 1) ks r.1 (omega (arith, r.0, h)))

rises_distinct : (low : ℕ) (ks : List Entry) → Rises low ks → IsDistinct eqb (keys_of ks)
unfolding IsDistinct
rises_distinct low [] r = tt
rises_distinct low (k ∷ ks) r = (rises_apart k.key (k.key + 1) ks r.1 (omega arith), rises_distinct (k.key + 1) ks r.1)

member_kept : (ks : List Entry) (q : ℕ) → list_any (eqb q) (keys_of ks) ≡ true → is_some (kept_pools ks q) ≡ true
unfolding kept_pools
member_kept [] q e = absurd (true≢false (sym e))
member_kept (k ∷ ks) q e = go (eqb k.key q) refl (member_kept ks q)
  where
    go : (b : Bool) → eqb k.key q ≡ b → (list_any (eqb q) (keys_of ks) ≡ true → is_some (kept_pools ks q) ≡ true) → is_some (if eqb k.key q then Some k.pools else kept_pools ks q) ≡ true
    go true is rest = rw is refl
    go false is rest =
        let other : eqb q k.key ≡ false = grind (arith, nat_tests, is) in
        let later : list_any (eqb q) (keys_of ks) ≡ true = (rw other at e) in
        rw is (rest later)

not_member : (ks : List Entry) (key : ℕ) → kept_pools ks key ≡ None → list_any (eqb key) (keys_of ks) ≡ false
not_member ks key none = go (list_any (eqb key) (keys_of ks)) refl
  where
    go : (b : Bool) → list_any (eqb key) (keys_of ks) ≡ b → list_any (eqb key) (keys_of ks) ≡ false
    go true is = absurd (true≢false (sym (member_kept ks key is) ∙ ap is_some none))
    go false is = is

held_member : (t : Entries) (q : ℕ) (es : List ℕ) → list_any (λ e. t.is_valid e && eqb (t.key e) q) es ≡ true → list_any (eqb q) (map t.key es) ≡ true
held_member t q [] held = held
held_member t q (e ∷ es) held = go (eqb (t.key e) q) refl (held_member t q es)
  where
    go : (b : Bool) → eqb (t.key e) q ≡ b → (list_any (λ x. t.is_valid x && eqb (t.key x) q) es ≡ true → list_any (eqb q) (map t.key es) ≡ true) → (eqb q (t.key e) || list_any (eqb q) (map t.key es)) ≡ true
    go true is rest = let same : eqb q (t.key e) ≡ true = eq-eqb q (t.key e) (sym (eqb-true (t.key e) q is)) in rw same refl
    go false is rest =
        let not_here : (t.is_valid e && eqb (t.key e) q) ≡ false = rw is (and-false (t.is_valid e)) in
        let later : list_any (λ x. t.is_valid x && eqb (t.key x) q) es ≡ true = (rw not_here at held) in
        rw (rest later) (or-true (eqb q (t.key e)))

-- as many keys as are kept, and one more, have an entry each
pub room : (ks : List Entry) (n : ℕ) (t : Entries) (key : ℕ) → Rises 0 ks → KeptAreHeld ks n t key → is_held n t key ≡ true → kept_pools ks key ≡ None → length ks < n
unfolding is_held
room ks n t key rises kept held none =
    let distinct : IsDistinct eqb (keys_of ks ++ key ∷ []) = IsDistinct-push nat_eq_equiv (keys_of ks) key (rises_distinct 0 ks rises) (not_member ks key none) in
    let fewer = length-le_from_is_member nat_eq_equiv (keys_of ks ++ key ∷ []) (map t.key (range_with_len 0 n)) distinct each in
    omega (arith, fewer, length-append (keys_of ks) (key ∷ []), length-map ks (λ k. k.key), length-map (range_with_len 0 n) t.key, length-range_with_len 0 n)
  where
    each : (q : ℕ) → list_any (eqb q) (keys_of ks ++ key ∷ []) ≡ true → list_any (eqb q) (map t.key (range_with_len 0 n)) ≡ true
    each q member = go (eqb q key) refl
      where
        go : (b : Bool) → eqb q key ≡ b → list_any (eqb q) (map t.key (range_with_len 0 n)) ≡ true
        go true is = held_member t q (range_with_len 0 n) (ap (is_held n t) (eqb-true q key is) ∙ held)
        go false is =
            let before : list_any (eqb q) (keys_of ks) ≡ true = sym (or-false _) ∙ (rw is at (sym (list_any-append (eqb q) (keys_of ks) (key ∷ [])) ∙ member)) in
            held_member t q (range_with_len 0 n) (kept q (eqb-false q key is) (member_kept ks q before))

-- ---- the keys of one entry, brought up to date one after the other

-- the key that was changed is answered for, and the others are as they were
one_changed : (n : ℕ) (t : Entries) (old new : List Entry) (key : ℕ) (found : Option ℕ) → Changed key found old new → IsAnswer found n t key → (k : ℕ) → (key ≢ k → IsAnswer (kept_pools old k) n t k) → IsAnswer (kept_pools new k) n t k
one_changed n t old new key found changed answer k others = go (eqb key k) refl
  where
    go : (b : Bool) → eqb key k ≡ b → IsAnswer (kept_pools new k) n t k
    go true is =
        let here : kept_pools new k ≡ found = changed k ∙ rw is refl in
        rw (here, ← eqb-true key k is) answer
    go false is =
        let there : kept_pools new k ≡ kept_pools old k = changed k ∙ rw is refl in
        rw there (others (eqb-false key k is))

-- entry e held `former` and holds `now`, and the others say what they said
module _ (a b : Entries) (e former now : ℕ) (was : former ≡ a.key e) (is : now ≡ b.key e) (others : (x : ℕ) → x ≢ e → SaySame a b x) (ks : List Entry) (n : ℕ) (says : IsIndexOf ks n a) where
  first_kept : KeptAreHeld ks n b former
  unfolding is_held
  first_kept k differ kept =
      all_pass (λ x. a.is_valid x && eqb (a.key x) k) (λ x. b.is_valid x && eqb (b.key x) k) (range_with_len 0 n) still (sym (says.1 k).0 ∙ kept)
    where
      still : (x : ℕ) → (a.is_valid x && eqb (a.key x) k) ≡ true → (b.is_valid x && eqb (b.key x) k) ≡ true
      still x held = go (eqb x e) refl
        where
          go : (here : Bool) → eqb x e ≡ here → (b.is_valid x && eqb (b.key x) k) ≡ true
          go true there = absurd (differ (sym (eqb-true (a.key x) k (and_parts (a.is_valid x) _ held).1) ∙ ap a.key (eqb-true x e there) ∙ sym was))
          go false elsewhere = let same = others x (eqb-false x e elsewhere) in sym (λ i. same.valid i && eqb (same.keys i) k) ∙ held

  pub first_room : (found : Option ℕ) → IsAnswer found n b former → is_some found ≡ true → kept_pools ks former ≡ None → length ks < n
  first_room found answer some none = room ks n b former says.0 first_kept (sym answer.0 ∙ some) none

  module _ (found : Option ℕ) (new : List Entry) (changed : Changed former found ks new) (rises : Rises 0 new) (answer : IsAnswer found n b former) where
    after_first : (k : ℕ) → now ≢ k → IsAnswer (kept_pools new k) n b k
    after_first k after = one_changed n b ks new former found changed answer k (λ before. answer_stays a b e others (kept_pools ks k) n k (λ same. before (was ∙ same)) (λ same. after (is ∙ same)) (says.1 k))

    pub second_room : (found_now : Option ℕ) → IsAnswer found_now n b now → is_some found_now ≡ true → kept_pools new now ≡ None → length new < n
    second_room found_now answer_now some none =
        room new n b now rises (λ k differ kept. sym (after_first k (λ same. differ (sym same))).0 ∙ kept) (sym answer_now.0 ∙ some) none

    -- the entry holds the key that it held
    pub index_once : now ≡ former → IsIndexOf new n b
    index_once same =
        (rises, λ k. one_changed n b ks new former found changed answer k (λ before. answer_stays a b e others (kept_pools ks k) n k (λ here. before (was ∙ here)) (λ here. before (sym same ∙ is ∙ here)) (says.1 k)))

    pub index_twice : (found_now : Option ℕ) (last : List Entry) → Changed now found_now new last → Rises 0 last → IsAnswer found_now n b now → IsIndexOf last n b
    index_twice found_now last changed_now rises_now answer_now =
        (rises_now, λ k. one_changed n b new last now found_now changed_now answer_now k (after_first k))
