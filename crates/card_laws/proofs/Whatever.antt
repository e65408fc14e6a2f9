-- Two lives that differ in the group's own deeds alone, and have the same inputs, give each function outside the same.
use Rattle.std.proofs.Common.{◌≡◌, ℕ, ◌<◌, Bool, true, false, ◌&&◌, List, [], ◌∷◌, Option, None, length, refl, sym, ap, ◌∙◌, subst}
use Rattle.std.specs.Prelude.{if◌then◌else◌}
use Rattle.std.specs.List.{All, cons_option}
use Rattle.std.proofs.lemmas.List.Elements.{All-head, All-tail}
use Rattle.device.specs.Erased.{IsApart}
use Rattle.card.specs.Alike.{AreAlike, IsCard}
use Rattle.card.specs.Card.{CardState}
use Rattle.card.specs.Life.{Deed, IsDeed, IsLivedAlike, Given, after_deed, given, given_in, world_of}
use Rattle.card_laws.specs.Erased.{AreAlikeOutside, StaysApart, erase, input_in, inputs, is_groups, is_service}
use Rattle.card_laws.proofs.Erasing.{both_after, groups_after, input_parts, input_shape}
use Rattle.card_laws.proofs.Given.{Pair, alike_here, below, given_same, groups_none}
use Rattle.card_laws.proofs.Steady.{Laws}

-- ---- lists

abbrev first_of : Deed → List Deed → Deed
first_of x [] = x
first_of x (y ∷ ys) = y

abbrev rest_of : List Deed → List Deed
rest_of [] = []
rest_of (y ∷ ys) = ys

-- ---- the group's deed, of the second card alone

flipped : (group : ℕ → Bool) (p : ℕ) (c d : CardState) → Pair group p c d → Pair group p d c
flipped group p c d b = record {
  one = b.two;
  two = b.one;
  alike = record {
    count = sym b.alike.count;
    functions = λ r there outside.
        let is : AreAlike r c d = b.alike.functions r (subst (λ (n : ℕ). r < n) (sym b.alike.count) there) outside in
        record { part = sym is.part; ids = sym is.ids; default_pool = sym is.default_pool; limit = sym is.limit };
    policies = λ q. sym (b.alike.policies q);
  };
  there = subst (λ (n : ℕ). p < n) b.alike.count b.there;
  outside = b.outside;
}

-- whether the group is apart, should the deed be a service of its
abbrev Apart : (ℕ → Bool) → CardState → Deed → Type 0
Apart group d y = (is_groups group y && is_service y) ≡ true → IsApart group (world_of d).settings

second_after : Laws → (group : ℕ → Bool) (p : ℕ) (c d : CardState) (y : Deed) → Pair group p c d → IsDeed y → is_groups group y ≡ true → Apart group d y → Pair group p c (after_deed d y)
second_after laws group p c d y b deed is apart = flipped group p (after_deed d y) c (groups_after laws group p d c y (flipped group p c d b) deed is apart)

second_none : (group : ℕ → Bool) (p : ℕ) (c d : CardState) (y : Deed) → Pair group p c d → is_groups group y ≡ true → Apart group d y → given_in p d y ≡ None
second_none group p c d y b is apart = groups_none group p d y b.two (below group p c d b) b.outside is apart

-- ---- all deeds of the second life, where the first has none left

none_on : Laws → (group : ℕ → Bool) (p : ℕ) (c d : CardState) (y : Deed) (ys : List Deed) (mine : Bool) → is_groups group y ≡ mine → Pair group p c d → IsDeed y → Apart group d y
    → [] ≡ (if mine then erase group ys else y ∷ erase group ys)
    → (Pair group p c (after_deed d y) → [] ≡ erase group ys → [] ≡ given p (after_deed d y) ys) → [] ≡ given p d (y ∷ ys)
none_on laws group p c d y ys true is b deed apart same rest =
    rest (second_after laws group p c d y b deed is apart) same ∙ sym (ap (λ (o : Option Given). cons_option o (given p (after_deed d y) ys)) (second_none group p c d y b is apart))
none_on laws group p c d y ys false is b deed apart same rest = cc

none_left : Laws → (group : ℕ → Bool) (p : ℕ) (c d : CardState) (ys : List Deed) → Pair group p c d → All IsDeed ys → StaysApart group d ys → [] ≡ erase group ys → [] ≡ given p d ys
none_left laws group p c d [] b all stays same = refl
none_left laws group p c d (y ∷ ys) b all stays same =
    none_on laws group p c d y ys (is_groups group y) refl b (All-head IsDeed y ys all) stays.0 same
    (λ pair rest. none_left laws group p c (after_deed d y) ys pair (All-tail IsDeed y ys all) stays.1 rest)

-- ---- a deed that stays

-- what is known of the deeds after it
abbrev Later : (ℕ → Bool) → ℕ → CardState → List Deed → Type 0
Later group p c xs = (ys : List Deed) (d : CardState) → Pair group p c d → All IsDeed ys → StaysApart group d ys → erase group xs ≡ erase group ys → inputs group c xs ≡ inputs group d ys → given p c xs ≡ given p d ys

abbrev inputs_with : (ℕ → Bool) → CardState → Deed → List Deed → List Bool
inputs_with group c x xs = cons_option (input_in group c x) (inputs group (after_deed c x) xs)

same_met : Laws → (group : ℕ → Bool) (p : ℕ) (c d : CardState) (x : Deed) (xs ys : List Deed) → is_groups group x ≡ false → Pair group p c d → IsDeed x → All IsDeed ys → Later group p (after_deed c x) xs
    → StaysApart group (after_deed d x) ys → erase group xs ≡ erase group ys → inputs_with group c x xs ≡ inputs_with group d x ys → given p c (x ∷ xs) ≡ given p d (x ∷ ys)
same_met laws group p c d x xs ys free b deed all later stays same told =
    let parts : (input_in group c x ≡ input_in group d x) × (inputs group (after_deed c x) xs ≡ inputs group (after_deed d x) ys)
    = input_parts (input_in group c x) (input_in group d x) (inputs group (after_deed c x) xs) (inputs group (after_deed d x) ys) (input_shape group c d x) told in
    (λ i. cons_option (given_same laws group p c d x b deed free parts.0 i) (later ys (after_deed d x) (both_after laws group p c d x b deed free parts.0) all stays same parts.1 i))

-- which is the other's too
met : Laws → (group : ℕ → Bool) (p : ℕ) (c d : CardState) (x y : Deed) (xs ys : List Deed) → x ≡ y → is_groups group x ≡ false → Pair group p c d → IsDeed x → All IsDeed ys → Later group p (after_deed c x) xs
    → StaysApart group (after_deed d y) ys → erase group xs ≡ erase group ys → inputs_with group c x xs ≡ inputs_with group d y ys → given p c (x ∷ xs) ≡ given p d (y ∷ ys)
met laws group p c d x y xs ys is free b deed all later =
    subst (λ (z : Deed). StaysApart group (after_deed d z) ys → erase group xs ≡ erase group ys → inputs_with group c x xs ≡ inputs_with group d z ys → given p c (x ∷ xs) ≡ given p d (z ∷ ys)) is
    (same_met laws group p c d x xs ys free b deed all later)

next_on : Laws → (group : ℕ → Bool) (p : ℕ) (c d : CardState) (x y : Deed) (xs ys : List Deed) (mine : Bool) → is_groups group y ≡ mine → is_groups group x ≡ false → Pair group p c d → IsDeed x → IsDeed y → All IsDeed ys
    → Later group p (after_deed c x) xs → Apart group d y → StaysApart group (after_deed d y) ys
    → (x ∷ erase group xs) ≡ (if mine then erase group ys else y ∷ erase group ys)
    → inputs_with group c x xs ≡ (if mine then inputs group (after_deed d y) ys else inputs_with group d y ys)
    → (Pair group p c (after_deed d y) → (x ∷ erase group xs) ≡ erase group ys → inputs_with group c x xs ≡ inputs group (after_deed d y) ys → given p c (x ∷ xs) ≡ given p (after_deed d y) ys)
    → given p c (x ∷ xs) ≡ given p d (y ∷ ys)
next_on laws group p c d x y xs ys true is free b deed also all later apart stays same told skip =
    skip (second_after laws group p c d y b also is apart) same told
    ∙ sym (ap (λ (o : Option Given). cons_option o (given p (after_deed d y) ys)) (second_none group p c d y b is apart))
next_on laws group p c d x y xs ys false is free b deed also all later apart stays same told skip =
    met laws group p c d x y xs ys (ap (first_of x) same) free b deed all later stays (ap rest_of same) told

next_met : Laws → (group : ℕ → Bool) (p : ℕ) (c d : CardState) (x : Deed) (xs ys : List Deed) → is_groups group x ≡ false → Pair group p c d → IsDeed x → All IsDeed ys → Later group p (after_deed c x) xs
    → StaysApart group d ys → (x ∷ erase group xs) ≡ erase group ys → inputs_with group c x xs ≡ inputs group d ys → given p c (x ∷ xs) ≡ given p d ys
next_met laws group p c d x xs [] free b deed all later stays same told = cc
next_met laws group p c d x xs (y ∷ ys) free b deed all later stays same told =
    next_on laws group p c d x y xs ys (is_groups group y) refl free b deed (All-head IsDeed y ys all) (All-tail IsDeed y ys all) later stays.0 stays.1 same told
    (λ pair rest more. next_met laws group p c (after_deed d y) x xs ys free pair deed (All-tail IsDeed y ys all) later stays.1 rest more)

-- ---- both lives

given_on : Laws → (group : ℕ → Bool) (p : ℕ) (c d : CardState) (x : Deed) (xs ys : List Deed) (mine : Bool) → is_groups group x ≡ mine → Pair group p c d → IsDeed x → All IsDeed ys → Apart group c x → StaysApart group d ys
    → (if mine then erase group xs else x ∷ erase group xs) ≡ erase group ys
    → (if mine then inputs group (after_deed c x) xs else inputs_with group c x xs) ≡ inputs group d ys
    → Later group p (after_deed c x) xs → given p c (x ∷ xs) ≡ given p d ys
given_on laws group p c d x xs ys true is b deed all apart stays same told later =
    ap (λ (o : Option Given). cons_option o (given p (after_deed c x) xs)) (groups_none group p c x b.one (below group p c d b) b.outside is apart)
    ∙ later ys d (groups_after laws group p c d x b deed is apart) all stays same told
given_on laws group p c d x xs ys false is b deed all apart stays same told later = next_met laws group p c d x xs ys is b deed all later stays same told

given_whatever : Laws → (group : ℕ → Bool) (p : ℕ) (c : CardState) (xs : List Deed) → All IsDeed xs → StaysApart group c xs → Later group p c xs
given_whatever laws group p c [] all stays ys d b also also_stays same told = none_left laws group p c d ys b also also_stays same
given_whatever laws group p c (x ∷ xs) all stays ys d b also also_stays same told =
    given_on laws group p c d x xs ys (is_groups group x) refl b (All-head IsDeed x xs all) also stays.0 also_stays same told
    (given_whatever laws group p (after_deed c x) xs (All-tail IsDeed x xs all) stays.1)

pub lived_whatever : Laws → (group : ℕ → Bool) (p : ℕ) (c d : CardState) (xs ys : List Deed) → p < length (world_of c).functions → group p ≡ false → IsCard c → IsCard d → All IsDeed xs → All IsDeed ys
    → AreAlikeOutside group c d → erase group xs ≡ erase group ys → StaysApart group c xs → StaysApart group d ys → inputs group c xs ≡ inputs group d ys → IsLivedAlike p c xs d ys
lived_whatever laws group p c d xs ys there outside one two all also alike same stays also_stays told =
    let b : Pair group p c d = record { one = one; two = two; alike = alike; there = there; outside = outside } in
    laws.alike p c d xs ys (below group p c d b) one two there (subst (λ (n : ℕ). p < n) alike.count there) all also (alike_here group p c d b)
    (given_whatever laws group p c xs all stays ys d b also also_stays same told)
