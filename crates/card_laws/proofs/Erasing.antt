-- A life without the group's deeds gives each function outside the same, and leaves two cards that differ in the group alone.
use Rattle.std.proofs.Common.{◌≡◌, ℕ, ◌<◌, Bool, true, false, ◌&&◌, List, [], ◌∷◌, Option, Some, None, is_some, length, refl, sym, ap, ◌∙◌, subst, arith, true≢false}
use Rattle.std.specs.Prelude.{if◌then◌else◌}
use Rattle.std.specs.List.{All, cons_option}
use Rattle.std.proofs.lemmas.List.Elements.{All-cons, All-head, All-nil, All-tail}
use Rattle.device.specs.declared.event.Event.TheVariants.{Open}
use Rattle.device.specs.Events.{Event}
use Rattle.device.specs.Erased.{IsApart}
use Rattle.mailbox.specs.Within.{KeepsPolicies}
use Rattle.card.specs.Alike.{AreAlike, IsCard}
use Rattle.card.specs.Card.{CardState}
use Rattle.card.specs.Life.{Deed, Hears, Happens, Signals, Resets, Comes, Goes, Replaces, Admits, Dismisses, Notifies, Offers, IsDeed, HasLived, IsLivedAlike, Given, after_deed, card_after, given, world_of}
use Rattle.card_laws.specs.Erased.{AreAlikeOutside, StaysApart, erase, input_in, inputs, is_groups, is_service}
use Rattle.card_laws.proofs.Addresses.{policies_admitted, policies_dismissed}
use Rattle.card_laws.proofs.Steady.{IsPlain, LawOfCalls, Laws, as_many, deed_keeps, groups_plain}
use Rattle.card_laws.proofs.Given.{Pair, alike_here, below, given_same, groups_none}

-- ---- one deed on

one_deed : (x : Deed) → IsDeed x → All IsDeed (x ∷ [])
one_deed x deed = All-cons IsDeed x [] deed (All-nil IsDeed)

-- the policies after a deed, in both cards
policies_plain : (c d : CardState) (x : Deed) → KeepsPolicies c.hosted.host d.hosted.host → IsPlain x → KeepsPolicies (after_deed c x).hosted.host (after_deed d x).hosted.host
policies_plain c d x same plain q = sym (deed_keeps c x plain q) ∙ same q ∙ deed_keeps d x plain q

policies_after : (group : ℕ → Bool) (p : ℕ) (c d : CardState) (x : Deed) → Pair group p c d → IsDeed x → KeepsPolicies (after_deed c x).hosted.host (after_deed d x).hosted.host
policies_after group p c d (Hears q message files) b deed = policies_plain c d (Hears q message files) b.alike.policies tt
policies_after group p c d (Happens e) b deed = policies_plain c d (Happens e) b.alike.policies tt
policies_after group p c d (Signals q vectors) b deed = policies_plain c d (Signals q vectors) b.alike.policies tt
policies_after group p c d (Resets q) b deed = policies_plain c d (Resets q) b.alike.policies tt
policies_after group p c d (Comes q memory) b deed = policies_plain c d (Comes q memory) b.alike.policies tt
policies_after group p c d (Goes q) b deed = policies_plain c d (Goes q) b.alike.policies tt
policies_after group p c d (Replaces q memory) b deed = policies_plain c d (Replaces q memory) b.alike.policies tt
policies_after group p c d (Admits q policy) b deed =
    policies_admitted c.hosted.host d.hosted.host q policy deed b.one.hosted.slots b.two.hosted.slots (alike_here group p c d b).ids b.alike.policies
policies_after group p c d (Dismisses q) b deed = policies_dismissed c.hosted.host d.hosted.host q b.alike.policies
policies_after group p c d (Notifies q) b deed = policies_plain c d (Notifies q) b.alike.policies tt
policies_after group p c d (Offers q) b deed = policies_plain c d (Offers q) b.alike.policies tt

-- the group's deed, of the first card alone
pub groups_after : Laws → (group : ℕ → Bool) (p : ℕ) (c d : CardState) (x : Deed) → Pair group p c d → IsDeed x → is_groups group x ≡ true
    → ((is_groups group x && is_service x) ≡ true → IsApart group (world_of c).settings) → Pair group p (after_deed c x) d
groups_after laws group p c d x b deed is apart = record {
  one = laws.stands c (x ∷ []) b.one (one_deed x deed);
  two = b.two;
  alike = record {
    count = many ∙ b.alike.count;
    functions = λ r there outside. others r (subst (λ (n : ℕ). r < n) many there) outside;
    policies = λ q. sym (deed_keeps c x (groups_plain group x is) q) ∙ b.alike.policies q;
  };
  there = subst (λ (n : ℕ). p < n) (sym many) b.there;
  outside = b.outside;
}
  where
    many : length (world_of (after_deed c x)).functions ≡ length (world_of c).functions
    many = as_many laws c x

    others : (r : ℕ) → r < length (world_of c).functions → group r ≡ false → AreAlike r (after_deed c x) d
    others r there outside =
        let small : r < 64 = omega (arith, there, b.one.hosted.functions) in
        (laws.alike r c d (x ∷ []) [] small b.one b.two there (subst (λ (n : ℕ). r < n) b.alike.count there) (one_deed x deed) (All-nil IsDeed) (b.alike.functions r there outside)
        (ap (λ (o : Option Given). cons_option o []) (groups_none group r c x b.one small outside is apart))).cards

-- any other, of both
pub both_after : Laws → (group : ℕ → Bool) (p : ℕ) (c d : CardState) (x : Deed) → Pair group p c d → IsDeed x → is_groups group x ≡ false → input_in group c x ≡ input_in group d x
    → Pair group p (after_deed c x) (after_deed d x)
both_after laws group p c d x b deed free same = record {
  one = laws.stands c (x ∷ []) b.one (one_deed x deed);
  two = laws.stands d (x ∷ []) b.two (one_deed x deed);
  alike = record {
    count = many ∙ b.alike.count ∙ sym (as_many laws d x);
    functions = λ r there outside. others r (subst (λ (n : ℕ). r < n) many there) outside;
    policies = policies_after group p c d x b deed;
  };
  there = subst (λ (n : ℕ). p < n) (sym many) b.there;
  outside = b.outside;
}
  where
    many : length (world_of (after_deed c x)).functions ≡ length (world_of c).functions
    many = as_many laws c x

    others : (r : ℕ) → r < length (world_of c).functions → group r ≡ false → AreAlike r (after_deed c x) (after_deed d x)
    others r there outside =
        let here : Pair group r c d = record { one = b.one; two = b.two; alike = b.alike; there = there; outside = outside } in
        (laws.alike r c d (x ∷ []) (x ∷ []) (below group r c d here) b.one b.two there (subst (λ (n : ℕ). r < n) b.alike.count there) (one_deed x deed) (one_deed x deed) (b.alike.functions r there outside)
        (ap (λ (o : Option Given). cons_option o []) (given_same laws group r c d x here deed free same))).cards

-- ---- what stays as input, deed by deed

abbrev head_of : Bool → List Bool → Bool
head_of a [] = a
head_of a (b ∷ bs) = b

abbrev tail_of : List Bool → List Bool
tail_of [] = []
tail_of (b ∷ bs) = bs

pub input_parts : (a b : Option Bool) (xs ys : List Bool) → is_some a ≡ is_some b → cons_option a xs ≡ cons_option b ys → (a ≡ b) × (xs ≡ ys)
input_parts None None xs ys is same = (refl, same)
input_parts None (Some b) xs ys is same = absurd (true≢false (sym is))
input_parts (Some a) None xs ys is same = absurd (true≢false is)
input_parts (Some a) (Some b) xs ys is same = (ap (λ (l : List Bool). Some (head_of a l)) same, ap tail_of same)

event_shape : (group : ℕ → Bool) (c d : CardState) (e : Event) → is_some (input_in group c (Happens e)) ≡ is_some (input_in group d (Happens e))
event_shape group c d (Open q) = refl
event_shape group c d e = refl

pub input_shape : (group : ℕ → Bool) (c d : CardState) (x : Deed) → is_some (input_in group c x) ≡ is_some (input_in group d x)
input_shape group c d (Hears q message files) = refl
input_shape group c d (Happens e) = event_shape group c d e
input_shape group c d (Signals q vectors) = refl
input_shape group c d (Resets q) = refl
input_shape group c d (Comes q memory) = refl
input_shape group c d (Goes q) = refl
input_shape group c d (Replaces q memory) = refl
input_shape group c d (Admits q policy) = refl
input_shape group c d (Dismisses q) = refl
input_shape group c d (Notifies q) = refl
input_shape group c d (Offers q) = refl

-- ---- the whole life

-- what it gives p, and the cards after it
pub record Erases (group : ℕ → Bool) (p : ℕ) (c d : CardState) (xs ys : List Deed) : Type 0 where
  pub given : given p c xs ≡ given p d ys
  pub cards : Pair group p (card_after c xs) (card_after d ys)

erases_on : Laws → (group : ℕ → Bool) (p : ℕ) (c d : CardState) (x : Deed) (xs : List Deed) (mine : Bool) → is_groups group x ≡ mine → Pair group p c d → IsDeed x
    → ((is_groups group x && is_service x) ≡ true → IsApart group (world_of c).settings)
    → (if mine then inputs group (after_deed c x) xs else cons_option (input_in group c x) (inputs group (after_deed c x) xs)) ≡ inputs group d (if mine then erase group xs else x ∷ erase group xs)
    → ((v : CardState) → Pair group p (after_deed c x) v → inputs group (after_deed c x) xs ≡ inputs group v (erase group xs) → Erases group p (after_deed c x) v xs (erase group xs))
    → Erases group p c d (x ∷ xs) (if mine then erase group xs else x ∷ erase group xs)
erases_on laws group p c d x xs true is b deed apart same rest =
    let later : Erases group p (after_deed c x) d xs (erase group xs) = rest d (groups_after laws group p c d x b deed is apart) same in
    record {
      given = ap (λ (o : Option Given). cons_option o (given p (after_deed c x) xs)) (groups_none group p c x b.one (below group p c d b) b.outside is apart) ∙ later.given;
      cards = later.cards;
    }
erases_on laws group p c d x xs false is b deed apart same rest =
    let more : cons_option (input_in group c x) (inputs group (after_deed c x) xs) ≡ cons_option (input_in group d x) (inputs group (after_deed d x) (erase group xs))
    = same ∙ ap (λ (m : Bool). if m then inputs group (after_deed d x) (erase group xs) else cons_option (input_in group d x) (inputs group (after_deed d x) (erase group xs))) is in
    let parts : (input_in group c x ≡ input_in group d x) × (inputs group (after_deed c x) xs ≡ inputs group (after_deed d x) (erase group xs))
    = input_parts (input_in group c x) (input_in group d x) (inputs group (after_deed c x) xs) (inputs group (after_deed d x) (erase group xs)) (input_shape group c d x) more in
    let later : Erases group p (after_deed c x) (after_deed d x) xs (erase group xs) = rest (after_deed d x) (both_after laws group p c d x b deed is parts.0) parts.1 in
    record {
      given = λ i. cons_option (given_same laws group p c d x b deed is parts.0 i) (later.given i);
      cards = later.cards;
    }

pub erases : Laws → (group : ℕ → Bool) (p : ℕ) (c d : CardState) (xs : List Deed) → Pair group p c d → All IsDeed xs → StaysApart group c xs → inputs group c xs ≡ inputs group d (erase group xs)
    → Erases group p c d xs (erase group xs)
erases laws group p c d [] b all stays same = record { given = refl; cards = b }
erases laws group p c d (x ∷ xs) b all stays same =
    erases_on laws group p c d x xs (is_groups group x) refl b (All-head IsDeed x xs all) stays.0 same
    (λ v pair rest. erases laws group p (after_deed c x) v xs pair (All-tail IsDeed x xs all) stays.1 rest)

-- deeds that stay are deeds
erased_on : (group : ℕ → Bool) (x : Deed) (xs : List Deed) (mine : Bool) → IsDeed x → All IsDeed (erase group xs) → All IsDeed (if mine then erase group xs else x ∷ erase group xs)
erased_on group x xs true deed rest = rest
erased_on group x xs false deed rest = All-cons IsDeed x (erase group xs) deed rest

pub erased_deeds : (group : ℕ → Bool) (xs : List Deed) → All IsDeed xs → All IsDeed (erase group xs)
erased_deeds group [] all = all
erased_deeds group (x ∷ xs) all = erased_on group x xs (is_groups group x) (All-head IsDeed x xs all) (erased_deeds group xs (All-tail IsDeed x xs all))

pub lived_without : Laws → (group : ℕ → Bool) (p : ℕ) (c d : CardState) (xs : List Deed) → p < length (world_of c).functions → group p ≡ false → IsCard c → IsCard d → All IsDeed xs
    → AreAlikeOutside group c d → StaysApart group c xs → inputs group c xs ≡ inputs group d (erase group xs) → IsLivedAlike p c xs d (erase group xs)
lived_without laws group p c d xs there outside one two all alike stays same =
    let b : Pair group p c d = record { one = one; two = two; alike = alike; there = there; outside = outside } in
    laws.alike p c d xs (erase group xs) (below group p c d b) one two there (subst (λ (n : ℕ). p < n) alike.count there) all (erased_deeds group xs all) (alike_here group p c d b)
    (erases laws group p c d xs b all stays same).given

pub alike_without : Laws → (group : ℕ → Bool) (p : ℕ) (c d : CardState) (xs : List Deed) → p < length (world_of c).functions → group p ≡ false → IsCard c → IsCard d → All IsDeed xs
    → AreAlikeOutside group c d → StaysApart group c xs → inputs group c xs ≡ inputs group d (erase group xs) → AreAlikeOutside group (card_after c xs) (card_after d (erase group xs))
alike_without laws group p c d xs there outside one two all alike stays same =
    (erases laws group p c d xs (record { one = one; two = two; alike = alike; there = there; outside = outside }) all stays same).cards.alike

pub given_without : Laws → (group : ℕ → Bool) (p : ℕ) (c d : CardState) (xs : List Deed) → p < length (world_of c).functions → group p ≡ false → IsCard c → IsCard d → All IsDeed xs
    → AreAlikeOutside group c d → StaysApart group c xs → inputs group c xs ≡ inputs group d (erase group xs) → given p c xs ≡ given p d (erase group xs)
given_without laws group p c d xs there outside one two all alike stays same =
    (erases laws group p c d xs (record { one = one; two = two; alike = alike; there = there; outside = outside }) all stays same).given

pub calls_without : Laws → LawOfCalls → (group : ℕ → Bool) (p : ℕ) (a b c d : CardState) (xs : List Deed) → p < length (world_of a).functions → group p ≡ false → IsCard a → IsCard c → All IsDeed xs
    → AreAlikeOutside group a c → StaysApart group a xs → inputs group a xs ≡ inputs group c (erase group xs) → HasLived xs a b → HasLived (erase group xs) c d → AreAlike p b d
calls_without laws calls group p a b c d xs there outside one two all alike stays same lived also_lived =
    let pair : Pair group p a c = record { one = one; two = two; alike = alike; there = there; outside = outside } in
    calls p a b c d xs (erase group xs) (below group p a c pair) one two there (subst (λ (n : ℕ). p < n) alike.count there) all (erased_deeds group xs all) lived also_lived (alike_here group p a c pair)
    (erases laws group p a c xs pair all stays same).given

-- a card differs from itself in nothing
pub alike_itself : (group : ℕ → Bool) (c : CardState) → AreAlikeOutside group c c
alike_itself group c = record { count = refl; functions = λ p there outside. record { part = refl; ids = refl; default_pool = refl; limit = refl }; policies = λ q. refl }
