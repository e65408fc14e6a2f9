-- Two lives that give function p the same, from cards in which it is the same, are the same to it.
use Rattle.std.proofs.Common.{◌≡◌, ℕ, ◌<◌, List, [], ◌∷◌, ◌++◌, Option, Some, None, length, refl, sym, ap, ◌∙◌, subst}
use Rattle.std.specs.List.{All, cons_option}
use Rattle.std.proofs.lemmas.List.Elements.{All-head, All-tail}
use Rattle.card.specs.Alike.{AreAlike, IsCard}
use Rattle.card.specs.Card.{CardState}
use Rattle.card.specs.Life.{Deed, IsDeed, Given, IsLivedAlike, Show, accesses, after_deed, given, given_in, sends, shows, world_of}
use Rattle.card.proofs.Deeds.{Meets, Passes}
use Rattle.card.proofs.Meetings.{deed_passes, deeds_meet}
use Rattle.card.proofs.Parts.{Pair}
use Rattle.card.proofs.Standing.{Stands, deed_stands}

-- ---- lists

abbrev head_of : Given → List Given → Given
head_of g [] = g
head_of g (x ∷ xs) = x

abbrev tail_of : List Given → List Given
tail_of [] = []
tail_of (x ∷ xs) = xs

-- ---- both cards, one deed on

alike_back : (p : ℕ) (c d : CardState) → AreAlike p c d → AreAlike p d c
alike_back p c d is = record { part = sym is.part; ids = sym is.ids; default_pool = sym is.default_pool; limit = sym is.limit }

alike_on : (p : ℕ) (c d e : CardState) → AreAlike p c d → AreAlike p d e → AreAlike p c e
alike_on p c d e one two = record { part = one.part ∙ two.part; ids = one.ids ∙ two.ids; default_pool = one.default_pool ∙ two.default_pool; limit = one.limit ∙ two.limit }

pair_after : (p : ℕ) (c d : CardState) (x y : Deed) → Pair p c d → IsDeed x → IsDeed y → AreAlike p (after_deed c x) (after_deed d y) → Pair p (after_deed c x) (after_deed d y)
pair_after p c d x y b deed also alike =
    let one : Stands c (after_deed c x) = deed_stands c x deed b.one in
    let two : Stands d (after_deed d y) = deed_stands d y also b.two in
    record {
      below = b.below;
      one = one.card;
      two = two.card;
      there = subst (λ (n : ℕ). p < n) (sym one.many) b.there;
      also_there = subst (λ (n : ℕ). p < n) (sym two.many) b.also_there;
      alike = alike;
    }

-- a deed of the first card that passes p, or of the second
first_after : (p : ℕ) (c d : CardState) (x : Deed) → Pair p c d → IsDeed x → Passes p c x → Pair p (after_deed c x) d
first_after p c d x b deed passed =
    let one : Stands c (after_deed c x) = deed_stands c x deed b.one in
    record {
      below = b.below;
      one = one.card;
      two = b.two;
      there = subst (λ (n : ℕ). p < n) (sym one.many) b.there;
      also_there = b.also_there;
      alike = alike_on p (after_deed c x) c d passed.cards b.alike;
    }

second_after : (p : ℕ) (c d : CardState) (y : Deed) → Pair p c d → IsDeed y → Passes p d y → Pair p c (after_deed d y)
second_after p c d y b deed passed =
    let two : Stands d (after_deed d y) = deed_stands d y deed b.two in
    record {
      below = b.below;
      one = b.one;
      two = two.card;
      there = b.there;
      also_there = subst (λ (n : ℕ). p < n) (sym two.many) b.also_there;
      alike = alike_on p c d (after_deed d y) b.alike (alike_back p (after_deed d y) d passed.cards);
    }

-- ---- the rest of a life

passed_first : (p : ℕ) (c d : CardState) (x : Deed) (xs ys : List Deed) → Passes p c x → IsLivedAlike p (after_deed c x) xs d ys → IsLivedAlike p c (x ∷ xs) d ys
passed_first p c d x xs ys passed rest = record {
  shows = ap (λ (o : Option Show). cons_option o (shows p (after_deed c x) xs)) passed.shown ∙ rest.shows;
  accesses = ap (λ made. made ++ accesses p (after_deed c x) xs) passed.accesses ∙ rest.accesses;
  sends = ap (λ (o : Option (List ℕ)). cons_option o (sends p (after_deed c x) xs)) passed.sent ∙ rest.sends;
  cards = rest.cards;
}

passed_second : (p : ℕ) (c d : CardState) (y : Deed) (xs ys : List Deed) → Passes p d y → IsLivedAlike p c xs (after_deed d y) ys → IsLivedAlike p c xs d (y ∷ ys)
passed_second p c d y xs ys passed rest = record {
  shows = rest.shows ∙ sym (ap (λ (o : Option Show). cons_option o (shows p (after_deed d y) ys)) passed.shown);
  accesses = rest.accesses ∙ sym (ap (λ made. made ++ accesses p (after_deed d y) ys) passed.accesses);
  sends = rest.sends ∙ sym (ap (λ (o : Option (List ℕ)). cons_option o (sends p (after_deed d y) ys)) passed.sent);
  cards = rest.cards;
}

met : (p : ℕ) (c d : CardState) (x y : Deed) (xs ys : List Deed) → Meets p c x d y → IsLivedAlike p (after_deed c x) xs (after_deed d y) ys → IsLivedAlike p c (x ∷ xs) d (y ∷ ys)
met p c d x y xs ys meet rest = record {
  shows = λ i. cons_option (meet.shown i) (rest.shows i);
  accesses = λ i. meet.accesses i ++ rest.accesses i;
  sends = λ i. cons_option (meet.sent i) (rest.sends i);
  cards = rest.cards;
}

-- ---- all deeds of the second life, where the first has none left

none_left : (p : ℕ) (c d : CardState) (ys : List Deed) → Pair p c d → All IsDeed ys → given p d ys ≡ [] → IsLivedAlike p c [] d ys
none_left p c d [] b deeds none = record { shows = refl; accesses = refl; sends = refl; cards = b.alike }
none_left p c d (y ∷ ys) b deeds none = go (given_in p d y) refl none (λ pair rest. none_left p c (after_deed d y) ys pair (All-tail IsDeed y ys deeds) rest)
  where
    go : (o : Option Given) → given_in p d y ≡ o → cons_option o (given p (after_deed d y) ys) ≡ []
        → (Pair p c (after_deed d y) → given p (after_deed d y) ys ≡ [] → IsLivedAlike p c [] (after_deed d y) ys) → IsLivedAlike p c [] d (y ∷ ys)
    go None is rest later =
        let passed : Passes p d y = deed_passes p d y b.below b.two b.also_there (All-head IsDeed y ys deeds) is in
        passed_second p c d y [] ys passed (later (second_after p c d y b (All-head IsDeed y ys deeds) passed) rest)
    go (Some g) is rest later = cc

-- ---- the next deed of the first life gives p something

-- what is known of the deeds after it
abbrev Later : ℕ → CardState → List Deed → Type 0
Later p c xs = (ys : List Deed) (d : CardState) → Pair p c d → All IsDeed ys → given p c xs ≡ given p d ys → IsLivedAlike p c xs d ys

next_met : (p : ℕ) (c d : CardState) (x : Deed) (xs ys : List Deed) (g : Given) → Pair p c d → IsDeed x → All IsDeed ys → given_in p c x ≡ Some g → (g ∷ given p (after_deed c x) xs) ≡ given p d ys → Later p (after_deed c x) xs
    → IsLivedAlike p c (x ∷ xs) d ys
next_met p c d x xs [] g b deed deeds is same later = cc
next_met p c d x xs (y ∷ ys) g b deed deeds is same later =
    go (given_in p d y) refl same (λ pair rest. next_met p c (after_deed d y) x xs ys g pair deed (All-tail IsDeed y ys deeds) is rest later)
  where
    go : (o : Option Given) → given_in p d y ≡ o → (g ∷ given p (after_deed c x) xs) ≡ cons_option o (given p (after_deed d y) ys)
        → (Pair p c (after_deed d y) → (g ∷ given p (after_deed c x) xs) ≡ given p (after_deed d y) ys → IsLivedAlike p c (x ∷ xs) (after_deed d y) ys) → IsLivedAlike p c (x ∷ xs) d (y ∷ ys)
    go None also rest skip =
        let passed : Passes p d y = deed_passes p d y b.below b.two b.also_there (All-head IsDeed y ys deeds) also in
        passed_second p c d y (x ∷ xs) ys passed (skip (second_after p c d y b (All-head IsDeed y ys deeds) passed) rest)
    go (Some f) also rest skip =
        let one : g ≡ f = ap (head_of g) rest in
        let meet : Meets p c x d y = deeds_meet p c d x y g b deed (All-head IsDeed y ys deeds) is (also ∙ ap Some (sym one)) in
        met p c d x y xs ys meet (later ys (after_deed d y) (pair_after p c d x y b deed (All-head IsDeed y ys deeds) meet.cards) (All-tail IsDeed y ys deeds) (ap tail_of rest))

-- ---- both lives

lives : (p : ℕ) (c : CardState) (xs : List Deed) → All IsDeed xs → Later p c xs
lives p c [] all ys d b deeds same = none_left p c d ys b deeds (sym same)
lives p c (x ∷ xs) all ys d b deeds same = go (given_in p c x) refl same (lives p (after_deed c x) xs (All-tail IsDeed x xs all))
  where
    deed : IsDeed x
    deed = All-head IsDeed x xs all

    go : (o : Option Given) → given_in p c x ≡ o → cons_option o (given p (after_deed c x) xs) ≡ given p d ys → Later p (after_deed c x) xs → IsLivedAlike p c (x ∷ xs) d ys
    go None is rest later =
        let passed : Passes p c x = deed_passes p c x b.below b.one b.there deed is in
        passed_first p c d x xs ys passed (later ys d (first_after p c d x b deed passed) deeds rest)
    go (Some g) is rest later = next_met p c d x xs ys g b deed deeds is rest later

pub lives_alike : (p : ℕ) (c d : CardState) (xs ys : List Deed) → p < 64 → IsCard c → IsCard d → p < length (world_of c).functions → p < length (world_of d).functions
    → All IsDeed xs → All IsDeed ys → AreAlike p c d → given p c xs ≡ given p d ys → IsLivedAlike p c xs d ys
lives_alike p c d xs ys below one two there also_there all also_all alike same =
    lives p c xs all ys d (record { below = below; one = one; two = two; there = there; also_there = also_there; alike = alike }) also_all same
