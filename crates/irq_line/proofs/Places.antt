-- What the seats of a line know, as device's and as guests', after one of them went on to another view.
use Rattle.std.proofs.Common.{◌≡◌, ℕ, zero, suc, List, [], ◌∷◌, ◌++◌, flat_map, set, refl, sym, ap, ◌∙◌, append-nil}
use Rattle.std.proofs.lemmas.List.Concat.{flat_map-append}
use mathlib.Core.Option.{some, some-injective, some-ne-none}
use lib.ListN.{get_elem?}
use Rattle.irq_line.specs.declared.views.View.{View}

none_in : {A : Type 0} (xs ys : List A) → xs ++ ys ≡ [] → (xs ≡ []) × (ys ≡ [])
none_in [] ys e = (refl, e)
none_in (x ∷ xs) ys e = let bad : x ∷ (xs ++ ys) ≡ [] = e in let never : ⊥ = cc in absurd never

one_in : {A : Type 0} (xs ys : List A) (y : A) → xs ++ ys ≡ y ∷ [] → (ys ≡ [] → ⊥) → (xs ≡ []) × (ys ≡ y ∷ [])
one_in [] ys y e more = (refl, e)
one_in (x ∷ xs) ys y e more = let all : x ∷ (xs ++ ys) ≡ y ∷ [] = e in let rest : xs ++ ys ≡ [] = cc in absurd (more (none_in xs ys rest).1)

-- what all seats know in some respect f, of which a seat has none or one
module _ {A : Type 0} (f : View → List A) where
  pub not_none : (views : List View) (id : ℕ) (v : View) (x : A) → get_elem? views id ≡ some v → f v ≡ x ∷ [] → flat_map f views ≡ [] → ⊥
  not_none [] id v x at has none = some-ne-none v (sym at)
  not_none (u ∷ us) zero v x at has none =
      let same : u ≡ v = some-injective u v at in
      let here : f u ≡ [] = (none_in (f u) (flat_map f us) none).0 in
      let bad : x ∷ [] ≡ [] = sym has ∙ ap f (sym same) ∙ here in
      cc
  not_none (u ∷ us) (suc id) v x at has none = not_none us id v x at has (none_in (f u) (flat_map f us) none).1

  -- the one seat that knows goes on to the view w
  pub only_one : (views : List View) (id : ℕ) (v w : View) (x y : A) → get_elem? views id ≡ some v → f v ≡ x ∷ [] → flat_map f views ≡ y ∷ []
      → (x ≡ y) × (flat_map f (set views id w) ≡ f w)
  only_one [] id v w x y at has all = absurd (some-ne-none v (sym at))
  only_one (u ∷ us) zero v w x y at has all =
      let here : f u ≡ x ∷ [] = ap f (some-injective u v at) ∙ has in
      let whole : x ∷ flat_map f us ≡ y ∷ [] = ap (λ (xs : List A). xs ++ flat_map f us) (sym here) ∙ all in
      let first : x ≡ y = cc in
      let rest : flat_map f us ≡ [] = cc in
      (first, ap (λ (xs : List A). f w ++ xs) rest ∙ append-nil (f w))
  only_one (u ∷ us) (suc id) v w x y at has all =
      let two = one_in (f u) (flat_map f us) y all (λ none. not_none us id v x at has none) in
      let deep = only_one us id v w x y at has two.1 in
      (deep.0, ap (λ (xs : List A). xs ++ flat_map f (set us id w)) two.0 ∙ deep.1)

  -- where no seat knew, one goes on to the view w
  pub from_none : (views : List View) (id : ℕ) (v w : View) → get_elem? views id ≡ some v → flat_map f views ≡ [] → flat_map f (set views id w) ≡ f w
  from_none [] id v w at none = absurd (some-ne-none v (sym at))
  from_none (u ∷ us) zero v w at none = ap (λ (xs : List A). f w ++ xs) (none_in (f u) (flat_map f us) none).1 ∙ append-nil (f w)
  from_none (u ∷ us) (suc id) v w at none =
      let two = none_in (f u) (flat_map f us) none in
      ap (λ (xs : List A). xs ++ flat_map f (set us id w)) two.0 ∙ from_none us id v w at two.1

  -- the seat knows as much by the view w
  pub as_before : (views : List View) (id : ℕ) (v w : View) → get_elem? views id ≡ some v → f w ≡ f v → flat_map f (set views id w) ≡ flat_map f views
  as_before [] id v w at same = refl
  as_before (u ∷ us) zero v w at same = ap (λ (xs : List A). xs ++ flat_map f us) (same ∙ ap f (sym (some-injective u v at)))
  as_before (u ∷ us) (suc id) v w at same = ap (λ (xs : List A). f u ++ xs) (as_before us id v w at same)

  -- one seat more
  pub one_more : (views : List View) (w : View) → flat_map f (views ++ w ∷ []) ≡ flat_map f views ++ f w
  one_more views w = flat_map-append f views (w ∷ []) ∙ ap (λ (xs : List A). flat_map f views ++ xs) (append-nil (f w))
