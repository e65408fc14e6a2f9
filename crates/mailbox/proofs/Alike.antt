-- Lists that are read alike from the places of a range.
use Rattle.std.proofs.Common.{arith, ◌≡◌, ℕ, zero, suc, ◌+◌, ◌<◌, ◌≤◌, Bool, true, false, ◌∷◌, map, refl, sym, ◌∙◌, true≢false}
use Rattle.std.specs.List.{filter, range_with_len}

-- the places from a on, as many as n, are filtered and read alike
pub filtered_alike : (f g : ℕ → ℕ) (t u : ℕ → Bool) (a n : ℕ) → ((e : ℕ) → a ≤ e → e < a + n → t e ≡ u e) → ((e : ℕ) → a ≤ e → e < a + n → u e ≡ true → f e ≡ g e)
    → map f (filter t (range_with_len a n)) ≡ map g (filter u (range_with_len a n))
filtered_alike f g t u a zero tests values = refl
filtered_alike f g t u a (suc n) tests values =
    go (t a) refl (u a) refl (filtered_alike f g t u (a + 1) n (λ e past under. tests e (omega arith) (omega arith)) (λ e past under. values e (omega arith) (omega arith)))
  where
    go : (b : Bool) → t a ≡ b → (c : Bool) → u a ≡ c → map f (filter t (range_with_len (a + 1) n)) ≡ map g (filter u (range_with_len (a + 1) n))
        → map f (filter t (range_with_len a (suc n))) ≡ map g (filter u (range_with_len a (suc n)))
    go true is true also rest = rw (is, also) (λ k. values a (omega arith) (omega arith) also k ∷ rest k)
    go true is false also rest = absurd (true≢false (sym is ∙ tests a (omega arith) (omega arith) ∙ also))
    go false is true also rest = absurd (true≢false (sym also ∙ sym (tests a (omega arith) (omega arith)) ∙ is))
    go false is false also rest = rw (is, also) rest
