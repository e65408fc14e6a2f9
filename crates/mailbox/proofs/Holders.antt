-- The first of some numbers that passes a test, number by number.
use Rattle.std.proofs.Common.{arith, ◌≡◌, ℕ, suc, ◌+◌, ◌-◌, ◌<◌, ◌≤◌, Bool, true, false, cond, Option, Some, None, refl, sym, ap, ◌∙◌}
use Rattle.mailbox.specs.State.{first_where}

more : (t : ℕ → Bool) (q n : ℕ) → q < n → first_where t q (n - q) ≡ cond (t q) (Some q) (first_where t (q + 1) (n - (q + 1)))
more t q n small =
    let count : n - q ≡ suc (n - (q + 1)) = omega (arith, small) in
    let next : suc q ≡ q + 1 = omega arith in
    ap (first_where t q) count ∙ ap (λ j. cond (t q) (Some q) (first_where t j (n - (q + 1)))) next

pub first_here : (t : ℕ → Bool) (q n : ℕ) (o : Option ℕ) → q < n → t q ≡ true → first_where t q (n - q) ≡ o → Some q ≡ o
first_here t q n o small here is = ap (λ b. cond b (Some q) (first_where t (q + 1) (n - (q + 1)))) (sym here) ∙ sym (more t q n small) ∙ is

pub first_next : (t : ℕ → Bool) (q n : ℕ) (o : Option ℕ) → q < n → t q ≡ false → first_where t q (n - q) ≡ o → first_where t (q + 1) (n - (q + 1)) ≡ o
first_next t q n o small there is = ap (λ b. cond b (Some q) (first_where t (q + 1) (n - (q + 1)))) (sym there) ∙ sym (more t q n small) ∙ is

pub first_end : (t : ℕ → Bool) (q n : ℕ) (o : Option ℕ) → n ≤ q → first_where t q (n - q) ≡ o → None ≡ o
first_end t q n o past is = let none : n - q ≡ 0 = omega (arith, past) in sym (ap (first_where t q) none) ∙ is
