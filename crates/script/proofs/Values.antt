-- The table of the values of digits.
use Rattle.std.proofs.Common.{◌≡◌, ℕ, zero, suc, ◌-◌, ◌<◌, Bool, true, ◌&&◌, T, eqb, get_or, inl, inr, arith, eq-zero-or-pos, eqb→eq}
use lib.Ieee.Fits.{and_l, and_r}
use Rattle.script.specs.Numbers.{digit_value}
use Rattle.script.specs.declared.hexadecimal.TheConstants.{VALUES}

abbrev are_values : ℕ → Bool
are_values zero = true
are_values (suc b) = eqb (get_or VALUES b 0) (digit_value b) && are_values b

below : (n b : ℕ) → T (are_values n) → b < n → get_or VALUES b 0 ≡ digit_value b
below zero b t less = absurd (omega arith)
below (suc n) b t less =
    elim (eq-zero-or-pos (n - b)) [
      | inl z ↦ let e : b ≡ n = omega arith in rw e (eqb→eq _ _ (and_l _ (are_values n) t))
      | inr g ↦ below n b (and_r _ (are_values n) t) (omega arith)
    ]

pub VALUES_at : (b : ℕ) → b < 256 → get_or VALUES b 0 ≡ digit_value b
unfolding digit_value
VALUES_at b less = below 256 b tt less
