-- Writes that are put one after another.
use Rattle.std.proofs.Common.{arith, ◌≡◌, ℕ, suc, ◌+◌, ◌-◌, ◌<◌, Bool, true, false, cond, List, [], ◌∷◌, ◌++◌, append_assoc, refl, sym, ap, ◌∙◌}
use Rattle.wire_frame.specs.declared.row.Row.{Row}
use Rattle.mailbox.specs.declared.writes.Write.{Write}
use Rattle.mailbox.specs.Writes.{write_at, writes_where}

-- the first place of those that are left
first_from : (t : ℕ → Bool) (row : Row) (word : ℕ → ℕ) (i n : ℕ) → i < n → writes_where t row word i (n - i) ≡ writes_where t row word i 1 ++ writes_where t row word (i + 1) (n - (i + 1))
first_from t row word i n small =
    let count : n - i ≡ suc (n - (i + 1)) = omega arith in
    let next : suc i ≡ i + 1 = omega arith in
    ap (writes_where t row word i) count ∙ split (t i) (writes_where t row word (suc i) (n - (i + 1))) ∙ ap (λ j. writes_where t row word i 1 ++ writes_where t row word j (n - (i + 1))) next
  where
    split : (b : Bool) (rest : List Write) → cond b (write_at row i (word i) ∷ rest) rest ≡ cond b (write_at row i (word i) ∷ []) [] ++ rest
    split true rest = refl
    split false rest = refl

-- it is put, and all are the same
pub put_from : (t : ℕ → Bool) (row : Row) (word : ℕ → ℕ) (i n : ℕ) (old new all : List Write) → i < n → new ≡ old ++ writes_where t row word i 1 → old ++ writes_where t row word i (n - i) ≡ all → new ++ writes_where t row word (i + 1) (n - (i + 1)) ≡ all
put_from t row word i n old new all small put before =
    ap (λ l. l ++ writes_where t row word (i + 1) (n - (i + 1))) put
    ∙ append_assoc old (writes_where t row word i 1) (writes_where t row word (i + 1) (n - (i + 1)))
    ∙ ap (λ l. old ++ l) (sym (first_from t row word i n small))
    ∙ before
