-- An offset lies in at most one of some rows that are all apart.
use Rattle.std.proofs.Common.{arith, ◌≡◌, ℕ, ◌≤◌, Bool, true, false, List, [], ◌∷◌, length, refl, ◌∙◌}
use Rattle.std.specs.List.{list_all, filter}
use Rattle.std.proofs.lemmas.Bool.{and_parts}
use Rattle.wire_frame.specs.declared.row.Row.{Row}
use Rattle.wire_frame.specs.Row.{is_in}
use Rattle.wire_frame.specs.Apart.{apart, all_apart}
use Rattle.wire_frame.proofs.RowLemmas.{in_one_row}
use Rattle.pool_filter.specs.Map.{all_rows, rows_at}

-- of the rows, those that have a word at the offset
unfoldable of_rows : ℕ → List Row → List Row
of_rows offset rows = filter (λ row. is_in row offset) rows

of_rows-hit : (offset : ℕ) (a : Row) (rows : List Row) → is_in a offset ≡ true → of_rows offset (a ∷ rows) ≡ a ∷ of_rows offset rows
unfolding of_rows
of_rows-hit offset a rows is = rw is refl

of_rows-miss : (offset : ℕ) (a : Row) (rows : List Row) → is_in a offset ≡ false → of_rows offset (a ∷ rows) ≡ of_rows offset rows
unfolding of_rows
of_rows-miss offset a rows is = rw is refl

of_rows-none : (offset : ℕ) → of_rows offset [] ≡ []
unfolding of_rows
of_rows-none offset = refl

-- a row has the offset, so the rows that are apart from it do not
no_other : (offset : ℕ) (a : Row) (rows : List Row) → is_in a offset ≡ true → list_all (apart a) rows ≡ true → of_rows offset rows ≡ []
no_other offset a [] here alone = of_rows-none offset
no_other offset a (b ∷ rows) here alone = go (is_in b offset) refl (and_parts (apart a b) (list_all (apart a) rows) alone) (no_other offset a rows here)
  where
    go : (t : Bool) → is_in b offset ≡ t → (apart a b ≡ true) × (list_all (apart a) rows ≡ true) → (list_all (apart a) rows ≡ true → of_rows offset rows ≡ []) → of_rows offset (b ∷ rows) ≡ []
    go true is parts rest = absurd (in_one_row a b offset parts.0 here is)
    go false is parts rest = of_rows-miss offset b rows is ∙ rest parts.1

at_most_one : (offset : ℕ) (rows : List Row) → all_apart rows ≡ true → length (of_rows offset rows) ≤ 1
at_most_one offset [] alone = rw (of_rows-none offset) (omega arith)
at_most_one offset (a ∷ rows) alone = go (is_in a offset) refl (and_parts (list_all (apart a) rows) (all_apart rows) alone) (at_most_one offset rows)
  where
    go : (t : Bool) → is_in a offset ≡ t → (list_all (apart a) rows ≡ true) × (all_apart rows ≡ true) → (all_apart rows ≡ true → length (of_rows offset rows) ≤ 1) → length (of_rows offset (a ∷ rows)) ≤ 1
    go true is parts rest = rw (of_rows-hit offset a rows is, no_other offset a rows is parts.0) (omega arith)
    go false is parts rest = rw (of_rows-miss offset a rows is) (rest parts.1)

pub at_most_one_row : (offset : ℕ) → length (rows_at offset) ≤ 1
unfolding rows_at of_rows
at_most_one_row offset = at_most_one offset all_rows refl
