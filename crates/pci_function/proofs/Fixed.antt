-- No write changes a bit that no write sets.
use Rattle.std.proofs.Common.{◌≡◌, ◌≢◌, ℕ, suc, ◌-◌, ◌<◌, ◌^◌, ◌/◌, ◌*◌, ◌%◌, Bool, true, false, nat_lt, List, [], ◌∷◌, get_or, set, eqb, bit_and, refl, sym, ap, ◌∙◌, subst, arith, ◌⊎◌, inl, inr}
use Rattle.std.proofs.Math.Nat.{mod-lt}
use Rattle.std.proofs.lemmas.Bool.Decides.{eqb_tells}
use Rattle.std.specs.Prelude.{if◌then◌else◌}
use Rattle.std.specs.Int.{bit_not, w8}
use Rattle.std.proofs.lemmas.Nat.{and_assoc, and_comm, and_or_apart, and-not}
use Rattle.std.specs.Int.Bits.{and_self, and_zero_r}
use Rattle.std.proofs.lemmas.List.{length-set, get_or-set_same, get_or-set_other}
use Rattle.std.proofs.lemmas.List.FromFn.{length-map-range_with_len}
use Rattle.pci_function.specs.Registers.{Line, registers}
use Rattle.pci_function.specs.Rows.{has, byte_of, initial_in, writable_in}
use Rattle.pci_function.specs.Space.{initial, merged, with_byte, with_bytes, written, resets}
use Rattle.pci_function.specs.Fixed.{fixed, IsFixed, after}

-- ---- a mask and what is left beside it

byte_fits : (x j : ℕ) → byte_of x j < 256
byte_fits x j = by_place (nat_lt j 4)
  where
    by_place : (b : Bool) → (if b then x / 2 ^ (8 * j) % 256 else 0) < 256
    by_place true = mod-lt (x / 2 ^ (8 * j)) (omega arith)
    by_place false = omega arith

mask_fits : (rs : List Line) (k : ℕ) → writable_in rs k < 256
unfolding writable_in
mask_fits [] k = omega arith
mask_fits (r ∷ rs) k = by_row (has r k) (byte_of r.writable (k - r.at)) (byte_fits r.writable (k - r.at)) (mask_fits rs k)
  where
    by_row : (b : Bool) (x : ℕ) → x < 256 → writable_in rs k < 256 → (if b then x else writable_in rs k) < 256
    by_row true x fits rest = fits
    by_row false x fits rest = rest

apart : (m : ℕ) → m < 256 → bit_and m (bit_not w8 m) ≡ 0
apart m fits = and_comm m (bit_not w8 m) ∙ omega (arith, and-not 8 m m fits fits, and_self m)

-- what a byte keeps of the bits beside the mask, once it is written
kept : (m old new : ℕ) → m < 256 → bit_and (merged m old new) (bit_not w8 m) ≡ bit_and old (bit_not w8 m)
kept m old new fits =
    let n : ℕ = bit_not w8 m in
    let none : bit_and (bit_and new m) n ≡ 0 = and_assoc n new m ∙ ap (bit_and new) (apart m fits) ∙ and_zero_r new in
    and_or_apart n (bit_and old n) (bit_and new m) none ∙ and_assoc n old n ∙ ap (bit_and old) (and_self n)

-- ---- the space

pub fixed_at_first : IsFixed initial
unfolding initial
fixed_at_first = record { whole = length-map-range_with_len (initial_in registers) 0 256; same = λ k inside. refl }

with_one : (space : List ℕ) (i x : ℕ) → IsFixed space → IsFixed (with_byte space i x)
unfolding with_byte
with_one space i x is = record {
  whole = length-set space i new ∙ is.whole;
  same = λ k inside. at k inside (eqb_tells k i);
}
  where
    new : ℕ
    new = merged (writable_in registers i) (get_or space i 0) x

    here : i < 256 → fixed i (get_or (set space i new) i 0) ≡ fixed i (get_or initial i 0)
    here inside =
        ap (fixed i) (get_or-set_same space i new 0 (omega (arith, is.whole, inside)))
        ∙ kept (writable_in registers i) (get_or space i 0) x (mask_fits registers i)
        ∙ is.same i inside

    at : (k : ℕ) → k < 256 → ((eqb k i ≡ true) × (k ≡ i)) ⊎ ((eqb k i ≡ false) × (k ≢ i)) → fixed k (get_or (set space i new) k 0) ≡ fixed k (get_or initial k 0)
    at k inside (inl e) =
        subst (λ (n : ℕ). fixed n (get_or (set space i new) n 0) ≡ fixed n (get_or initial n 0)) (sym e.1) (here (omega (arith, inside, e.1)))
    at k inside (inr e) = ap (fixed k) (get_or-set_other space i k new 0 e.1) ∙ is.same k inside

with_all : (i : ℕ) (xs space : List ℕ) → IsFixed space → IsFixed (with_bytes i xs space)
unfolding with_bytes
with_all i [] space is = is
with_all i (x ∷ xs) space is = with_all (suc i) xs (with_byte space i x) (with_one space i x is)

fixed_written : (i : ℕ) (xs space : List ℕ) → IsFixed space → IsFixed (written i xs space)
fixed_written i xs space is = by_reset (resets i xs)
  where
    by_reset : (b : Bool) → IsFixed (if b then initial else with_bytes i xs space)
    by_reset true = fixed_at_first
    by_reset false = with_all i xs space is

pub fixed_after : (ws : List (ℕ × List ℕ)) (space : List ℕ) → IsFixed space → IsFixed (after ws space)
fixed_after [] space is = is
fixed_after (w ∷ ws) space is = fixed_after ws (written w.0 w.1 space) (fixed_written w.0 w.1 space is)
