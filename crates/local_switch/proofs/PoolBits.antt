-- Sets of one pool, and sets without one.
use Rattle.std.proofs.Common.{◌≡◌, ℕ, ◌*◌, ◌%◌, ◌^◌, ◌<◌, Bool, true, false, not, ◌&&◌, ◌||◌, refl, sym, ap, ◌∙◌, eqb, eqb-true, bit_and}
use Rattle.std.specs.Int.{bit_at, bit_not, w64}
use Rattle.std.proofs.lemmas.Bool.{eqb-false}
use Rattle.std.proofs.Math.Bool.{and-true, and-false}
use Rattle.std.proofs.lemmas.Nat.Bits.{bit_at_clear_same, bit_at_clear_other}
use Rattle.wire_frame.specs.Bits.{has_bit}
use Rattle.wire_frame.proofs.BitLemmas.{has_bit_or, has_bit_zero, has_bit_set}

-- `1 << k` is the set of pool k
pub has_bit_one : (k p : ℕ) → k < 64 → has_bit (1 * 2 ^ k % 18446744073709551616) p ≡ eqb k p
has_bit_one k p h =
    let x = 1 * 2 ^ k % 18446744073709551616 in
    ap (λ (b : Bool). b || has_bit x p) (sym (has_bit_zero p))
    ∙ sym (has_bit_or 0 x p)
    ∙ has_bit_set 0 k p h
    ∙ ap (λ (b : Bool). b || eqb k p) (has_bit_zero p)

-- `pools & !(1 << k)` is the pools but k
pub has_bit_without : (pools k p : ℕ) → k < 64 → p < 64 → has_bit (bit_and pools (bit_not w64 (1 * 2 ^ k % 18446744073709551616))) p ≡ (has_bit pools p && not (eqb k p))
unfolding has_bit
has_bit_without pools k p h small = go (eqb k p) refl
  where
    go : (b : Bool) → eqb k p ≡ b → eqb (bit_at (bit_and pools (bit_not w64 (1 * 2 ^ k % 18446744073709551616))) p) 1 ≡ (eqb (bit_at pools p) 1 && not b)
    go true e =
        let same : k ≡ p = eqb-true k p e in
        rw (← same) (ap (λ (v : ℕ). eqb v 1) (bit_at_clear_same w64 pools k h) ∙ sym (and-false _))
    go false e = ap (λ (v : ℕ). eqb v 1) (bit_at_clear_other w64 pools k h p small (λ same. eqb-false k p e (sym same))) ∙ sym (and-true _)
