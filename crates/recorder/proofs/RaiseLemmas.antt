-- The pools that are left to be raised, one by one.
use Rattle.std.proofs.Common.{arith, ◌≡◌, ◌≢◌, ℕ, ◌+◌, ◌<◌, Bool, true, false, nat_lt, eqb, eqb-true, List, refl, sym, ap, ◌∙◌}
use Rattle.std.specs.Prelude.{slice_index}
use Rattle.std.specs.Int.{bit_at}
use Rattle.std.proofs.lemmas.Bool.{eqb-false}
use Rattle.std.proofs.lemmas.Bool.Decides.{nat_tests}
use Rattle.std.proofs.lemmas.Nat.Bits.{bit_at-zero}
use Rattle.wire_frame.specs.Bits.{has_bit}
use Rattle.wire_frame.specs.Pools.{IsLowestTaken}
use Rattle.irq_line.specs.declared.views.Raise.{Raise}
use Rattle.irq_line.specs.Line.{raised, bit_for}

-- of the pools that are left none was raised, and of the others what they got
pub record Done (masks : List ℕ) (first : List Raise) (rest : ℕ) (raises : List Raise) : Type 0 where
  pub left : (p v : ℕ) → p < 64 → bit_at rest p ≡ 1 → raised p v raises ≡ raised p v first
  pub done : (p v : ℕ) → p < 64 → bit_at rest p ≡ 0 → raised p v raises ≡ raised p v first + bit_at (slice_index masks p) v

-- a pool that is none of those that got any got none
got_none : (pools mask p v : ℕ) → bit_at pools p ≡ 0 → has_bit pools p ≡ nat_lt 0 mask → bit_at mask v ≡ 0
unfolding has_bit
got_none pools mask p v clear is =
    let test : eqb 0 1 ≡ nat_lt 0 mask = ap (λ bit. eqb bit 1) (sym clear) ∙ is in
    let none : mask ≡ 0 = grind (arith, nat_tests) in
    ap (λ m. bit_at m v) none ∙ bit_at-zero v

pub done_first : (masks : List ℕ) (first : List Raise) (pools : ℕ) → ((p : ℕ) → p < 64 → has_bit pools p ≡ nat_lt 0 (slice_index masks p)) → Done masks first pools first
done_first masks first pools is = record {
  left = λ p v below on. refl;
  done = λ p v below clear. omega (arith, got_none pools (slice_index masks p) p v clear (is p below));
}

-- the lowest pool is raised
pub done_more : (masks : List ℕ) (first : List Raise) (rest k after : ℕ) (raises raises' : List Raise) → IsLowestTaken rest k after
    → ((p v : ℕ) → raised p v raises' ≡ raised p v raises + bit_for p v k (slice_index masks k))
    → Done masks first rest raises → Done masks first after raises'
done_more masks first rest k after raises raises' t more d = record {
  left = λ p v below is. left_at p v below is (eqb k p) refl;
  done = λ p v below is. done_at p v below is (eqb k p) refl;
}
  where
    left_at : (p v : ℕ) → p < 64 → bit_at after p ≡ 1 → (same : Bool) → eqb k p ≡ same → raised p v raises' ≡ raised p v first
    left_at p v below is true e =
        let there : k ≡ p = eqb-true k p e in
        absurd (omega (arith, is, ap (bit_at after) there, t.gone))
    left_at p v below is false e =
        let elsewhere : k ≢ p = eqb-false k p e in
        let none : bit_for p v k (slice_index masks k) ≡ 0 = rw e refl in
        let other = t.others p (λ same. elsewhere (sym same)) in
        omega (arith, more p v, none, d.left p v below (sym other ∙ is))

    done_at : (p v : ℕ) → p < 64 → bit_at after p ≡ 0 → (same : Bool) → eqb k p ≡ same → raised p v raises' ≡ raised p v first + bit_at (slice_index masks p) v
    done_at p v below is true e =
        let there : k ≡ p = eqb-true k p e in
        let one : bit_for p v k (slice_index masks k) ≡ bit_at (slice_index masks k) v = rw e refl in
        let same : bit_at (slice_index masks k) v ≡ bit_at (slice_index masks p) v = ap (λ q. bit_at (slice_index masks q) v) there in
        omega (arith, more p v, one, same, d.left p v below (ap (bit_at rest) (sym there) ∙ t.there))
    done_at p v below is false e =
        let elsewhere : k ≢ p = eqb-false k p e in
        let none : bit_for p v k (slice_index masks k) ≡ 0 = rw e refl in
        let other = t.others p (λ same. elsewhere (sym same)) in
        omega (arith, more p v, none, d.done p v below (sym other ∙ is))
