-- Rows that are apart share no offset.
use Rattle.std.proofs.Common.{arith, ◌≡◌, ℕ, ◌+◌, ◌-◌, ◌*◌, ◌%◌, ◌<◌, ◌≤◌, Bool, true, false, ◌&&◌, not, ap, eqb, eqb-true, leb, ltb, refl, sym, ◌∙◌}
use Rattle.std.proofs.lemmas.Bool.{and_parts, leb-true, ltb-true}
use Rattle.std.proofs.Math.Nat.{div-add-mod, mul-le-mul_left, add-mul-mod_self_left}
use Rattle.std.proofs.lemmas.Bool.Decides.{nat_tests}
use Rattle.wire_frame.specs.declared.row.Row.{Row}
use Rattle.wire_frame.specs.Row.{is_in, place}
use Rattle.wire_frame.specs.Apart.{apart, last}

-- an offset of the row is some strides past its first
at_place : (row : Row) (offset : ℕ) → is_in row offset ≡ true → offset ≡ row.first + row.stride * place row offset
at_place row offset e =
    let a : (leb row.first offset ≡ true) × ((eqb ((offset - row.first) % row.stride) 0 && ltb (place row offset) row.count) ≡ true) = and_parts (leb row.first offset) _ e in
    let b : (eqb ((offset - row.first) % row.stride) 0 ≡ true) × (ltb (place row offset) row.count ≡ true) = and_parts (eqb ((offset - row.first) % row.stride) 0) _ a.1 in
    let past : row.first ≤ offset = leb-true row.first offset a.0 in
    let whole : (offset - row.first) % row.stride ≡ 0 = eqb-true _ 0 b.0 in
    omega (arith, div-add-mod (offset - row.first) row.stride, past, whole)

place_below : (row : Row) (offset : ℕ) → is_in row offset ≡ true → place row offset < row.count
place_below row offset e =
    let a : (leb row.first offset ≡ true) × ((eqb ((offset - row.first) % row.stride) 0 && ltb (place row offset) row.count) ≡ true) = and_parts (leb row.first offset) _ e in
    let b : (eqb ((offset - row.first) % row.stride) 0 ≡ true) × (ltb (place row offset) row.count ≡ true) = and_parts (eqb ((offset - row.first) % row.stride) 0) _ a.1 in
    ltb-true (place row offset) row.count b.1

-- an offset of the row lies between its ends
within : (row : Row) (offset : ℕ) → is_in row offset ≡ true → (row.first ≤ offset) × (offset ≤ last row)
within row offset e =
    let here = at_place row offset e in
    let below : row.stride * place row offset ≤ row.stride * (row.count - 1) = mul-le-mul_left row.stride (omega (arith, place_below row offset e)) in
    (omega (arith, here), omega (arith, here, below))

-- two rows that are apart share no offset
pub in_one_row : (a b : Row) (offset : ℕ) → apart a b ≡ true → is_in a offset ≡ true → is_in b offset ≡ true → ⊥
in_one_row a b offset e f g = go (ltb (last a) b.first) refl (ltb (last b) a.first) refl
  where
    in_a : (a.first ≤ offset) × (offset ≤ last a)
    in_a = within a offset f

    in_b : (b.first ≤ offset) × (offset ≤ last b)
    in_b = within b offset g

    go : (x : Bool) → ltb (last a) b.first ≡ x → (y : Bool) → ltb (last b) a.first ≡ y → ⊥
    go true is y also = omega (arith, ltb-true (last a) b.first is, in_a, in_b)
    go false is true also = omega (arith, ltb-true (last b) a.first also, in_a, in_b)
    go false is false also =
        let rest = rw (is, also) at e in
        let parts : (eqb a.stride b.stride ≡ true) × (not (eqb (a.first % a.stride) (b.first % a.stride)) ≡ true) = and_parts (eqb a.stride b.stride) _ rest in
        let same : a.stride ≡ b.stride = eqb-true a.stride b.stride parts.0 in
        let of_a : offset % a.stride ≡ a.first % a.stride = ap (λ n. n % a.stride) (at_place a offset f) ∙ add-mul-mod_self_left a.first a.stride (place a offset) in
        let of_b : offset % b.stride ≡ b.first % b.stride = ap (λ n. n % b.stride) (at_place b offset g) ∙ add-mul-mod_self_left b.first b.stride (place b offset) in
        let both : a.first % a.stride ≡ b.first % a.stride = sym of_a ∙ ap (λ n. offset % n) same ∙ of_b ∙ ap (λ n. b.first % n) (sym same) in
        grind (arith, nat_tests, parts.1, both)
