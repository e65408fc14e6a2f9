-- Where the payload of a segment begins.
use Rattle.std.proofs.Common.{◌≡◌, ℕ, ◌+◌, ◌-◌, ◌*◌, ◌/◌, ◌%◌, ◌<◌, ◌≤◌, Bool, true, false, eqb, refl, arith}
use Rattle.std.proofs.Math.Dec.{ltb, leb}
use Rattle.std.proofs.lemmas.Bool.{ltb-true, ltb-false, leb-true, leb-false, eqb-true, eqb-false}
use Rattle.std.proofs.Math.Nat.{mul-le-mul_left, mul-le-mul_right, mod-lt}
use Rattle.std.proofs.lemmas.Nat.{div-add-mod'}
use Rattle.offload.specs.Context.{payload_at}
use Rattle.offload.specs.Cut.{IsCut, payload_size, segment_count}
use Rattle.offload.specs.declared.context.Context.{Context}

below : (payload mss n : ℕ) → 0 < mss → n < (payload + mss - 1) / mss → n * mss < payload
below payload mss n some less =
    let whole = div-add-mod' (payload + mss - 1) mss in
    let product : (n + 1) * mss ≤ (payload + mss - 1) / mss * mss = mul-le-mul_right mss (omega arith) in
    omega (arith, whole, product)

-- a segment of the count has payload left
pub piece_inside : (c : Context) (size n : ℕ) → IsCut c size → n < segment_count c size → payload_at c + n * c.mss < size
unfolding segment_count
piece_inside c size n cut less = omega (arith, below (payload_size c size) c.mss n cut.mss less, cut.payload)

-- so there are no more segments than bytes
pub few_pieces : (c : Context) (size n : ℕ) → IsCut c size → n < segment_count c size → n + 1 ≤ size
few_pieces c size n cut less =
    let some : 1 ≤ c.mss = omega (arith, cut.mss) in
    omega (arith, piece_inside c size n cut less, mul-le-mul_left n some)

-- and a number whose payload begins in the frame is below the count
reached : (payload mss n : ℕ) → 0 < mss → n * mss < payload → n < (payload + mss - 1) / mss
reached payload mss n some inside =
    by_order (ltb n ((payload + mss - 1) / mss)) refl
  where
    by_order : (b : Bool) → ltb n ((payload + mss - 1) / mss) ≡ b → n < (payload + mss - 1) / mss
    by_order true is = ltb-true n ((payload + mss - 1) / mss) is
    by_order false is =
        let whole = div-add-mod' (payload + mss - 1) mss in
        let left = mod-lt (payload + mss - 1) {m = mss} some in
        let product : (payload + mss - 1) / mss * mss ≤ n * mss = mul-le-mul_right mss (ltb-false n ((payload + mss - 1) / mss) is) in
        absurd (omega (arith, whole, left, product))

-- so the two say the same
pub has_piece : (c : Context) (size n : ℕ) → payload_at c < size → 0 < c.mss → ltb (n * c.mss) (payload_size c size) ≡ ltb n (segment_count c size)
unfolding segment_count
has_piece c size n payload mss = by_order (ltb (n * c.mss) (payload_size c size)) (ltb n ((payload_size c size + c.mss - 1) / c.mss)) refl refl
  where
    by_order : (a b : Bool) → ltb (n * c.mss) (payload_size c size) ≡ a → ltb n ((payload_size c size + c.mss - 1) / c.mss) ≡ b → a ≡ b
    by_order true true one two = refl
    by_order false false one two = refl
    by_order true false one two =
        absurd (omega (arith, reached (payload_size c size) c.mss n mss (ltb-true (n * c.mss) (payload_size c size) one), ltb-false n ((payload_size c size + c.mss - 1) / c.mss) two))
    by_order false true one two =
        absurd (omega (arith, below (payload_size c size) c.mss n mss (ltb-true n ((payload_size c size + c.mss - 1) / c.mss) two), ltb-false (n * c.mss) (payload_size c size) one))

-- the last segment is the one behind which no payload is left
pub last_piece : (c : Context) (size n : ℕ) → IsCut c size → n < segment_count c size
    → leb (size - (payload_at c + n * c.mss)) c.mss ≡ eqb (n + 1) (segment_count c size)
unfolding segment_count
last_piece c size n cut less =
    by_order (leb (size - (payload_at c + n * c.mss)) c.mss) (eqb (n + 1) ((payload_size c size + c.mss - 1) / c.mss)) refl refl
  where
    by_order : (a b : Bool) → leb (size - (payload_at c + n * c.mss)) c.mss ≡ a → eqb (n + 1) ((payload_size c size + c.mss - 1) / c.mss) ≡ b → a ≡ b
    by_order true true one two = refl
    by_order false false one two = refl
    by_order true false one two =
        let more : n + 1 < (payload_size c size + c.mss - 1) / c.mss = omega (arith, less, eqb-false (n + 1) ((payload_size c size + c.mss - 1) / c.mss) two) in
        absurd (omega (arith, below (payload_size c size) c.mss (n + 1) cut.mss more, leb-true (size - (payload_at c + n * c.mss)) c.mss one))
    by_order false true one two =
        let inside : (n + 1) * c.mss < payload_size c size = omega (arith, leb-false (size - (payload_at c + n * c.mss)) c.mss one) in
        absurd (omega (arith, reached (payload_size c size) c.mss (n + 1) cut.mss inside, eqb-true (n + 1) ((payload_size c size + c.mss - 1) / c.mss) two))
