-- The payloads of all segments, joined.
use Rattle.std.proofs.Common.{◌≡◌, ℕ, zero, suc, ◌+◌, ◌-◌, ◌*◌, ◌/◌, ◌%◌, ◌<◌, ◌≤◌, List, [], ◌∷◌, ◌++◌, length, take, drop, refl, sym, ap, ◌∙◌, arith, length-drop}
use Rattle.std.proofs.Math.Nat.{mul-le-mul_right, mod-lt}
use Rattle.std.proofs.lemmas.Nat.{div-add-mod'}
use Rattle.std.proofs.lemmas.List.{take_all, drop-drop}
use Rattle.std.proofs.Math.Seq.{take-add}
use Rattle.std.specs.List.{flat_map, range_with_len}
use Rattle.offload.specs.Context.{payload_at}
use Rattle.offload.specs.Cut.{IsCut, payload_size, segment_count}
use Rattle.offload.specs.Segment.{piece, segment_of}
use Rattle.offload.specs.declared.context.Context.{Context}
use Rattle.offload.proofs.Segmented.{segment_payload}

-- the segments have room for all of it
enough : (payload mss : ℕ) → 0 < mss → payload ≤ (payload + mss - 1) / mss * mss
enough payload mss some = omega (arith, div-add-mod' (payload + mss - 1) mss, mod-lt (payload + mss - 1) {m = mss} some)

-- the payloads of some segments in a row are the bytes from the first one's place on
joined : (c : Context) (frame : List ℕ) → IsCut c (length frame) → (n first : ℕ)
    → flat_map (λ k. drop (payload_at c) (segment_of c frame k)) (range_with_len first n) ≡ take (n * c.mss) (drop (payload_at c + first * c.mss) frame)
joined c frame cut zero first =
    let none : 0 ≡ zero * c.mss = omega arith in
    ap (λ (k : ℕ). take k (drop (payload_at c + first * c.mss) frame)) none
joined c frame cut (suc n) first =
    let rest : List ℕ = drop (payload_at c + first * c.mss) frame in
    let next : payload_at c + first * c.mss + c.mss ≡ payload_at c + (first + 1) * c.mss = omega arith in
    let more : suc n * c.mss ≡ c.mss + n * c.mss = omega arith in
    ap (λ (l : List ℕ). l ++ flat_map (λ k. drop (payload_at c) (segment_of c frame k)) (range_with_len (first + 1) n)) (segment_payload c frame first cut)
    ∙ ap (λ (l : List ℕ). take c.mss rest ++ l)
    (joined c frame cut n (first + 1)
    ∙ ap (λ (place : ℕ). take (n * c.mss) (drop place frame)) (sym next)
    ∙ ap (take (n * c.mss)) (sym (drop-drop c.mss (payload_at c + first * c.mss) frame)))
    ∙ sym (take-add c.mss (n * c.mss) rest)
    ∙ ap (λ (k : ℕ). take k rest) (sym more)

pub payload_is_whole : (c : Context) (frame : List ℕ) → IsCut c (length frame)
    → flat_map (λ n. drop (payload_at c) (segment_of c frame n)) (range_with_len 0 (segment_count c (length frame))) ≡ drop (payload_at c) frame
unfolding segment_count
payload_is_whole c frame cut =
    let begin : payload_at c + 0 * c.mss ≡ payload_at c = omega arith in
    joined c frame cut ((payload_size c (length frame) + c.mss - 1) / c.mss) 0
    ∙ ap (λ (place : ℕ). take ((payload_size c (length frame) + c.mss - 1) / c.mss * c.mss) (drop place frame)) begin
    ∙ take_all _ (drop (payload_at c) frame) (omega (arith, enough (payload_size c (length frame)) c.mss cut.mss, length-drop (payload_at c) frame))
