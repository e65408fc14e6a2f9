-- The segment is made of a copy of the headers, and what was kept makes the frame whole again.
use Rattle.std.proofs.Common.{◌≡◌, ℕ, ◌+◌, ◌-◌, ◌*◌, ◌≤◌, List, ◌++◌, length, take, drop, sym, ap, ◌∙◌, arith, length-drop}
use Rattle.std.proofs.lemmas.List.{take_at, length-take-le}
use Rattle.std.specs.Prelude.{slice_range}
use Rattle.offload.specs.Context.{payload_at}
use Rattle.offload.specs.Segment.{piece, segment_of}
use Rattle.offload.specs.declared.context.Context.{Context}
use Rattle.offload.proofs.Segmented.{length-segment}
use Rattle.offload.proofs.Within.{laid, length-laid, made_there, there, whole}
use Rattle.offload.proofs.segment.make_segment.Goals as goal

pub returns-clause-segment : goal.returns-clause-segment
returns-clause-segment c =
    let context : Context = c.args.context.now in
    let frame : List ℕ = c.args.frame.now in
    let p : ℕ = payload_at context in
    let start : ℕ = c.place-start.result in
    let size : ℕ = c.payload_at-headers.result + length c.piece.result.now in
    let new : List ℕ = c.finish_within.new.bytes in
    let fits : start + p ≤ length frame = omega (arith, c.place-start.ensures.inside) in
    let count : size ≡ p + length (piece context frame c.args.number) = omega (arith, c.payload_at-headers.ensures, ap length c.piece.ensures.bytes) in
    let is = made_there context frame c.lay_front.new.bytes new c.args.number start size c.payload_at-headers.result c.is_last-is_last.result
    c.requires.cut c.place-start.ensures.place fits count c.is_last-is_last.ensures.last c.payload_at-headers.ensures c.lay_front.ensures c.finish_within.ensures in
    ap (λ (place : ℕ). slice_range new place (place + size)) (sym c.place-start.ensures.place)
    ∙ ap (λ (l : List ℕ). slice_range l start (start + size)) is
    ∙ there (segment_of context frame c.args.number) (take start (laid p start frame)) (drop (start + size) (laid p start frame)) start size
    (length-take-le start (laid p start frame) (omega (arith, length-laid p start frame fits, fits)))
    (count ∙ sym (length-segment context frame c.args.number c.requires.cut))

pub returns-clause-whole : goal.returns-clause-whole
returns-clause-whole c =
    let context : Context = c.args.context.now in
    let frame : List ℕ = c.args.frame.now in
    let p : ℕ = payload_at context in
    let start : ℕ = c.place-start.result in
    let size : ℕ = c.payload_at-headers.result + length c.piece.result.now in
    let new : List ℕ = c.finish_within.new.bytes in
    let kept : List ℕ = c.copy_from_slice.new.self ++ drop c.payload_at-headers.result c.args.kept.now in
    let fits : start + p ≤ length frame = omega (arith, c.place-start.ensures.inside) in
    let count : size ≡ p + length (piece context frame c.args.number) = omega (arith, c.payload_at-headers.ensures, ap length c.piece.ensures.bytes) in
    let is = made_there context frame c.lay_front.new.bytes new c.args.number start size c.payload_at-headers.result c.is_last-is_last.result
    c.requires.cut c.place-start.ensures.place fits count c.is_last-is_last.ensures.last c.payload_at-headers.ensures c.lay_front.ensures c.finish_within.ensures in
    ap (λ (place : ℕ). take place new ++ (take p kept ++ drop (place + p) new)) (sym c.place-start.ensures.place)
    ∙ ap (λ (l : List ℕ). take start l ++ (take p kept ++ drop (start + p) l)) is
    ∙ whole context frame kept c.args.number start size c.requires.cut c.place-start.ensures.place fits count (omega (arith, c.piece.ensures.inside, c.place-start.ensures.place, c.payload_at-headers.ensures))
    (take_at c.copy_from_slice.new.self (drop c.payload_at-headers.result c.args.kept.now) p
    (ap length c.copy_from_slice.ensures.after
    ∙ length-take-le (start + c.payload_at-headers.result - start) (drop start frame) (omega (arith, fits, c.payload_at-headers.ensures, length-drop start frame))
    ∙ omega (arith, c.payload_at-headers.ensures))
    ∙ c.copy_from_slice.ensures.after
    ∙ ap (λ (k : ℕ). take k (drop start frame)) (omega (arith, c.payload_at-headers.ensures)))

pub returns-clause-length : goal.returns-clause-length
returns-clause-length c =
    let size : ℕ = c.payload_at-headers.result + length c.piece.result.now in
    let count : size ≡ payload_at c.args.context.now + length (piece c.args.context.now c.args.frame.now c.args.number) =
    omega (arith, c.payload_at-headers.ensures, ap length c.piece.ensures.bytes) in
    count ∙ sym (length-segment c.args.context.now c.args.frame.now c.args.number c.requires.cut)
