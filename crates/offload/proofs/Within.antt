-- A segment that is made among the bytes of its frame.
use Rattle.std.proofs.Common.{◌≡◌, ℕ, zero, suc, ◌+◌, ◌-◌, ◌<◌, ◌≤◌, List, [], ◌∷◌, ◌++◌, length, take, drop, refl, sym, ap, ◌∙◌, arith, append_assoc, length-append, length-drop}
use Rattle.std.proofs.lemmas.List.{take_at, drop_at, length-take-le, take-append-drop, drop-append-le, drop-drop}
use Rattle.std.proofs.lemmas.Slice.{drop-append-drop}
use Rattle.std.proofs.Math.Seq.{take-add}
use Rattle.std.specs.Prelude.{slice_range}
use Rattle.std.specs.Prelude.{Bool, ◌*◌, ◌==◌}
use Rattle.offload.specs.Context.{payload_at}
use Rattle.offload.specs.Cut.{IsCut, segment_count}
use Rattle.offload.specs.Segment.{finished, piece, segment_of}
use Rattle.offload.specs.declared.context.Context.{Context}
use Rattle.offload.proofs.Parts.{drop-last}
use Rattle.offload.proofs.Segmented.{length-segment, segment_payload}

-- the bytes with their first p over those from s on
abbrev pub laid : ℕ → ℕ → List ℕ → List ℕ
laid p s bytes = take s bytes ++ (take p bytes ++ drop (s + p) bytes)

taken_again : (m : ℕ) (bytes : List ℕ) → take (length (take m bytes)) bytes ≡ take m bytes
taken_again zero bytes = refl
taken_again (suc m) [] = refl
taken_again (suc m) (x ∷ rest) = ap (λ (l : List ℕ). x ∷ l) (taken_again m rest)

taken : (m : ℕ) (bytes : List ℕ) → take m bytes ++ drop (length (take m bytes)) bytes ≡ bytes
taken zero bytes = refl
taken (suc m) [] = refl
taken (suc m) (x ∷ rest) = ap (λ (l : List ℕ). x ∷ l) (taken m rest)

take-laid : (p s : ℕ) (bytes : List ℕ) → s + p ≤ length bytes → take s (laid p s bytes) ≡ take s bytes
take-laid p s bytes fits = take_at (take s bytes) (take p bytes ++ drop (s + p) bytes) s (length-take-le s bytes (omega arith))

drop-laid : (p s n : ℕ) (bytes : List ℕ) → s + p ≤ length bytes → s + p ≤ n → drop n (laid p s bytes) ≡ drop n bytes
drop-laid p s n bytes fits far =
    let front : length (take s bytes ++ take p bytes) ≡ s + p =
    omega (arith, length-append (take s bytes) (take p bytes), length-take-le s bytes (omega arith), length-take-le p bytes (omega arith)) in
    ap (drop n) (sym (append_assoc (take s bytes) (take p bytes) (drop (s + p) bytes)))
    ∙ drop-append-drop (s + p) bytes (take s bytes ++ take p bytes) n far front

pub length-laid : (p s : ℕ) (bytes : List ℕ) → s + p ≤ length bytes → length (take s bytes ++ (take p bytes ++ drop (s + p) bytes)) ≡ length bytes
length-laid p s bytes fits =
    omega (arith, length-append (take s bytes) (take p bytes ++ drop (s + p) bytes), length-append (take p bytes) (drop (s + p) bytes), length-take-le s bytes (omega arith), length-take-le p bytes (omega arith), length-drop (s + p) bytes)

-- what stands there then, with k bytes behind it
pub slice-laid : (p s k : ℕ) (bytes : List ℕ) → s + p ≤ length bytes
    → take (p + k) (drop s (take s bytes ++ (take p bytes ++ drop (s + p) bytes))) ≡ take p bytes ++ take k (drop (s + p) bytes)
slice-laid p s k bytes fits =
    let behind : List ℕ = drop (s + p) bytes in
    let front : length (take p bytes) ≡ p = length-take-le p bytes (omega arith) in
    ap (take (p + k)) (drop-last s bytes (take p bytes ++ behind) (omega arith))
    ∙ take-add p k (take p bytes ++ behind)
    ∙ ap (λ (l : List ℕ). l ++ take k (drop p (take p bytes ++ behind))) (take_at (take p bytes) behind p front)
    ∙ ap (λ (l : List ℕ). take p bytes ++ take k l) (drop-last p bytes behind (omega arith))

-- a segment there, and what it is put back from
pub put_back : (p s m : ℕ) (bytes segment kept : List ℕ) → s + p ≤ length bytes → p ≤ length segment → s + length segment ≤ length bytes
    → drop p segment ≡ take m (drop (p + s) bytes) → take p kept ≡ take p (drop s bytes)
    → take s (take s (laid p s bytes) ++ (segment ++ drop (s + length segment) (laid p s bytes)))
    ++ (take p kept ++ drop (s + p) (take s (laid p s bytes) ++ (segment ++ drop (s + length segment) (laid p s bytes)))) ≡ bytes
put_back p s m bytes segment kept fits least inside payload is =
    let other : List ℕ = laid p s bytes in
    let rest : List ℕ = drop (s + length segment) other in
    let behind : List ℕ = drop (p + s) bytes in
    let size : length other ≡ length bytes = length-laid p s bytes fits in
    let front : length (take s other) ≡ s = length-take-le s other (omega (arith, size)) in
    let order : p + s ≡ s + p = omega arith in
    let there : drop (s + p) (take s other ++ (segment ++ rest)) ≡ behind =
    sym (drop-drop p s (take s other ++ (segment ++ rest)))
    ∙ ap (drop p) (drop-last s other (segment ++ rest) (omega (arith, size)))
    ∙ drop-append-le p segment rest least
    ∙ ap (λ (l : List ℕ). l ++ rest) payload
    ∙ ap (λ (l : List ℕ). take m behind ++ l) (left rest refl)
    ∙ taken m behind in
    ap (λ (l : List ℕ). l ++ (take p kept ++ drop (s + p) (take s other ++ (segment ++ rest))))
    (take_at (take s other) (segment ++ rest) s front ∙ take-laid p s bytes fits)
    ∙ ap (λ (l : List ℕ). take s bytes ++ (l ++ drop (s + p) (take s other ++ (segment ++ rest)))) is
    ∙ ap (λ (l : List ℕ). take s bytes ++ (take p (drop s bytes) ++ l))
    (there ∙ ap (λ (n : ℕ). drop n bytes) order ∙ sym (drop-drop p s bytes))
    ∙ ap (λ (l : List ℕ). take s bytes ++ l) (take-append-drop p (drop s bytes))
    ∙ take-append-drop s bytes
  where
    left : (rest : List ℕ) → rest ≡ drop (s + length segment) (laid p s bytes) → rest ≡ drop (length (take m (drop (p + s) bytes))) (drop (p + s) bytes)
    left rest e =
        let count : length segment ≡ p + length (take m (drop (p + s) bytes)) = omega (arith, length-drop p segment, ap length payload, least) in
        let place : s + length segment ≡ p + s + length (take m (drop (p + s) bytes)) = omega (arith, count) in
        e
        ∙ drop-laid p s (s + length segment) bytes fits (omega (arith, least))
        ∙ ap (λ (n : ℕ). drop n bytes) place
        ∙ sym (drop-drop (length (take m (drop (p + s) bytes))) (p + s) bytes)

-- ---- a segment of a frame

-- what is made of the copy of the headers and the payload behind it
pub made : (c : Context) (frame : List ℕ) (n start size : ℕ) (last : Bool) → IsCut c (length frame) → start ≡ n * c.mss → start + payload_at c ≤ length frame
    → size ≡ payload_at c + length (piece c frame n) → last ≡ (n + 1 == segment_count c (length frame))
    → finished c n last (slice_range (laid (payload_at c) start frame) start (start + size)) ≡ segment_of c frame n
unfolding segment_of
made c frame n start size last cut place fits count is =
    let p : ℕ = payload_at c in
    let far : start + size - start ≡ p + length (piece c frame n) = omega (arith, count) in
    let order : start + p ≡ p + n * c.mss = omega (arith, place) in
    ap (λ (b : Bool). finished c n b (slice_range (laid p start frame) start (start + size))) is
    ∙ ap (finished c n (n + 1 == segment_count c (length frame)))
    (ap (λ (k : ℕ). take k (drop start (laid p start frame))) far
    ∙ slice-laid p start (length (piece c frame n)) frame fits
    ∙ ap (λ (place : ℕ). take p frame ++ take (length (piece c frame n)) (drop place frame)) order
    ∙ ap (λ (l : List ℕ). take p frame ++ l) (taken_again c.mss (drop (p + n * c.mss) frame)))

-- where it is then
pub there : (segment front rest : List ℕ) (start size : ℕ) → length front ≡ start → size ≡ length segment
    → slice_range (front ++ (segment ++ rest)) start (start + size) ≡ segment
there segment front rest start size count is =
    let far : start + size - start ≡ size = omega arith in
    ap (λ (k : ℕ). take k (drop start (front ++ (segment ++ rest)))) far
    ∙ ap (take size) (drop_at front (segment ++ rest) start count)
    ∙ take_at segment rest size (sym is)

-- and the frame is whole again, with what was kept
pub whole : (c : Context) (frame kept : List ℕ) (n start size : ℕ) → IsCut c (length frame) → start ≡ n * c.mss → start + payload_at c ≤ length frame
    → size ≡ payload_at c + length (piece c frame n) → start + size ≤ length frame → take (payload_at c) kept ≡ take (payload_at c) (drop start frame)
    → take start (take start (laid (payload_at c) start frame) ++ (segment_of c frame n ++ drop (start + size) (laid (payload_at c) start frame)))
    ++ (take (payload_at c) kept ++ drop (start + payload_at c) (take start (laid (payload_at c) start frame) ++ (segment_of c frame n ++ drop (start + size) (laid (payload_at c) start frame)))) ≡ frame
whole c frame kept n start size cut place fits count inside is =
    let p : ℕ = payload_at c in
    let segment : List ℕ = segment_of c frame n in
    let long : length segment ≡ size = length-segment c frame n cut ∙ sym count in
    let order : p + n * c.mss ≡ p + start = omega (arith, place) in
    ap (λ (k : ℕ). take start (take start (laid p start frame) ++ (segment ++ drop (start + k) (laid p start frame)))
    ++ (take p kept ++ drop (start + p) (take start (laid p start frame) ++ (segment ++ drop (start + k) (laid p start frame))))) (sym long)
    ∙ put_back p start c.mss frame segment kept fits (omega (arith, long, count)) (omega (arith, long, inside))
    (segment_payload c frame n cut ∙ ap (λ (place : ℕ). take c.mss (drop place frame)) order)
    is

pub made_there : (c : Context) (frame other new : List ℕ) (n start size headers : ℕ) (last : Bool) → IsCut c (length frame) → start ≡ n * c.mss → start + payload_at c ≤ length frame
    → size ≡ payload_at c + length (piece c frame n) → last ≡ (n + 1 == segment_count c (length frame)) → headers ≡ payload_at c → other ≡ laid headers start frame
    → new ≡ take start other ++ (finished c n last (slice_range other start (start + size)) ++ drop (start + size) other)
    → new ≡ take start (laid (payload_at c) start frame) ++ (segment_of c frame n ++ drop (start + size) (laid (payload_at c) start frame))
made_there c frame other new n start size headers last cut place fits count is long laid_is new_is =
    let p : ℕ = payload_at c in
    let same : other ≡ laid p start frame = laid_is ∙ ap (λ (k : ℕ). laid k start frame) long in
    new_is
    ∙ ap (λ (l : List ℕ). take start l ++ (finished c n last (slice_range l start (start + size)) ++ drop (start + size) l)) same
    ∙ ap (λ (l : List ℕ). take start (laid p start frame) ++ (l ++ drop (start + size) (laid p start frame))) (made c frame n start size last cut place fits count is)
