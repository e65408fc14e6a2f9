-- Blocks of a text, of which the end of one is kept for the next.
use Rattle.std.proofs.Common.{◌≡◌, ℕ, ◌+◌, ◌-◌, ◌≤◌, List, [], ◌++◌, Option, Some, None, Result, Err, IfSome, length, length-drop, append-nil, take, drop, sym, ap, ◌∙◌, arith}
use Rattle.std.specs.List.{copy_within}
use Rattle.std.specs.Io.KnownBytes.{Consumes, IsAtEnd}
use Rattle.std.proofs.lemmas.List.{append_assoc, drop-take}
use Rattle.std.proofs.lemmas.List.Edits.{take-paste}
use Rattle.std.proofs.Math.Seq.{take-add}
use Rattle.script.specs.Reading.{Meaning, Reading, at_first, finished, lines_of, ok_then, read_on, script_of}

pub end_moved : (old new : List ℕ) (end left : ℕ) → left ≤ end → end ≤ length old → new ≡ copy_within old (end - left) end 0
    → take left new ≡ drop (end - left) (take end old)
end_moved old new end left less inside moved =
    let from : List ℕ = drop (end - left) old in
    let count : end - (end - left) ≡ left = omega arith in
    let sum : end - left + left ≡ end = omega arith in
    let zero : 0 + (end - (end - left)) ≡ left = omega arith in
    ap (take left) moved ∙ ap (λ (n : ℕ). take n (copy_within old (end - left) end 0)) (sym zero)
    ∙ take-paste old 0 from (end - (end - left)) (omega arith) (omega (arith, length-drop (end - left) old))
    ∙ ap (λ (n : ℕ). take n from) count
    ∙ sym (drop-take (end - left) left old) ∙ ap (λ (n : ℕ). drop (end - left) (take n old)) sum

-- what is held of a text and what the reader has left lead from what is read now to what the whole says
abbrev pub ReadsOn : Option (List ℕ) → Option (List ℕ) → List ℕ → Reading → Type 0
ReadsOn None left held now = Unit {0}
ReadsOn (Some text) None held now = ⊥
ReadsOn (Some text) (Some rest) held now = read_on (lines_of text) at_first ≡ read_on (lines_of (held ++ rest)) now

pub reads_first : (known : Option (List ℕ)) (held : List ℕ) → held ≡ [] → ReadsOn known known held at_first
reads_first None held none = tt
reads_first (Some text) held none = ap (λ (xs : List ℕ). read_on (lines_of (xs ++ text)) at_first) (sym none)

-- the bytes of one more read, and then the lines that end in all of them
pub reads_next : (known old new : Option (List ℕ)) (held more both rest : List ℕ) (now next : Reading) → ReadsOn known old held now
    → Consumes old new more → both ≡ held ++ more
    → ((others : List ℕ) → read_on (lines_of (both ++ others)) now ≡ read_on (lines_of (rest ++ others)) next)
    → ReadsOn known new rest next
reads_next None old new held more both rest now next on takes joined leads = tt
reads_next (Some text) (Some left) (Some after) held more both rest now next on takes joined leads =
    on ∙ ap (λ (xs : List ℕ). read_on (lines_of (held ++ xs)) now) takes
    ∙ ap (λ (xs : List ℕ). read_on (lines_of xs) now) (sym (append_assoc held more after))
    ∙ ap (λ (xs : List ℕ). read_on (lines_of (xs ++ after)) now) (sym joined) ∙ leads after
reads_next (Some text) None new held more both rest now next on takes joined leads = absurd on
reads_next (Some text) (Some left) None held more both rest now next on takes joined leads = absurd takes

-- a line among them is bad
pub reads_bad : (known old new : Option (List ℕ)) (held more both : List ℕ) (now : Reading) (n : ℕ) → ReadsOn known old held now
    → Consumes old new more → both ≡ held ++ more → ((others : List ℕ) → read_on (lines_of (both ++ others)) now ≡ Err n)
    → IfSome known (λ text. script_of text ≡ Err n)
reads_bad None old new held more both now n on takes joined bad = tt
reads_bad (Some text) (Some left) (Some after) held more both now n on takes joined bad =
    let all : read_on (lines_of text) at_first ≡ Err n =
    on ∙ ap (λ (xs : List ℕ). read_on (lines_of (held ++ xs)) now) takes
    ∙ ap (λ (xs : List ℕ). read_on (lines_of xs) now) (sym (append_assoc held more after))
    ∙ ap (λ (xs : List ℕ). read_on (lines_of (xs ++ after)) now) (sym joined) ∙ bad after in
    ap (λ (r : Result Reading ℕ). ok_then r finished) all
reads_bad (Some text) None new held more both now n on takes joined bad = absurd on
reads_bad (Some text) (Some left) None held more both now n on takes joined bad = absurd takes

-- the reader is at its end
pub reads_last : (known old new : Option (List ℕ)) (held none : List ℕ) (now : Reading) (end : Result Meaning ℕ)
    → ReadsOn known old held now → Consumes old new none → none ≡ [] → IsAtEnd new
    → ok_then (read_on (lines_of held) now) finished ≡ end → IfSome known (λ text. script_of text ≡ end)
reads_last None old new held none now end on takes nothing at_end is = tt
reads_last (Some text) (Some left) (Some after) held none now end on takes nothing at_end is =
    let empty : left ≡ [] = takes ∙ (λ k. nothing k ++ at_end k) in
    let all : read_on (lines_of text) at_first ≡ read_on (lines_of held) now =
    on ∙ ap (λ (xs : List ℕ). read_on (lines_of (held ++ xs)) now) empty ∙ ap (λ (xs : List ℕ). read_on (lines_of xs) now) (append-nil held) in
    ap (λ (r : Result Reading ℕ). ok_then r finished) all ∙ is
reads_last (Some text) None new held none now end on takes nothing at_end is = absurd on
reads_last (Some text) (Some left) None held none now end on takes nothing at_end is = absurd takes

-- what is held after a read
pub held_more : (old new : List ℕ) (filled count : ℕ) → take filled new ≡ take filled old
    → take (filled + count) new ≡ take filled old ++ take count (drop filled new)
held_more old new filled count front = take-add filled count new ∙ ap (λ (xs : List ℕ). xs ++ take count (drop filled new)) front
