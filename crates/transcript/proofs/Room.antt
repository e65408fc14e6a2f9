-- Texts that end where an index of a room says.
use Rattle.std.proofs.Common.{◌≡◌, ℕ, ◌+◌, ◌-◌, ◌<◌, ◌≤◌, List, ◌++◌, length, take, drop, slice_range, sym, ap, ◌∙◌, arith}
use Rattle.std.proofs.lemmas.List.{take-take, length-take-le, drop-take}
use Rattle.std.proofs.Math.Seq.{take-append-add, take-append_seam}

-- of bytes that were written the first are the text
pub front_text : (new room bytes : List ℕ) (at end count : ℕ) → at ≤ length room → end ≡ at + length bytes → count ≤ length bytes
    → take end new ≡ take at room ++ bytes → take (at + count) new ≡ take at room ++ take count bytes
front_text new room bytes at end count fits is few text =
    sym (take-take (at + count) end new (omega arith)) ∙ ap (take (at + count)) text
    ∙ ap (λ k. take (k + count) (take at room ++ bytes)) (sym (length-take-le at room fits)) ∙ take-append-add (take at room) bytes count

-- ---- the digits of a number, before index 20

pub digits_on : (digits : List ℕ) (first : ℕ) → first < 20 → take (20 - first) (slice_range digits first (first + 20)) ≡ drop first (take 20 digits)
digits_on digits first below =
    let long : first + 20 - first ≡ 20 = omega arith in
    let all : first + (20 - first) ≡ 20 = omega arith in
    rw long (take-take (20 - first) 20 (drop first digits) (omega arith))
    ∙ sym (drop-take first (20 - first) digits) ∙ ap (λ k. drop first (take k digits)) all

pub digits_end : (digits text rest : List ℕ) (first : ℕ) → first + length text ≡ 20 → drop first digits ≡ text ++ rest → drop first (take 20 digits) ≡ text
digits_end digits text rest first all is =
    ap (λ k. drop first (take k digits)) (sym all) ∙ drop-take first (length text) digits ∙ ap (take (length text)) is ∙ take-append_seam text rest
