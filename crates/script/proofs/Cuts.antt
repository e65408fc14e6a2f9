-- The parts of a text, from the first place of a byte.
use Rattle.std.proofs.Common.{◌≡◌, ℕ, ◌==◌, false, List, [], ◌∷◌, ◌+◌, ◌-◌, ◌<◌, ◌≤◌, slice_index, length, length-drop, take, drop, sym, ap, ◌∙◌, arith}
use Rattle.std.specs.List.{All, position_or_len}
use Rattle.std.proofs.lemmas.Bool.{false_from_ne_true}
use Rattle.std.proofs.lemmas.Bool.Decides.{nat_tests}
use Rattle.std.proofs.lemmas.List.{get_or-take, get_or_default, length-take-le, take_all}
use Rattle.std.proofs.lemmas.List.Sums.{position_or_len_is}
use Rattle.std.proofs.lemmas.List.Splits.{slice_split_none, slice_split_first}
use Rattle.memchr.specs.Find.{Nowhere, NoneBefore, Passes, is_byte}
use Rattle.script.specs.Text.{IsWithout, parts}

-- a text that has the byte
pub parts_cut : (byte : ℕ) (text : List ℕ) (at : ℕ) → NoneBefore (Passes (is_byte byte) text) 0 (length text) at
    → Passes (is_byte byte) text at
    → parts byte text ≡ take at text ∷ parts byte (take (length text - (at + 1)) (drop (at + 1) text))
parts_cut byte text at first here =
    let inside = first.high in
    let before = first.before in
    let place : position_or_len (λ b. b == byte) text ≡ at =
    position_or_len_is (λ b. b == byte) text at 0 (omega arith)
    (λ k less. false_from_ne_true _ (before k (omega arith) less)) (λ _. here) in
    let whole = take_all (length text - (at + 1)) (drop (at + 1) text) (omega (arith, length-drop (at + 1) text)) in
    slice_split_first (λ b. b == byte) text 0 (omega (arith, place))
    ∙ ap (λ (k : ℕ). take k text ∷ parts byte (drop (k + 1) text)) place
    ∙ ap (λ (rest : List ℕ). take at text ∷ parts byte rest) (sym whole)

-- a text that has none
pub parts_whole : (byte : ℕ) (text : List ℕ) → Nowhere (Passes (is_byte byte) text) 0 (length text)
    → parts byte text ≡ text ∷ []
parts_whole byte text none =
    let all : All (λ x. (x == byte) ≡ false) text = λ k d less. rw (get_or_default text k d 0 less) (false_from_ne_true _ (none k (omega arith) less)) in
    slice_split_none (λ b. b == byte) text all

-- the byte at a place that has it, and the bytes before it
pub is_here : (text : List ℕ) (byte at : ℕ) → slice_index text at ≡ byte → Passes (is_byte byte) text at
is_here text byte at here = grind (arith, nat_tests)

pub clear_before : (byte : ℕ) (text : List ℕ) (at : ℕ) → at ≤ length text → Nowhere (Passes (is_byte byte) text) 0 at
    → IsWithout byte (take at text)
clear_before byte text at inside none = λ k d less.
    let long = length-take-le at text inside in
    let there : k < at = omega arith in
    rw (get_or-take at text k d there, get_or_default text k d 0 (omega arith)) (false_from_ne_true _ (none k (omega arith) there))
