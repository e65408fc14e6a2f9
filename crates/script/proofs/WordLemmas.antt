-- The first word of a text.
use Rattle.std.proofs.Common.{◌≡◌, ℕ, zero, suc, ◌+◌, ◌-◌, ◌<◌, ◌≤◌, ◌==◌, nat_le, List, [], ◌∷◌, length, length-drop, length-take, slice_index, take, drop, filter, refl, sym, ap, ◌∙◌, arith}
use Rattle.std.proofs.lemmas.Bool.Decides.{nat_tests}
use Rattle.std.proofs.lemmas.List.{drop_all, drop_more, take_all}
use Rattle.std.proofs.lemmas.List.Splits.{slice_split-cons_yes}
use Rattle.memchr.specs.Find.{Nowhere, Passes, is_byte}
use Rattle.script.specs.Text.{parts}
use Rattle.script.specs.Words.{words_of}
use Rattle.script.proofs.Cuts.{parts_cut, parts_whole}

abbrev pub kept : List (List ℕ) → List (List ℕ)
kept ps = filter (λ word. nat_le 1 (length word)) ps

-- a word that is not empty stands first
word_first : (word : List ℕ) (rest : List (List ℕ)) → 1 ≤ length word → kept (word ∷ rest) ≡ word ∷ kept rest
word_first word rest some = grind (arith, nat_tests)

-- a text that begins with a space has the words of what comes after it
words_spaced : (rest : List ℕ) → words_of (32 ∷ rest) ≡ words_of rest
words_spaced rest = ap kept (slice_split-cons_yes (λ b. b == 32) 32 rest refl)

pub first_word : (text : List ℕ) (at : ℕ) → at ≤ length text → Nowhere (Passes (is_byte 32) text) 0 at
    → (at < length text → slice_index text at ≡ 32) → 1 ≤ length text → (slice_index text 0 ≡ 32 → text ≡ [])
    → words_of text ≡ take at text ∷ words_of (drop at text)
first_word text at inside before here some first = go (length text - at) refl
  where
    long : 1 ≤ at
    long = one at refl
      where
        one : (n : ℕ) → at ≡ n → 1 ≤ at
        one zero is =
            let space : slice_index text 0 ≡ 32 = ap (slice_index text) (sym is) ∙ here (omega arith) in
            let none = ap (λ (xs : List ℕ). length xs) (first space) in
            absurd (omega arith)
        one (suc n) is = omega arith

    go : (left : ℕ) → length text - at ≡ left → words_of text ≡ take at text ∷ words_of (drop at text)
    go zero is =
        let e : at ≡ length text = omega arith in
        let whole = parts_whole 32 text (λ k low less. before k low (omega arith)) in
        let all : take at text ≡ text = take_all at text (omega arith) in
        let none : drop at text ≡ [] = drop_all at text (omega arith) in
        ap kept whole ∙ word_first text [] some ∙ rw (all, none) refl
    go (suc n) is =
        let inside : at < length text = omega arith in
        let at_space = here inside in
        let cut = parts_cut 32 text at (record { low = omega arith; high = inside; before = before }) (ap (λ (b : ℕ). b == 32) at_space) in
        let rest : take (length text - (at + 1)) (drop (at + 1) text) ≡ drop (at + 1) text = take_all (length text - (at + 1)) (drop (at + 1) text) (omega (arith, length-drop (at + 1) text)) in
        let left : drop at text ≡ 32 ∷ drop (at + 1) text = drop_more text at 0 inside ∙ ap (λ (b : ℕ). b ∷ drop (at + 1) text) at_space in
        ap kept (cut ∙ ap (λ (xs : List ℕ). take at text ∷ parts 32 xs) rest)
        ∙ word_first (take at text) (parts 32 (drop (at + 1) text)) (omega (arith, long, length-take at text))
        ∙ ap (λ (ws : List (List ℕ)). take at text ∷ ws) (sym (words_spaced (drop (at + 1) text)) ∙ ap words_of (sym left))
