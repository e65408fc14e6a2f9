-- A checksum that is stored among the bytes.
use Rattle.std.proofs.Common.{◌≡◌, ℕ, zero, suc, ◌+◌, ◌-◌, ◌*◌, ◌/◌, ◌%◌, ◌<◌, ◌≤◌, Bool, true, false, eqb, List, [], ◌∷◌, ◌++◌, length, take, drop, get_or, refl, sym, ap, ◌∙◌, arith, length-drop}
use Rattle.std.proofs.lemmas.List.{take-append-drop, drop-drop, get_or-drop, length-take-le}
use Rattle.std.proofs.lemmas.Bool.{eqb-true}
use Rattle.std.specs.Prelude.{if◌then◌else◌}
use Rattle.byteorder.specs.Endian.{big_bytes}
use Rattle.internet_checksum.specs.Sum.{word_sum, folded, checksum, never_zero, word_at, with_word}
use Rattle.internet_checksum.proofs.Adding.{folded-most, folded-turned, folded-turned_zero, word_sum-append, word_sum-first, word_sum-two}

-- a word among the others
pub word_sum-around : (place : ℕ) (bytes : List ℕ) → place % 2 ≡ 0 → place + 2 ≤ length bytes
    → word_sum bytes ≡ word_sum (take place bytes) + (word_at place bytes + word_sum (drop (place + 2) bytes))
word_sum-around place bytes even fits =
    let front : length (take place bytes) ≡ place = length-take-le place bytes (omega arith) in
    let parts = word_sum-append (take place bytes) (drop place bytes) (ap (λ (n : ℕ). n % 2) front ∙ even) in
    let first = word_sum-first (drop place bytes) (omega (arith, length-drop place bytes)) in
    ap word_sum (sym (take-append-drop place bytes))
    ∙ parts
    ∙ ap (λ (s : ℕ). word_sum (take place bytes) + s)
    (first
    ∙ ap (λ (s : ℕ). s + word_sum (drop 2 (drop place bytes))) (at_front (get_or-drop place bytes 0 0) (get_or-drop place bytes 1 0))
    ∙ ap (λ (r : List ℕ). word_at place bytes + word_sum r) (drop-drop 2 place bytes))
  where
    at_front : get_or (drop place bytes) 0 0 ≡ get_or bytes (place + 0) 0 → get_or (drop place bytes) 1 0 ≡ get_or bytes (place + 1) 0
        → get_or (drop place bytes) 0 0 * 256 + (get_or (drop place bytes) 1 0 * 1 + 0) ≡ word_at place bytes
    at_front one two = let same : place + 0 ≡ place = omega arith in let there = ap (λ (i : ℕ). get_or bytes i 0) same in omega (arith, one, two, there)

-- a word that was written over another
pub word_sum-with_word : (place word : ℕ) (bytes : List ℕ) → place % 2 ≡ 0 → place + 2 ≤ length bytes → word < 65536
    → word_sum (with_word place word bytes) ≡ word_sum (take place bytes) + (word + word_sum (drop (place + 2) bytes))
word_sum-with_word place word bytes even fits small =
    let front : length (take place bytes) ≡ place = length-take-le place bytes (omega arith) in
    let rest = drop (place + 2) bytes in
    word_sum-append (take place bytes) (big_bytes 2 word ++ rest) (ap (λ (n : ℕ). n % 2) front ∙ even)
    ∙ ap (λ (s : ℕ). word_sum (take place bytes) + s) (word_sum-two (word / 256 % 256) (word % 256) rest ∙ omega arith)

-- the sum of all, with what stood at the place
together : (place word : ℕ) (bytes : List ℕ) → place % 2 ≡ 0 → place + 2 ≤ length bytes → word < 65536
    → word_at place bytes + word_sum (with_word place word bytes) ≡ word_sum bytes + word
together place word bytes even fits small =
    omega (arith, word_sum-around place bytes even fits, word_sum-with_word place word bytes even fits small)

pub plain_verifies : (place : ℕ) (bytes : List ℕ) → place % 2 ≡ 0 → place + 2 ≤ length bytes
    → folded (word_at place bytes + word_sum (with_word place (checksum bytes) bytes)) ≡ 65535
plain_verifies place bytes even fits =
    ap folded (together place (checksum bytes) bytes even fits (omega arith)) ∙ folded-turned (word_sum bytes) (checksum bytes) refl

pub never_zero_verifies : (place : ℕ) (bytes : List ℕ) → place % 2 ≡ 0 → place + 2 ≤ length bytes
    → folded (word_at place bytes + word_sum (with_word place (never_zero (checksum bytes)) bytes)) ≡ 65535
never_zero_verifies place bytes even fits = by_zero (eqb (checksum bytes) 0) refl
  where
    by_zero : (b : Bool) → eqb (checksum bytes) 0 ≡ b → folded (word_at place bytes + word_sum (with_word place (if b then 65535 else checksum bytes) bytes)) ≡ 65535
    by_zero true is = ap folded (together place 65535 bytes even fits (omega arith)) ∙ folded-turned_zero (word_sum bytes) (eqb-true (checksum bytes) 0 is)
    by_zero false is = plain_verifies place bytes even fits
