-- A word that is written among bytes.
use Rattle.std.proofs.Common.{◌≡◌, ℕ, ◌+◌, ◌-◌, ◌/◌, ◌%◌, ◌<◌, ◌≤◌, List, ◌++◌, length, take, drop, get_or, ap, ◌∙◌, arith, length-append, length-drop}
use Rattle.std.proofs.lemmas.List.{length-take-le}
use Rattle.std.proofs.Math.Seq.{get_or-append_right}
use Rattle.byteorder.specs.Endian.{big_bytes}
use Rattle.internet_checksum.specs.Sum.{word_at, with_word}

-- as many bytes as before
pub length-with_word : (place word : ℕ) (bytes : List ℕ) → place + 2 ≤ length bytes → length (with_word place word bytes) ≡ length bytes
length-with_word place word bytes fits =
    omega (arith, length-append (take place bytes) (big_bytes 2 word ++ drop (place + 2) bytes), length-take-le place bytes (omega arith), length-drop (place + 2) bytes)

-- the word that was written is read
pub word_at-with_word : (place word : ℕ) (bytes : List ℕ) → place + 2 ≤ length bytes → word < 65536 → word_at place (with_word place word bytes) ≡ word
word_at-with_word place word bytes fits small =
    let front : length (take place bytes) ≡ place = length-take-le place bytes (omega arith) in
    let behind : List ℕ = big_bytes 2 word ++ drop (place + 2) bytes in
    let none : place - length (take place bytes) ≡ 0 = omega arith in
    let one : place + 1 - length (take place bytes) ≡ 1 = omega arith in
    let high = get_or-append_right (take place bytes) behind place 0 (omega arith) ∙ ap (λ (i : ℕ). get_or behind i 0) none in
    let low = get_or-append_right (take place bytes) behind (place + 1) 0 (omega arith) ∙ ap (λ (i : ℕ). get_or behind i 0) one in
    joined high low
  where
    joined : get_or (with_word place word bytes) place 0 ≡ word / 256 % 256 → get_or (with_word place word bytes) (place + 1) 0 ≡ word % 256
        → word_at place (with_word place word bytes) ≡ word
    joined high low = omega (arith, high, low)
