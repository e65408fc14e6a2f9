-- The words of messages that are not 0 are read back from their bytes.
use Rattle.std.proofs.Common.{◌≡◌, ℕ, ◌+◌, ◌*◌, ◌^◌, ◌<◌, ◌==◌, not, Bool, true, false, List, [], ◌++◌, length, length-append, slice_index, refl, sym, ap, ◌∙◌, arith}
use Rattle.std.specs.Int.{bit_at}
use Rattle.std.proofs.lemmas.Nat.Bits.{bit_at-lt}
use Rattle.std.proofs.lemmas.List.{append-nil}
use mir.Val.{bool_byte}
use Rattle.byteorder.specs.Numbers.{little_number-reads_back}
use Rattle.wire_frame.specs.Bits.{has_bit}
use Rattle.irq_causes.specs.Messages.{masks_of}
use Rattle.history.specs.Heads.{word_bytes, word_of, rest_of, words_len, packed, messages_with}

word_back : (w : ℕ) (rest : List ℕ) → w < 2 ^ 64 → word_of (not (w == 0)) (word_bytes w ++ rest) ≡ w
unfolding word_of word_bytes
word_back w rest fits = at (w == 0) refl
  where
    at : (none : Bool) → (w == 0) ≡ none → word_of (not (w == 0)) (word_bytes w ++ rest) ≡ w
    at true is = rw is (grind (arith, is))
    at false is = rw is (little_number-reads_back 8 w rest fits)

rest_back : (w : ℕ) (rest : List ℕ) → rest_of (not (w == 0)) (word_bytes w ++ rest) ≡ rest
unfolding rest_of word_bytes
rest_back w rest = at (w == 0) refl
  where
    at : (none : Bool) → (w == 0) ≡ none → rest_of (not (w == 0)) (word_bytes w ++ rest) ≡ rest
    at true is = rw is refl
    at false is = rw is refl

-- a word of a vector takes 8 bytes where it is kept
word_len : (v i w : ℕ) → has_bit v i ≡ not (w == 0) → length (word_bytes w) ≡ 8 * bit_at v i
unfolding has_bit word_bytes
word_len v i w kept = at (w == 0) refl
  where
    at : (none : Bool) → (w == 0) ≡ none → length (word_bytes w) ≡ 8 * bit_at v i
    at true is = rw is (grind (arith, kept, is, bit_at-lt v i))
    at false is = rw is (grind (arith, kept, is, bit_at-lt v i))

pub packed_len : (words : List ℕ) (v : ℕ)
    → has_bit v 0 ≡ not (slice_index words 0 == 0) → has_bit v 1 ≡ not (slice_index words 1 == 0) → has_bit v 2 ≡ not (slice_index words 2 == 0)
    → length (packed words) ≡ words_len v
packed_len words v first second third =
    omega (
      arith,
      word_len v 0 (slice_index words 0) first,
      word_len v 1 (slice_index words 1) second,
      word_len v 2 (slice_index words 2) third,
      length-append (word_bytes (slice_index words 0)) (word_bytes (slice_index words 1) ++ word_bytes (slice_index words 2)),
      length-append (word_bytes (slice_index words 1)) (word_bytes (slice_index words 2)),
    )

pub unpacked : (words : List ℕ) (v : ℕ)
    → slice_index words 0 < 2 ^ 64 → slice_index words 1 < 2 ^ 64 → slice_index words 2 < 2 ^ 64
    → has_bit v 0 ≡ not (slice_index words 0 == 0) → has_bit v 1 ≡ not (slice_index words 1 == 0) → has_bit v 2 ≡ not (slice_index words 2 == 0)
    → messages_with v (packed words) ≡ masks_of words
unfolding messages_with
unpacked words v x y z first second third =
    let a = slice_index words 0 in
    let b = slice_index words 1 in
    let c = slice_index words 2 in
    let one = word_back a (word_bytes b ++ word_bytes c) x in
    let after = rest_back a (word_bytes b ++ word_bytes c) in
    let two = word_back b (word_bytes c) y in
    let end = rest_back b (word_bytes c) in
    let three : word_of (not (c == 0)) (word_bytes c) ≡ c = ap (word_of (not (c == 0))) (sym (append-nil (word_bytes c))) ∙ word_back c [] z in
    rw (first, second, third, one, after, two, end, three) refl

-- a set of vectors of three choices
pub bit_first : (a b c : Bool) → has_bit (bool_byte a + 2 * bool_byte b + 4 * bool_byte c) 0 ≡ a
unfolding has_bit
bit_first true true true = refl
bit_first true true false = refl
bit_first true false true = refl
bit_first true false false = refl
bit_first false true true = refl
bit_first false true false = refl
bit_first false false true = refl
bit_first false false false = refl

pub bit_second : (a b c : Bool) → has_bit (bool_byte a + 2 * bool_byte b + 4 * bool_byte c) 1 ≡ b
unfolding has_bit
bit_second true true true = refl
bit_second true true false = refl
bit_second true false true = refl
bit_second true false false = refl
bit_second false true true = refl
bit_second false true false = refl
bit_second false false true = refl
bit_second false false false = refl

pub bit_third : (a b c : Bool) → has_bit (bool_byte a + 2 * bool_byte b + 4 * bool_byte c) 2 ≡ c
unfolding has_bit
bit_third true true true = refl
bit_third true true false = refl
bit_third true false true = refl
bit_third true false false = refl
bit_third false true true = refl
bit_third false true false = refl
bit_third false false true = refl
bit_third false false false = refl
