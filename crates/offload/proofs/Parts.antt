-- Bytes in parts, of which one is written over.
use Rattle.std.proofs.Common.{◌≡◌, ℕ, ◌+◌, ◌-◌, ◌*◌, ◌/◌, ◌%◌, ◌<◌, ◌≤◌, List, [], ◌∷◌, ◌++◌, length, take, drop, get_or, set, refl, sym, ap, ◌∙◌, arith, append_assoc, length-append, length-drop}
use Rattle.std.proofs.lemmas.List.{take_at, drop_at, take-append-le, drop-append-le, length-take-le, drop-take, get_or-drop}
use Rattle.std.proofs.lemmas.Slice.{drop-append-drop}
use Rattle.std.proofs.Math.Seq.{get_or-append_right}
use Rattle.std.specs.Prelude.{slice_range}
use Rattle.byteorder.specs.Endian.{big_bytes}
use Rattle.internet_checksum.specs.Sum.{word_sum, word_at, with_word}
use Rattle.internet_checksum.proofs.Adding.{word_sum-two}

-- ---- a word

-- bytes behind the word stay
pub drop-with_word : (place word : ℕ) (bytes : List ℕ) (n : ℕ) → place + 2 ≤ n → place + 2 ≤ length bytes → drop n (with_word place word bytes) ≡ drop n bytes
drop-with_word place word bytes n behind fits =
    let front : length (take place bytes ++ big_bytes 2 word) ≡ place + 2 =
    omega (arith, length-append (take place bytes) (big_bytes 2 word), length-take-le place bytes (omega arith)) in
    ap (drop n) (sym (append_assoc (take place bytes) (big_bytes 2 word) (drop (place + 2) bytes)))
    ∙ drop-append-drop (place + 2) bytes (take place bytes ++ big_bytes 2 word) n behind front

-- a word over another
pub overwritten : (place first second : ℕ) (bytes : List ℕ) → place + 2 ≤ length bytes
    → with_word place second (with_word place first bytes) ≡ with_word place second bytes
overwritten place first second bytes fits =
    ap (λ (l : List ℕ). l ++ (big_bytes 2 second ++ drop (place + 2) (with_word place first bytes)))
    (take_at (take place bytes) (big_bytes 2 first ++ drop (place + 2) bytes) place (length-take-le place bytes (omega arith)))
    ∙ ap (λ (l : List ℕ). take place bytes ++ (big_bytes 2 second ++ l)) (drop-with_word place first bytes (place + 2) (omega arith) fits)

-- a word further on
pub word_at-drop : (from place : ℕ) (bytes : List ℕ) → word_at place (drop from bytes) ≡ word_at (from + place) bytes
word_at-drop from place bytes =
    let high = get_or-drop from bytes place 0 in
    let low = get_or-drop from bytes (place + 1) 0 ∙ ap (λ (i : ℕ). get_or bytes i 0) (next from place) in
    rw (high, low) refl
  where
    next : (m n : ℕ) → m + (n + 1) ≡ m + n + 1
    next m n = omega arith

-- ---- three parts, the middle one of which is new

pub length-middle : (m t : ℕ) (bytes part : List ℕ) → m ≤ t → t ≤ length bytes → length part ≡ t - m
    → length (take m bytes ++ (part ++ drop t bytes)) ≡ length bytes
length-middle m t bytes part order fits count =
    omega (arith, length-append (take m bytes) (part ++ drop t bytes), length-append part (drop t bytes), length-take-le m bytes (omega arith), length-drop t bytes)

pub drop-middle : (m t : ℕ) (bytes part : List ℕ) → m ≤ t → t ≤ length bytes → length part ≡ t - m
    → drop t (take m bytes ++ (part ++ drop t bytes)) ≡ drop t bytes
drop-middle m t bytes part order fits count =
    let front : length (take m bytes ++ part) ≡ t = omega (arith, length-append (take m bytes) part, length-take-le m bytes (omega arith)) in
    ap (drop t) (sym (append_assoc (take m bytes) part (drop t bytes))) ∙ drop_at (take m bytes ++ part) (drop t bytes) t front

pub slice-middle : (m t : ℕ) (bytes part : List ℕ) → m ≤ t → t ≤ length bytes → length part ≡ t - m
    → slice_range (take m bytes ++ (part ++ drop t bytes)) m t ≡ part
slice-middle m t bytes part order fits count =
    ap (take (t - m)) (drop_at (take m bytes) (part ++ drop t bytes) m (length-take-le m bytes (omega arith))) ∙ take_at part (drop t bytes) (t - m) count

pub length-slice : (m t : ℕ) (bytes : List ℕ) → m ≤ t → t ≤ length bytes → length (slice_range bytes m t) ≡ t - m
length-slice m t bytes order fits = length-take-le (t - m) (drop m bytes) (omega (arith, length-drop m bytes))

-- ---- two parts, the last one of which is new

pub drop-last : (t : ℕ) (bytes part : List ℕ) → t ≤ length bytes → drop t (take t bytes ++ part) ≡ part
drop-last t bytes part fits = drop_at (take t bytes) part t (length-take-le t bytes fits)

pub length-last : (t : ℕ) (bytes part : List ℕ) → t ≤ length bytes → length part ≡ length bytes - t → length (take t bytes ++ part) ≡ length bytes
length-last t bytes part fits count = omega (arith, length-append (take t bytes) part, length-take-le t bytes fits)

pub slice-last : (m t : ℕ) (bytes part : List ℕ) → m ≤ t → t ≤ length bytes → slice_range (take t bytes ++ part) m t ≡ slice_range bytes m t
slice-last m t bytes part order fits =
    let front : length (take t bytes) ≡ t = length-take-le t bytes fits in
    let count : length (drop m (take t bytes)) ≡ t - m = omega (arith, length-drop m (take t bytes)) in
    let whole : m + (t - m) ≡ t = omega arith in
    ap (take (t - m)) (drop-append-le m (take t bytes) part (omega arith))
    ∙ take_at (drop m (take t bytes)) part (t - m) count
    ∙ ap (λ (n : ℕ). drop m (take n bytes)) (sym whole)
    ∙ drop-take m (t - m) bytes

-- ---- a sum of words that are to be written

-- the first six words, and the others
word_sum-six : (a b c d e f g h i j k l : ℕ) (rest : List ℕ)
    → word_sum (a ∷ (b ∷ (c ∷ (d ∷ (e ∷ (f ∷ (g ∷ (h ∷ (i ∷ (j ∷ (k ∷ (l ∷ rest))))))))))))
    ≡ a * 256 + b + (c * 256 + d + (e * 256 + f + (g * 256 + h + (i * 256 + j + (k * 256 + l + word_sum rest)))))
word_sum-six a b c d e f g h i j k l rest =
    rw (word_sum-two a b (c ∷ (d ∷ (e ∷ (f ∷ (g ∷ (h ∷ (i ∷ (j ∷ (k ∷ (l ∷ rest)))))))))), word_sum-two c d (e ∷ (f ∷ (g ∷ (h ∷ (i ∷ (j ∷ (k ∷ (l ∷ rest)))))))), word_sum-two e f (g ∷ (h ∷ (i ∷ (j ∷ (k ∷ (l ∷ rest)))))), word_sum-two g h (i ∷ (j ∷ (k ∷ (l ∷ rest)))), word_sum-two i j (k ∷ (l ∷ rest)), word_sum-two k l rest) refl

-- an IPv4 header with a length and an identification, without its checksum
pub numbered_sum : (total identification : ℕ) (header : List ℕ) → 12 ≤ length header → total < 65536 → identification < 65536
    → word_at 0 header + word_at 6 header + word_at 8 header + total + identification + word_sum (drop 12 header)
    ≡ word_sum (with_word 10 0 (with_word 4 identification (with_word 2 total header)))
numbered_sum total identification (a ∷ (b ∷ (c ∷ (d ∷ (e ∷ (f ∷ (g ∷ (h ∷ (i ∷ (j ∷ (k ∷ (l ∷ rest)))))))))))) long small low =
    sym (word_sum-six a b (total / 256 % 256) (total % 256) (identification / 256 % 256) (identification % 256) g h i j 0 0 rest ∙ omega arith)
numbered_sum total identification _ long small low = absurd (omega (arith, long))

-- a TCP header with flags and a partial sum
pub marked_sum : (flags partial : ℕ) (bytes : List ℕ) → 20 ≤ length bytes → partial < 65536
    → word_at 0 bytes + word_at 2 bytes + (word_at 4 bytes + word_at 6 bytes + word_at 8 bytes + word_at 10 bytes)
    + (get_or bytes 12 0 * 256 + flags) + (word_at 14 bytes + word_at 18 bytes) + partial + word_sum (drop 20 bytes)
    ≡ word_sum (with_word 16 partial (set bytes 13 flags))
marked_sum flags partial (a ∷ (b ∷ (c ∷ (d ∷ (e ∷ (f ∷ (g ∷ (h ∷ (i ∷ (j ∷ (k ∷ (l ∷ (m ∷ (n ∷ (o ∷ (p ∷ (q ∷ (r ∷ (s ∷ (t ∷ rest)))))))))))))))))))) long small =
    sym (word_sum-six a b c d e f g h i j k l (m ∷ (flags ∷ (o ∷ (p ∷ (partial / 256 % 256 ∷ (partial % 256 ∷ (s ∷ (t ∷ rest)))))))) ∙ omega (arith, behind m flags o p (partial / 256 % 256) (partial % 256) s t rest))
  where
    behind : (a b c d e f g h : ℕ) (rest : List ℕ)
        → word_sum (a ∷ (b ∷ (c ∷ (d ∷ (e ∷ (f ∷ (g ∷ (h ∷ rest)))))))) ≡ a * 256 + b + (c * 256 + d + (e * 256 + f + (g * 256 + h + word_sum rest)))
    behind a b c d e f g h rest =
        rw (word_sum-two a b (c ∷ (d ∷ (e ∷ (f ∷ (g ∷ (h ∷ rest)))))), word_sum-two c d (e ∷ (f ∷ (g ∷ (h ∷ rest)))), word_sum-two e f (g ∷ (h ∷ rest)), word_sum-two g h rest) refl
marked_sum flags partial _ long small = absurd (omega (arith, long))
