-- Sums of words, and sums in ones' complement.
use Rattle.std.proofs.Common.{◌≡◌, ℕ, zero, suc, ◌+◌, ◌-◌, ◌*◌, ◌/◌, ◌%◌, ◌^◌, ◌<◌, ◌≤◌, Bool, true, false, eqb, List, [], ◌∷◌, ◌++◌, length, take, drop, get_or, refl, sym, ap, ◌∙◌, arith, ⊎_elim, zero-add, add_assoc, length-drop}
use Rattle.std.proofs.lemmas.List.{drop-drop}
use Rattle.std.proofs.Math.Nat.{mul-add-mod_self_right, mod-eq_of_lt, div-add-mod, mod-lt}
use Rattle.std.proofs.Math.Dec.{eqb-suc-zero}
use Rattle.byteorder.specs.Endian.{big_number, little_number}
use Rattle.internet_checksum.specs.Sum.{word_sum, folded}

-- ---- ones' complement

pub folded-zero : folded 0 ≡ 0
unfolding folded
folded-zero = refl

pub folded-suc : (n : ℕ) → folded (suc n) ≡ n % 65535 + 1
unfolding folded
folded-suc n = rw (eqb-suc-zero n) (ap (λ (m : ℕ). m % 65535 + 1) (omega arith))

-- what is carried out counts as often as it was
pub folded-split : (n : ℕ) → n ≡ folded n + 65535 * ((n - 1) / 65535)
folded-split zero = rw folded-zero refl
folded-split (suc n) = let e = folded-suc n in let d = div-add-mod n 65535 in let s : suc n - 1 ≡ n = omega arith in rw (e, s) (omega arith)

pub folded-most : (n : ℕ) → folded n ≤ 65535
folded-most zero = omega (arith, folded-zero)
folded-most (suc n) = omega (arith, folded-suc n, mod-lt n {m = 65535} (omega arith))

-- 0 comes from 0 alone
pub folded-none : (n : ℕ) → folded n ≡ 0 → n ≡ 0
folded-none zero h = refl
folded-none (suc n) h = absurd (omega (arith, folded-suc n))

-- two sums that differ by a multiple of 65535 fold to one, unless just one of them is 0
pub folded-close : (n m k : ℕ) → m ≡ n + 65535 * k → (n ≡ 0 → k ≡ 0) → folded m ≡ folded n
folded-close zero m k e none = ap folded (omega (arith, none refl))
folded-close (suc n) m k e none =
    let moved : m ≡ suc (k * 65535 + n) = omega arith in
    ap folded moved ∙ folded-suc (k * 65535 + n) ∙ ap (λ (r : ℕ). r + 1) (mul-add-mod_self_right k 65535 n) ∙ sym (folded-suc n)

-- a sum of 16 bits is its own
pub folded-fits : (n : ℕ) → n < 65536 → folded n ≡ n
folded-fits zero h = folded-zero
folded-fits (suc n) h = folded-suc n ∙ ap (λ (r : ℕ). r + 1) (mod-eq_of_lt {n = n} {m = 65535} (omega arith)) ∙ omega arith

-- a sum can be folded on the way
pub folded-part : (m n : ℕ) → folded (folded m + n) ≡ folded (m + n)
folded-part m n =
    sym (folded-close (folded m + n) (m + n) ((m - 1) / 65535) (omega (arith, folded-split m)) none)
  where
    none : folded m + n ≡ 0 → (m - 1) / 65535 ≡ 0
    none h = let gone : m ≡ 0 = folded-none m (omega arith) in rw gone refl

-- 256 times, too
pub folded-times : (m n : ℕ) → folded (256 * m + n) ≡ folded (256 * folded m + n)
folded-times m n =
    folded-close (256 * folded m + n) (256 * m + n) (256 * ((m - 1) / 65535)) (omega (arith, folded-split m)) none
  where
    none : 256 * folded m + n ≡ 0 → 256 * ((m - 1) / 65535) ≡ 0
    none h = let gone : m ≡ 0 = folded-none m (omega (arith, h)) in rw gone refl

pub folded-same_times : (m k n : ℕ) → folded m ≡ folded k → folded (256 * m + n) ≡ folded (256 * k + n)
folded-same_times m k n e = folded-times m n ∙ ap (λ (s : ℕ). folded (256 * s + n)) e ∙ sym (folded-times k n)

-- with its bits turned over, a sum comes to all ones
pub folded-turned : (n w : ℕ) → w ≡ 65535 - folded n → folded (n + w) ≡ 65535
folded-turned n w e =
    folded-close 65535 (n + w) ((n - 1) / 65535) (omega (arith, folded-split n, folded-most n)) (λ h. absurd (omega (arith, h)))
    ∙ folded-fits 65535 (omega arith)

-- and so it does where all ones stand for 0
pub folded-turned_zero : (n : ℕ) → 65535 - folded n ≡ 0 → folded (n + 65535) ≡ 65535
folded-turned_zero n e =
    folded-close 65535 (n + 65535) ((n - 1) / 65535 + 1) (omega (arith, folded-split n, folded-most n)) (λ h. absurd (omega (arith, h)))
    ∙ folded-fits 65535 (omega arith)

-- ---- words

pub word_sum-none : word_sum [] ≡ 0
unfolding word_sum
word_sum-none = refl

pub word_sum-one : (a : ℕ) → word_sum (a ∷ []) ≡ a * 256
unfolding word_sum
word_sum-one a = refl

pub word_sum-two : (a b : ℕ) (rest : List ℕ) → word_sum (a ∷ (b ∷ rest)) ≡ a * 256 + b + word_sum rest
unfolding word_sum
word_sum-two a b rest = refl

-- the first part has whole words
pub word_sum-append : (xs ys : List ℕ) → length xs % 2 ≡ 0 → word_sum (xs ++ ys) ≡ word_sum xs + word_sum ys
word_sum-append [] ys even = rw word_sum-none (sym (zero-add (word_sum ys)))
word_sum-append (a ∷ []) ys even = absurd (omega (arith, even))
word_sum-append (a ∷ (b ∷ xs)) ys even =
    let rest = word_sum-append xs ys (omega (arith, even)) in
    rw (word_sum-two a b (xs ++ ys), word_sum-two a b xs, rest) (omega arith)

-- eight bytes as one number, the lowest first, 256 times count as the four words that they are
pub word_sum-eight : (bytes : List ℕ) (total more : ℕ) → 8 ≤ length bytes
    → folded (256 * (total + little_number 8 bytes) + (more + word_sum (drop 8 bytes))) ≡ folded (256 * total + (more + word_sum bytes))
word_sum-eight (a ∷ (b ∷ (c ∷ (d ∷ (e ∷ (f ∷ (g ∷ (h ∷ rest)))))))) total more long =
    let all : word_sum (a ∷ (b ∷ (c ∷ (d ∷ (e ∷ (f ∷ (g ∷ (h ∷ rest)))))))) ≡ a * 256 + b + (c * 256 + d + (e * 256 + f + (g * 256 + h + word_sum rest))) =
    rw (word_sum-two a b (c ∷ (d ∷ (e ∷ (f ∷ (g ∷ (h ∷ rest)))))), word_sum-two c d (e ∷ (f ∷ (g ∷ (h ∷ rest)))), word_sum-two e f (g ∷ (h ∷ rest)), word_sum-two g h rest) refl in
    rw all (eight a b c d e f g h total more (word_sum rest))
  where
    eight : (a b c d e f g h total more left : ℕ)
        → folded (256 * (total + (a + 256 * (b + 256 * (c + 256 * (d + 256 * (e + 256 * (f + 256 * (g + 256 * (h + 256 * 0))))))))) + (more + left))
        ≡ folded (256 * total + (more + (a * 256 + b + (c * 256 + d + (e * 256 + f + (g * 256 + h + left))))))
    eight a b c d e f g h total more left =
        folded-close
        (256 * total + (more + (a * 256 + b + (c * 256 + d + (e * 256 + f + (g * 256 + h + left))))))
        (256 * (total + (a + 256 * (b + 256 * (c + 256 * (d + 256 * (e + 256 * (f + 256 * (g + 256 * (h + 256 * 0))))))))) + (more + left))
        ((c * 256 + b) + ((e * 256 + d) * 65537 + ((g * 256 + f) * 4295032833 + h * 281479271743489)))
        (omega arith)
        (λ none. omega (arith, none))
word_sum-eight _ total more long = absurd (omega (arith, long))

-- sixteen bytes, by two sums
pub word_sum-sixteen : (bytes : List ℕ) (first second more : ℕ) → 16 ≤ length bytes
    → folded (256 * (first + little_number 8 bytes + (second + little_number 8 (drop 8 bytes))) + (more + word_sum (drop 16 bytes)))
    ≡ folded (256 * (first + second) + (more + word_sum bytes))
word_sum-sixteen bytes first second more long =
    let x : ℕ = little_number 8 bytes in
    let y : ℕ = little_number 8 (drop 8 bytes) in
    ap (λ (t : ℕ). folded (256 * t + (more + word_sum (drop 16 bytes)))) (regrouped first second x y)
    ∙ ap (λ (l : List ℕ). folded (256 * (first + second + x + y) + (more + word_sum l))) (sym (drop-drop 8 8 bytes))
    ∙ word_sum-eight (drop 8 bytes) (first + second + x) more (omega (arith, length-drop 8 bytes))
    ∙ word_sum-eight bytes (first + second) more (omega (arith, long))
  where
    regrouped : (first second x y : ℕ) → first + x + (second + y) ≡ first + second + x + y
    regrouped first second x y = omega arith

-- eight bytes from a place on
eight_at : (place : ℕ) (bytes : List ℕ) (total more : ℕ) → place + 8 ≤ length bytes
    → folded (256 * (total + little_number 8 (drop place bytes)) + (more + word_sum (drop (place + 8) bytes)))
    ≡ folded (256 * total + (more + word_sum (drop place bytes)))
eight_at place bytes total more long =
    ap (λ (l : List ℕ). folded (256 * (total + little_number 8 (drop place bytes)) + (more + word_sum l))) (sym (drop-drop 8 place bytes))
    ∙ word_sum-eight (drop place bytes) total more (omega (arith, length-drop place bytes))

-- a block of 64 bytes
pub word_sum-block : (bytes : List ℕ) (total more a b c d e f g h : ℕ) → 64 ≤ length bytes
    → a ≡ little_number 8 (drop 0 bytes) → b ≡ little_number 8 (drop 8 bytes) → c ≡ little_number 8 (drop 16 bytes) → d ≡ little_number 8 (drop 24 bytes)
    → e ≡ little_number 8 (drop 32 bytes) → f ≡ little_number 8 (drop 40 bytes) → g ≡ little_number 8 (drop 48 bytes) → h ≡ little_number 8 (drop 56 bytes)
    → folded (256 * (total + a + b + c + d + e + f + g + h) + (more + word_sum (drop 64 bytes))) ≡ folded (256 * total + (more + word_sum bytes))
word_sum-block bytes total more a b c d e f g h long ai bi ci di ei fi gi hi =
    let n0 : ℕ = total in
    let n1 : ℕ = n0 + little_number 8 (drop 0 bytes) in
    let n2 : ℕ = n1 + little_number 8 (drop 8 bytes) in
    let n3 : ℕ = n2 + little_number 8 (drop 16 bytes) in
    let n4 : ℕ = n3 + little_number 8 (drop 24 bytes) in
    let n5 : ℕ = n4 + little_number 8 (drop 32 bytes) in
    let n6 : ℕ = n5 + little_number 8 (drop 40 bytes) in
    let n7 : ℕ = n6 + little_number 8 (drop 48 bytes) in
    rw (ai, bi, ci, di, ei, fi, gi, hi)
    (eight_at 56 bytes n7 more (omega (arith, long))
    ∙ eight_at 48 bytes n6 more (omega (arith, long))
    ∙ eight_at 40 bytes n5 more (omega (arith, long))
    ∙ eight_at 32 bytes n4 more (omega (arith, long))
    ∙ eight_at 24 bytes n3 more (omega (arith, long))
    ∙ eight_at 16 bytes n2 more (omega (arith, long))
    ∙ eight_at 8 bytes n1 more (omega (arith, long))
    ∙ eight_at 0 bytes n0 more (omega (arith, long)))

-- four bytes as one number, the highest first, count as the two words that they are
pub word_sum-four : (bytes : List ℕ) (more : ℕ) → 4 ≤ length bytes → folded (more + (big_number 4 bytes + word_sum (drop 4 bytes))) ≡ folded (more + word_sum bytes)
word_sum-four (a ∷ (b ∷ (c ∷ (d ∷ rest)))) more long =
    let all : word_sum (a ∷ (b ∷ (c ∷ (d ∷ rest)))) ≡ a * 256 + b + (c * 256 + d + word_sum rest) =
    rw (word_sum-two a b (c ∷ (d ∷ rest)), word_sum-two c d rest) refl in
    rw all (four a b c d more (word_sum rest))
  where
    four : (a b c d more left : ℕ)
        → folded (more + (a * 16777216 + (b * 65536 + (c * 256 + (d * 1 + 0))) + left))
        ≡ folded (more + (a * 256 + b + (c * 256 + d + left)))
    four a b c d more left =
        folded-close
        (more + (a * 256 + b + (c * 256 + d + left)))
        (more + (a * 16777216 + (b * 65536 + (c * 256 + (d * 1 + 0))) + left))
        (a * 256 + b)
        (omega arith)
        (λ none. omega (arith, none))
word_sum-four _ more long = absurd (omega (arith, long))

-- the first word, and the others
pub word_sum-first : (bytes : List ℕ) → 2 ≤ length bytes → word_sum bytes ≡ big_number 2 bytes + word_sum (drop 2 bytes)
word_sum-first [] long = absurd (omega (arith, long))
word_sum-first (a ∷ []) long = absurd (omega (arith, long))
word_sum-first (a ∷ (b ∷ rest)) long = rw (word_sum-two a b rest) (omega arith)

-- a last byte alone
pub word_sum-last : (bytes : List ℕ) → length bytes ≡ 1 → word_sum bytes ≡ get_or bytes 0 0 * 256
word_sum-last [] short = absurd (omega (arith, short))
word_sum-last (a ∷ []) short = word_sum-one a
word_sum-last (a ∷ (b ∷ rest)) short = absurd (omega (arith, short))

-- no byte
pub word_sum-empty : (bytes : List ℕ) → length bytes ≡ 0 → word_sum bytes ≡ 0
word_sum-empty [] short = word_sum-none
word_sum-empty (a ∷ rest) short = absurd (omega (arith, short))

-- the upper half of a number added to the lower one, where the halves part at a power of 65536
pub folded-halves : (n m : ℕ) → folded (n % (65535 * m + 1) + n / (65535 * m + 1)) ≡ folded n
folded-halves n m =
    sym (folded-close _ n (m * (n / (65535 * m + 1))) (omega (arith, div-add-mod n (65535 * m + 1))) none)
  where
    none : n % (65535 * m + 1) + n / (65535 * m + 1) ≡ 0 → m * (n / (65535 * m + 1)) ≡ 0
    none h = let gone : n / (65535 * m + 1) ≡ 0 = omega arith in rw gone (omega arith)
