-- Eight bytes, and the number that they are.
use Rattle.std.proofs.Common.{◌≡◌, ℕ, ◌+◌, ◌/◌, ◌%◌, ◌<◌, List, [], ◌∷◌, ◌++◌, length, get_or, take, drop, ◌∙◌, arith, Fits, w8}
use Rattle.std.proofs.lemmas.List.{places, take-append-drop}
use Rattle.guest_memory.specs.Memory.{word_bytes, two_words}
use Rattle.byteorder.specs.Endian.{little_number, little_bytes}

eight : (a b c d e f g h : ℕ) → a < 256 → b < 256 → c < 256 → d < 256 → e < 256 → f < 256 → g < 256 → h < 256 → little_bytes 8 (little_number 8 (a ∷ b ∷ c ∷ d ∷ e ∷ f ∷ g ∷ h ∷ [])) ≡ a ∷ b ∷ c ∷ d ∷ e ∷ f ∷ g ∷ h ∷ []
eight a b c d e f g h la lb lc ld le lf lg lh =
    let n : ℕ = little_number 8 (a ∷ b ∷ c ∷ d ∷ e ∷ f ∷ g ∷ h ∷ []) in
    let pa : n % 256 ≡ a = omega (arith, la) in
    let pb : n / 256 % 256 ≡ b = omega (arith, la, lb) in
    let pc : n / 65536 % 256 ≡ c = omega (arith, la, lb, lc) in
    let pd : n / 16777216 % 256 ≡ d = omega (arith, la, lb, lc, ld) in
    let pe : n / 4294967296 % 256 ≡ e = omega (arith, la, lb, lc, ld, le) in
    let pf : n / 1099511627776 % 256 ≡ f = omega (arith, la, lb, lc, ld, le, lf) in
    let pg : n / 281474976710656 % 256 ≡ g = omega (arith, la, lb, lc, ld, le, lf, lg) in
    let ph : n / 72057594037927936 % 256 ≡ h = omega (arith, la, lb, lc, ld, le, lf, lg, lh) in
    λ i. pa i ∷ pb i ∷ pc i ∷ pd i ∷ pe i ∷ pf i ∷ pg i ∷ ph i ∷ []

bytes_back : (xs : List ℕ) → length xs ≡ 8 → ((k : ℕ) → k < 8 → get_or xs k 0 < 256) → little_bytes 8 (little_number 8 xs) ≡ xs
bytes_back (a ∷ b ∷ c ∷ d ∷ e ∷ f ∷ g ∷ h ∷ []) len fits = eight a b c d e f g h (fits 0 (omega arith)) (fits 1 (omega arith)) (fits 2 (omega arith)) (fits 3 (omega arith)) (fits 4 (omega arith)) (fits 5 (omega arith)) (fits 6 (omega arith)) (fits 7 (omega arith))
bytes_back [] len fits = absurd (omega (arith, len))
bytes_back (a ∷ []) len fits = absurd (omega (arith, len))
bytes_back (a ∷ b ∷ []) len fits = absurd (omega (arith, len))
bytes_back (a ∷ b ∷ c ∷ []) len fits = absurd (omega (arith, len))
bytes_back (a ∷ b ∷ c ∷ d ∷ []) len fits = absurd (omega (arith, len))
bytes_back (a ∷ b ∷ c ∷ d ∷ e ∷ []) len fits = absurd (omega (arith, len))
bytes_back (a ∷ b ∷ c ∷ d ∷ e ∷ f ∷ []) len fits = absurd (omega (arith, len))
bytes_back (a ∷ b ∷ c ∷ d ∷ e ∷ f ∷ g ∷ []) len fits = absurd (omega (arith, len))
bytes_back (a ∷ b ∷ c ∷ d ∷ e ∷ f ∷ g ∷ h ∷ i ∷ more) len fits = absurd (omega (arith, len))

first : (xs : List ℕ) → length xs ≡ 16 → ((k : ℕ) → Fits w8 (get_or xs k 0)) → little_bytes 8 (little_number 8 (take 8 xs)) ≡ take 8 xs
first xs len fits =
    bytes_back (take 8 xs) (grind (arith, places, len)) (λ k low. let there : get_or (take 8 xs) k 0 ≡ get_or xs k 0 = grind (arith, places, len, low) in let small = (fits k).fits in rw there small)

second : (xs : List ℕ) → length xs ≡ 16 → ((k : ℕ) → Fits w8 (get_or xs k 0)) → little_bytes 8 (little_number 8 (drop 8 xs)) ≡ drop 8 xs
second xs len fits =
    bytes_back (drop 8 xs) (grind (arith, places, len)) (λ k low. let there : get_or (drop 8 xs) k 0 ≡ get_or xs (8 + k) 0 = grind (arith, places, len, low) in let small = (fits (8 + k)).fits in rw there small)

-- the bytes of the word that 8 bytes are
pub word_back : (xs : List ℕ) → length xs ≡ 8 → ((k : ℕ) → Fits w8 (get_or xs k 0)) → word_bytes (little_number 8 xs) ≡ xs
unfolding word_bytes
word_back xs len fits = bytes_back xs len (λ k low. (fits k).fits)

-- the bytes of the two words that 16 bytes are
pub words_back : (xs : List ℕ) → length xs ≡ 16 → ((k : ℕ) → Fits w8 (get_or xs k 0)) → two_words (little_number 8 (take 8 xs)) (little_number 8 (drop 8 xs)) ≡ xs
unfolding two_words
words_back xs len fits = (λ i. first xs len fits i ++ second xs len fits i) ∙ take-append-drop 8 xs
