-- The bytes of a pseudo header sum to its protocol, its count and its addresses.
use Rattle.std.proofs.Common.{◌≡◌, ℕ, ◌+◌, ◌*◌, ◌/◌, ◌%◌, ◌<◌, List, [], ◌∷◌, ◌++◌, length, refl, ap, ◌∙◌, arith, length-append}
use Rattle.byteorder.specs.Endian.{big_bytes}
use Rattle.internet_checksum.specs.Sum.{word_sum, folded}
use Rattle.internet_checksum.proofs.Adding.{word_sum-append, word_sum-two, word_sum-none}
use Rattle.receive_checksum.specs.Checks.{transport_sum}
use Rattle.receive_checksum.specs.Sent.{ipv4_pseudo, ipv6_pseudo}

short : (protocol count : ℕ) → count < 65536 → word_sum (0 ∷ (protocol ∷ big_bytes 2 count)) ≡ protocol + count
short protocol count small =
    word_sum-two 0 protocol (big_bytes 2 count)
    ∙ ap (λ (s : ℕ). 0 * 256 + protocol + s) (word_sum-two (count / 256 % 256) (count % 256) [] ∙ ap (λ (s : ℕ). count / 256 % 256 * 256 + count % 256 + s) word_sum-none)
    ∙ omega arith

long : (protocol count : ℕ) → count < 65536 → word_sum (big_bytes 4 count ++ (0 ∷ (0 ∷ (0 ∷ (protocol ∷ []))))) ≡ protocol + count
long protocol count small =
    word_sum-two (count / 16777216 % 256) (count / 65536 % 256) (count / 256 % 256 ∷ (count % 256 ∷ (0 ∷ (0 ∷ (0 ∷ (protocol ∷ []))))))
    ∙ ap (λ (s : ℕ). count / 16777216 % 256 * 256 + count / 65536 % 256 + s)
    (word_sum-two (count / 256 % 256) (count % 256) (0 ∷ (0 ∷ (0 ∷ (protocol ∷ []))))
    ∙ ap (λ (s : ℕ). count / 256 % 256 * 256 + count % 256 + s)
    (word_sum-two 0 0 (0 ∷ (protocol ∷ [])) ∙ ap (λ (s : ℕ). 0 * 256 + 0 + s) (word_sum-two 0 protocol [] ∙ ap (λ (s : ℕ). 0 * 256 + protocol + s) word_sum-none)))
    ∙ omega arith

-- a pseudo header in two parts of whole words
parted : (protocol : ℕ) (addresses more bytes : List ℕ) → length addresses % 2 ≡ 0 → length more % 2 ≡ 0 → word_sum more ≡ protocol + length bytes
    → transport_sum protocol addresses bytes ≡ folded (word_sum ((addresses ++ more) ++ bytes))
parted protocol addresses more bytes even whole is =
    let count = length-append addresses more in
    let outer = word_sum-append (addresses ++ more) bytes (omega (arith, count, even, whole)) in
    let inner = word_sum-append addresses more even in
    ap folded (omega (arith, outer, inner, is))

pub over_ipv4 : (protocol : ℕ) (addresses bytes : List ℕ) → length addresses % 2 ≡ 0 → length bytes < 65536
    → transport_sum protocol addresses bytes ≡ folded (word_sum (ipv4_pseudo protocol addresses (length bytes) ++ bytes))
over_ipv4 protocol addresses bytes even small =
    parted protocol addresses (0 ∷ (protocol ∷ big_bytes 2 (length bytes))) bytes even refl (short protocol (length bytes) small)

pub over_ipv6 : (protocol : ℕ) (addresses bytes : List ℕ) → length addresses % 2 ≡ 0 → length bytes < 65536
    → transport_sum protocol addresses bytes ≡ folded (word_sum (ipv6_pseudo protocol addresses (length bytes) ++ bytes))
over_ipv6 protocol addresses bytes even small =
    parted protocol addresses (big_bytes 4 (length bytes) ++ (0 ∷ (0 ∷ (0 ∷ (protocol ∷ []))))) bytes even refl (long protocol (length bytes) small)
