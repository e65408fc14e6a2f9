-- The sum of a pseudo header.
use Rattle.std.proofs.Common.{◌≡◌, ℕ, ◌+◌, ◌-◌, ◌*◌, ◌/◌, ◌%◌, ◌<◌, ◌≤◌, List, [], ◌∷◌, ◌++◌, length, take, drop, refl, sym, ap, ◌∙◌, arith, length-drop}
use Rattle.std.proofs.lemmas.List.{length-take-le}
use Rattle.std.specs.Prelude.{slice_range}
use Rattle.byteorder.specs.Endian.{big_bytes}
use Rattle.internet_checksum.specs.Sum.{word_sum, folded}
use Rattle.internet_checksum.proofs.Adding.{word_sum-append, word_sum-two, word_sum-none}
use Rattle.offload.specs.Segment.{pseudo_header}
use Rattle.offload.specs.Cut.{ip_least}
use Rattle.offload.specs.declared.context.Ip.{Ip}
use Rattle.offload.specs.declared.context.Ip.TheVariants.{V4, V6}

short : (addresses : List ℕ) (behind : ℕ) → length addresses % 2 ≡ 0 → behind < 65536
    → 6 + behind + word_sum addresses ≡ word_sum (addresses ++ (0 ∷ (6 ∷ big_bytes 2 behind)))
short addresses behind even small =
    sym (word_sum-append addresses (0 ∷ (6 ∷ big_bytes 2 behind)) even
    ∙ ap (λ (s : ℕ). word_sum addresses + s)
    (word_sum-two 0 6 (big_bytes 2 behind) ∙ ap (λ (s : ℕ). 0 * 256 + 6 + s) (word_sum-two (behind / 256 % 256) (behind % 256) [] ∙ ap (λ (s : ℕ). behind / 256 % 256 * 256 + behind % 256 + s) word_sum-none))
    ∙ omega arith)

long : (addresses : List ℕ) (behind : ℕ) → length addresses % 2 ≡ 0 → behind < 65536
    → 6 + behind + word_sum addresses ≡ word_sum (addresses ++ (big_bytes 4 behind ++ (0 ∷ (0 ∷ (0 ∷ (6 ∷ []))))))
long addresses behind even small =
    sym (word_sum-append addresses (big_bytes 4 behind ++ (0 ∷ (0 ∷ (0 ∷ (6 ∷ []))))) even
    ∙ ap (λ (s : ℕ). word_sum addresses + s)
    (word_sum-two (behind / 16777216 % 256) (behind / 65536 % 256) (behind / 256 % 256 ∷ (behind % 256 ∷ (0 ∷ (0 ∷ (0 ∷ (6 ∷ []))))))
    ∙ ap (λ (s : ℕ). behind / 16777216 % 256 * 256 + behind / 65536 % 256 + s)
    (word_sum-two (behind / 256 % 256) (behind % 256) (0 ∷ (0 ∷ (0 ∷ (6 ∷ []))))
    ∙ ap (λ (s : ℕ). behind / 256 % 256 * 256 + behind % 256 + s)
    (word_sum-two 0 0 (0 ∷ (6 ∷ [])) ∙ ap (λ (s : ℕ). 0 * 256 + 0 + s) (word_sum-two 0 6 [] ∙ ap (λ (s : ℕ). 0 * 256 + 6 + s) word_sum-none))))
    ∙ omega arith)

pub length-part : (bytes : List ℕ) (from count : ℕ) → from + count ≤ length bytes → length (take count (drop from bytes)) ≡ count
length-part bytes from count fits = length-take-le count (drop from bytes) (omega (arith, length-drop from bytes))

pub pseudo-v4 : (ip : Ip) (header : List ℕ) (behind : ℕ) → ip ≡ V4 → ip_least ip ≤ length header → behind < 65536
    → 6 + behind + word_sum (slice_range header 12 20) ≡ word_sum (pseudo_header ip header behind)
unfolding pseudo_header
pseudo-v4 V4 header behind is fits small =
    short (slice_range header 12 20) behind (ap (λ (n : ℕ). n % 2) (length-part header 12 8 fits)) small
pseudo-v4 V6 header behind is fits small = cc

pub pseudo-v6 : (ip : Ip) (header : List ℕ) (behind : ℕ) → ip ≡ V6 → ip_least ip ≤ length header → behind < 65536
    → 6 + behind + word_sum (slice_range header 8 40) ≡ word_sum (pseudo_header ip header behind)
unfolding pseudo_header
pseudo-v6 V6 header behind is fits small =
    long (slice_range header 8 40) behind (ap (λ (n : ℕ). n % 2) (length-part header 8 32 fits)) small
pseudo-v6 V4 header behind is fits small = cc
