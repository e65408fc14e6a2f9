-- The messages of two, by their words.
use Rattle.std.proofs.Common.{◌≡◌, ℕ, ◌+◌, ◌*◌, ◌<◌, length, map, sym, ap, ◌∙◌, arith}
use Rattle.std.specs.Prelude.{max, bit_or, slice_index}
use Rattle.std.specs.Int.{bit_at}
use Rattle.std.specs.List.{range_with_len}
use Rattle.std.proofs.lemmas.Nat.Bits.{bit_at_or}
use Rattle.std.proofs.lemmas.List.{same_lists}
use Rattle.std.proofs.lemmas.List.FromFn.{get_or-map-range_with_len, length-map-range_with_len}
use Rattle.irq_causes.specs.Messages.{both, either, mask_at, masks}
use Rattle.irq_causes.specs.Words.{mask_of_pool, bit_zero, bit_one, bit_two}

at_pool : (a b c x y z p : ℕ) → p < 64 → mask_at (bit_or a x) (bit_or b y) (bit_or c z) p ≡ either (slice_index (masks a b c) p) (slice_index (masks x y z) p)
at_pool a b c x y z p below =
    let one : slice_index (masks a b c) p ≡ mask_at a b c p = mask_of_pool a b c p below in
    let two : slice_index (masks x y z) p ≡ mask_at x y z p = mask_of_pool x y z p below in
    (λ i. bit_at_or a x p i + 2 * bit_at_or b y p i + 4 * bit_at_or c z p i)
    ∙ sym (λ i.
    max ((ap (λ m. bit_at m 0) one ∙ bit_zero a b c p) i) ((ap (λ m. bit_at m 0) two ∙ bit_zero x y z p) i)
    + 2 * max ((ap (λ m. bit_at m 1) one ∙ bit_one a b c p) i) ((ap (λ m. bit_at m 1) two ∙ bit_one x y z p) i)
    + 4 * max ((ap (λ m. bit_at m 2) one ∙ bit_two a b c p) i) ((ap (λ m. bit_at m 2) two ∙ bit_two x y z p) i))

pub of_words : (a b c x y z : ℕ) → masks (bit_or a x) (bit_or b y) (bit_or c z) ≡ both (masks a b c) (masks x y z)
unfolding masks both
of_words a b c x y z =
    let f : ℕ → ℕ = mask_at (bit_or a x) (bit_or b y) (bit_or c z) in
    let g : ℕ → ℕ = λ p. either (slice_index (masks a b c) p) (slice_index (masks x y z) p) in
    let many : length (map f (range_with_len 0 64)) ≡ 64 = length-map-range_with_len f 0 64 in
    same_lists (map f (range_with_len 0 64)) (map g (range_with_len 0 64)) (many ∙ sym (length-map-range_with_len g 0 64)) (λ p d h.
    get_or-map-range_with_len f 0 64 p p d (omega (arith, h, many)) (omega arith)
    ∙ at_pool a b c x y z p (omega (arith, h, many))
    ∙ sym (get_or-map-range_with_len g 0 64 p p d (omega (arith, h, many)) (omega arith)))
