-- A flag of one bit is in a word exactly where the word has the bit, and what a write to one word leaves of the masks.
use Rattle.std.proofs.Common.{arith, ◌≡◌, ℕ, zero, suc, ◌*◌, ◌%◌, ◌^◌, ◌<◌, Bool, true, false, ◌||◌, List, Option, Some, None, replicate, slice_index, bit_and, bit_or, refl, sym, ap, ◌∙◌, eqb, eqb-true, if◌then◌else◌}
use Rattle.std.specs.Int.{bit_at, bit_not, w64}
use Rattle.std.proofs.Math.Bool.{or-true, or-false}
use Rattle.std.proofs.lemmas.Bool.{eqb-false}
use Rattle.std.proofs.lemmas.Bool.Decides.{nat_tests}
use Rattle.std.proofs.lemmas.Nat.Bits.{and_pow, bit_at-lt, bit_at_clear_same, bit_at_clear_other}
use Rattle.wire_frame.specs.Bits.{has_bit}
use Rattle.wire_frame.specs.Row.{is_in, place, words_after}
use Rattle.wire_frame.proofs.BitLemmas.{has_bit_set, has_bit_zero}
use Rattle.pool_index.proofs.WordLemmas.{one_word_stays, no_bit_at, not_other, not_any}
use Rattle.pool_filter.specs.Flags.{has_flags, IsFlagMask}
use Rattle.pool_filter.specs.Registers.{VMOLR}

one_bit : (b m : ℕ) → b < 2 → 0 < m → eqb (b * m) m ≡ eqb b 1
one_bit zero m h k = grind (arith, nat_tests)
one_bit (suc zero) m h k = grind (arith, nat_tests)
one_bit (suc (suc b)) m h k = absurd (omega arith)

has_flag : (word bit : ℕ) → 0 < 2 ^ bit → has_flags word (2 ^ bit) ≡ has_bit word bit
unfolding has_bit
has_flag word bit some = ap (λ n. eqb n (2 ^ bit)) (and_pow word bit) ∙ one_bit (bit_at word bit) (2 ^ bit) (bit_at-lt word bit) some

pub flag_24 : (word : ℕ) → has_flags word 0x1000000 ≡ has_bit word 24
flag_24 word = has_flag word 24 (omega arith)

pub flag_25 : (word : ℕ) → has_flags word 0x2000000 ≡ has_bit word 25
flag_25 word = has_flag word 25 (omega arith)

pub flag_27 : (word : ℕ) → has_flags word 0x8000000 ≡ has_bit word 27
flag_27 word = has_flag word 27 (omega arith)

pub flag_28 : (word : ℕ) → has_flags word 0x10000000 ≡ has_bit word 28
flag_28 word = has_flag word 28 (omega arith)

-- ---- one pool's bit in a mask

pub pool_put : (pools k p : ℕ) → k < 64 → has_bit (bit_or pools (1 * 2 ^ k % 18446744073709551616)) p ≡ (if eqb k p then true else has_bit pools p)
pool_put pools k p h = has_bit_set pools k p h ∙ go (eqb k p) refl
  where
    go : (b : Bool) → eqb k p ≡ b → (has_bit pools p || eqb k p) ≡ (if eqb k p then true else has_bit pools p)
    go true is = rw is (or-true (has_bit pools p))
    go false is = rw is (or-false (has_bit pools p))

pub pool_taken : (pools k p : ℕ) → k < 64 → p < 64 → has_bit (bit_and pools (bit_not w64 (1 * 2 ^ k % 18446744073709551616))) p ≡ (if eqb k p then false else has_bit pools p)
unfolding has_bit
pool_taken pools k p h l = go (eqb k p) refl
  where
    go : (b : Bool) → eqb k p ≡ b → eqb (bit_at (bit_and pools (bit_not w64 (1 * 2 ^ k % 18446744073709551616))) p) 1 ≡ (if eqb k p then false else eqb (bit_at pools p) 1)
    go true is = let same : k ≡ p = eqb-true k p is in rw (is, ← same) (ap (λ v. eqb v 1) (bit_at_clear_same w64 pools k h))
    go false is = rw is (ap (λ v. eqb v 1) (bit_at_clear_other w64 pools k h p l (λ same. eqb-false k p is (sym same))))

-- ---- a write to the word of one pool

-- the offset names no pool's word but this
abbrev NamesPool : ℕ → Option ℕ → Type 0
NamesPool offset named = is_in VMOLR offset ≡ true → named ≡ Some (place VMOLR offset)

pub mask_stays : (bit mask : ℕ) (words : List ℕ) (offset x : ℕ) (named : Option ℕ) → NamesPool offset named → named ≡ None → IsFlagMask bit mask words → IsFlagMask bit mask (words_after VMOLR words offset x)
mask_stays bit mask words offset x named names none says p h =
    says p h ∙ ap (λ w. has_bit w bit) (one_word_stays VMOLR words offset x named names p (not_any named p none))

pub mask_follows : (bit old new : ℕ) (words : List ℕ) (offset x : ℕ) (named : Option ℕ) → NamesPool offset named → (pool : ℕ) → named ≡ Some pool → (has : Bool) → has ≡ has_bit (slice_index (words_after VMOLR words offset x) pool) bit → ((p : ℕ) → p < 64 → has_bit new p ≡ (if eqb pool p then has else has_bit old p)) → IsFlagMask bit old words → IsFlagMask bit new (words_after VMOLR words offset x)
mask_follows bit old new words offset x named names pool is has tested changed says p h = changed p h ∙ go (eqb pool p) refl
  where
    go : (b : Bool) → eqb pool p ≡ b → (if eqb pool p then has else has_bit old p) ≡ has_bit (slice_index (words_after VMOLR words offset x) p) bit
    go true here = rw here (tested ∙ ap (λ q. has_bit (slice_index (words_after VMOLR words offset x) q) bit) (eqb-true pool p here))
    go false there = rw there (says p h ∙ ap (λ w. has_bit w bit) (one_word_stays VMOLR words offset x named names p (not_other named pool p is (λ same. eqb-false pool p there (sym same)))))

pub no_pool : (bit : ℕ) → IsFlagMask bit 0 (replicate 64 0)
no_pool bit p h = has_bit_zero p ∙ sym (no_bit_at 64 p bit)
