-- Words that entries stand in: what a write to one of them leaves, and words that are 0.
use Rattle.std.proofs.Common.{arith, ◌≡◌, ◌≢◌, ℕ, zero, suc, ◌+◌, ◌*◌, ◌/◌, Bool, true, false, true≢false, List, [], ◌∷◌, Option, Some, None, is_some, replicate, slice_index, refl, sym, ap, ◌∙◌}
use Rattle.std.specs.Option.{unwrap_or}
use Rattle.std.proofs.lemmas.List.{get_or-set_other}
use Rattle.wire_frame.specs.declared.row.Row.{Row}
use Rattle.wire_frame.specs.Row.{is_in, place, words_after}
use Rattle.wire_frame.specs.Bits.{has_bit, two_words}
use Rattle.wire_frame.proofs.BitLemmas.{has_bit_zero}

-- ---- the entry that an offset names, if it names one

pub not_other : (named : Option ℕ) (e y : ℕ) → named ≡ Some e → y ≢ e → named ≢ Some y
not_other named e y is differ = λ this. differ (ap (λ o. unwrap_or o 0) (sym this ∙ is))

pub not_any : (named : Option ℕ) (y : ℕ) → named ≡ None → named ≢ Some y
not_any named y none = λ this. true≢false (ap is_some (sym this ∙ none))

-- ---- words of other entries

word_stays : (row : Row) (words : List ℕ) (offset x i : ℕ) → (is_in row offset ≡ true → i ≢ place row offset) → slice_index words i ≡ slice_index (words_after row words offset x) i
unfolding words_after
word_stays row words offset x i other = go (is_in row offset) refl
  where
    go : (b : Bool) → is_in row offset ≡ b → slice_index words i ≡ slice_index (words_after row words offset x) i
    go true is = rw is (sym (get_or-set_other words (place row offset) i _ 0 (other is)))
    go false is = rw is refl

-- a row with one word an entry
pub one_word_stays : (row : Row) (words : List ℕ) (offset x : ℕ) (named : Option ℕ) → (is_in row offset ≡ true → named ≡ Some (place row offset)) → (e : ℕ) → named ≢ Some e → slice_index words e ≡ slice_index (words_after row words offset x) e
one_word_stays row words offset x named names e other = word_stays row words offset x e (λ is same. other (names is ∙ ap Some (sym same)))

-- a row with two words an entry
pub two_words_stay : (row : Row) (words : List ℕ) (offset x : ℕ) (named : Option ℕ) → (is_in row offset ≡ true → named ≡ Some (place row offset / 2)) → (e : ℕ) → named ≢ Some e → two_words words e ≡ two_words (words_after row words offset x) e
two_words_stay row words offset x named names e other = λ i. stays (2 * e) (omega arith) i ∷ stays (2 * e + 1) (omega arith) i ∷ []
  where
    stays : (w : ℕ) → w / 2 ≡ e → slice_index words w ≡ slice_index (words_after row words offset x) w
    stays w half = word_stays row words offset x w (λ is same. other (names is ∙ ap Some (ap (λ n. n / 2) (sym same) ∙ half)))

-- ---- words that are 0

zero_at : (n i : ℕ) → slice_index (replicate {A = ℕ} n 0) i ≡ 0
zero_at zero i = refl
zero_at (suc n) zero = refl
zero_at (suc n) (suc i) = zero_at n i

pub no_bit_at : (n i k : ℕ) → has_bit (slice_index (replicate {A = ℕ} n 0) i) k ≡ false
no_bit_at n i k = ap (λ w. has_bit w k) (zero_at n i) ∙ has_bit_zero k
