-- A queue is off where its ring is set, and before it comes on.
use Rattle.std.proofs.Common.{◌≡◌, ℕ, ◌-◌, ◌^◌, Bool, true, false, List, ◌++◌, refl, sym, ap, ◌∙◌, true≢false, arith}
use Rattle.std.proofs.lemmas.Bool.Decides.{nat_tests}
use Rattle.std.specs.Prelude.{not, ◌&&◌, ◌||◌, if◌then◌else◌}
use Rattle.transmit_page.specs.declared.words.RingWords.{RingWords}
use Rattle.transmit_page.specs.declared.words.TransmitRegister.{TransmitRegister}
use Rattle.transmit_page.specs.declared.words.TransmitRegister.TheVariants.{BaseLow, BaseHigh, Length, Head, WriteBackLow, WriteBackHigh, Control, Tail}
use Rattle.transmit_page.specs.declared.changes.TransmitWrite.{TransmitWrite}
use Rattle.transmit_page.specs.Words.{with_word, is_on, is_on_word, turned_off, ENABLE}
use Rattle.transmit_page.specs.Changes.{only_if, written, switching_off, has_other_ring}
use Rattle.transmit_page.proofs.Parts.{written_both}

pub turned_off_is_off : (c : ℕ) → is_on_word (turned_off c) ≡ false
turned_off_is_off c = by_test (is_on_word c) refl
  where
    by_test : (b : Bool) → is_on_word c ≡ b → is_on_word (if b then c - 2 ^ ENABLE else c) ≡ false
    by_test true is = grind (arith, nat_tests)
    by_test false is = is

-- it goes off first, where it was on and has another ring
off_by : (was : RingWords) (x : ℕ) (p q o : Bool) → is_on_word x ≡ false → is_on was ≡ p → (not p || o) ≡ true → is_on (written was (only_if (p && (not q || o)) Control x)) ≡ false
off_by was x false q o off is reason = is
off_by was x true true true off is reason = off
off_by was x true false true off is reason = off
off_by was x true q false off is reason = absurd (true≢false (sym reason))

pub goes_off_first : (was now : RingWords) → (not (is_on was) || has_other_ring was now) ≡ true → is_on (written was (switching_off was now)) ≡ false
goes_off_first was now reason = off_by was (turned_off now.control) (is_on was) (is_on now) (has_other_ring was now) (turned_off_is_off now.control) refl reason

-- ---- and stays off

abbrev pub is_control : TransmitRegister → Bool
is_control BaseLow = false
is_control BaseHigh = false
is_control Length = false
is_control Head = false
is_control WriteBackLow = false
is_control WriteBackHigh = false
is_control Control = true
is_control Tail = false

same_control : (words : RingWords) (r : TransmitRegister) (x : ℕ) → is_control r ≡ false → is_on (with_word words r x) ≡ is_on words
same_control words BaseLow x other = refl
same_control words BaseHigh x other = refl
same_control words Length x other = refl
same_control words Head x other = refl
same_control words WriteBackLow x other = refl
same_control words WriteBackHigh x other = refl
same_control words Control x other = absurd (true≢false other)
same_control words Tail x other = refl

same_after : (words : RingWords) (b : Bool) (r : TransmitRegister) (x : ℕ) → is_control r ≡ false → is_on (written words (only_if b r x)) ≡ is_on words
same_after words true r x other = same_control words r x other
same_after words false r x other = refl

pub stays_off : (was : RingWords) (xs : List TransmitWrite) (b : Bool) (r : TransmitRegister) (x : ℕ) → is_control r ≡ false → is_on (written was xs) ≡ false → is_on (written was (xs ++ only_if b r x)) ≡ false
stays_off was xs b r x other off = ap is_on (written_both was xs (only_if b r x)) ∙ same_after (written was xs) b r x other ∙ off
