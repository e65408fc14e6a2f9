-- Nothing is lost.
use Rattle.std.proofs.Common.{◌≡◌, ℕ, ◌-◌, ◌^◌, Bool, true, false, eqb, List, [], ◌∷◌, ◌++◌, refl, sym, ap, ◌∙◌, true≢false, append_assoc}
use Rattle.std.proofs.lemmas.Bool.{eqb-true}
use Rattle.std.specs.Prelude.{not, ◌&&◌, ◌||◌, if◌then◌else◌}
use Rattle.transmit_page.specs.declared.words.RingWords.{RingWords}
use Rattle.transmit_page.specs.declared.words.TransmitRegister.{TransmitRegister}
use Rattle.transmit_page.specs.declared.words.TransmitRegister.TheVariants.{BaseLow, BaseHigh, Length, Head, WriteBackLow, WriteBackHigh, Control, Tail}
use Rattle.transmit_page.specs.declared.changes.TransmitWrite.{TransmitWrite}
use Rattle.transmit_page.specs.Words.{word_of, with_word, is_on, turned_off, ENABLE}
use Rattle.transmit_page.specs.Changes.{only_if, write, written, changes, has_changed, has_other_ring, goes_off, comes_on, write_of, switching_off, switching_on, staying, control_and_tail}
use Rattle.transmit_page.specs.Laws.{ComesOnLast}
use Rattle.transmit_page.proofs.Parts.{written_both, and_second}
use Rattle.transmit_page.proofs.Sections.{front_1, front_2, front_3, front_4, front_5, front, off_after_front}

same_word : (words : RingWords) (r : TransmitRegister) → with_word words r (word_of words r) ≡ words
same_word words BaseLow = refl
same_word words BaseHigh = refl
same_word words Length = refl
same_word words Head = refl
same_word words WriteBackLow = refl
same_word words WriteBackHigh = refl
same_word words Control = refl
same_word words Tail = refl

-- a register that has its former word has its word now, whether that was written or is the same
has_its_word : (words was now : RingWords) (r : TransmitRegister) → word_of words r ≡ word_of was r → written words (write_of r was now) ≡ with_word words r (word_of now r)
has_its_word words was now r former = by_test (eqb (word_of was r) (word_of now r)) refl
  where
    by_test : (b : Bool) → eqb (word_of was r) (word_of now r) ≡ b → written words (only_if (not b) r (word_of now r)) ≡ with_word words r (word_of now r)
    by_test false is = refl
    by_test true is = sym (ap (with_word words r) (sym (former ∙ eqb-true (word_of was r) (word_of now r) is)) ∙ same_word words r)

next : (was now s : RingWords) (xs : List TransmitWrite) (r : TransmitRegister) → written was xs ≡ s → word_of s r ≡ word_of was r → written was (xs ++ write_of r was now) ≡ with_word s r (word_of now r)
next was now s xs r is former = written_both was xs (write_of r was now) ∙ ap (λ (w : RingWords). written w (write_of r was now)) is ∙ has_its_word s was now r former

-- the control that a queue has behind its going off, if it does
abbrev control_after : RingWords → RingWords → Bool → ℕ
control_after was now off = if off then turned_off now.control else was.control

-- the words behind all but control and tail
abbrev words_after : RingWords → RingWords → ℕ → RingWords
words_after was now control = record now { control = control; tail = was.tail }

first_written : (was now : RingWords) (off : Bool) → written was (only_if off Control (turned_off now.control)) ≡ record was { control = control_after was now off }
first_written was now true = refl
first_written was now false = refl

front_written : (was now : RingWords) → written was (front was now) ≡ words_after was now (control_after was now (goes_off was now))
front_written was now =
    let s_0 : RingWords = record was { control = control_after was now (goes_off was now) } in
    let s_1 = with_word s_0 BaseLow now.base_low in
    let s_2 = with_word s_1 BaseHigh now.base_high in
    let s_3 = with_word s_2 Length now.length in
    let s_4 = with_word s_3 Head now.head in
    let s_5 = with_word s_4 WriteBackLow now.write_back_low in
    let is_0 = first_written was now (goes_off was now) in
    let is_1 = next was now s_0 (switching_off was now) BaseLow is_0 refl in
    let is_2 = next was now s_1 (front_1 was now) BaseHigh is_1 refl in
    let is_3 = next was now s_2 (front_2 was now) Length is_2 refl in
    let is_4 = next was now s_3 (front_3 was now) Head is_3 refl in
    let is_5 = next was now s_4 (front_4 was now) WriteBackLow is_4 refl in
    next was now s_5 (front_5 was now) WriteBackHigh is_5 refl

-- a queue that went off and doesn't come on is off now
off_now : (p q o : Bool) → (p && (not q || o)) ≡ true → (q && (not p || o)) ≡ false → q ≡ false
off_now p false o goes comes = refl
off_now false true o goes comes = absurd (true≢false (sym goes))
off_now true true true goes comes = absurd (true≢false comes)
off_now true true false goes comes = absurd (true≢false (sym goes))

-- its control, where it doesn't come on
control_written : (was now : RingWords) (off : Bool) → goes_off was now ≡ off → comes_on was now ≡ false
    → written (words_after was now (control_after was now off)) (only_if (not off && has_changed Control was now) Control now.control) ≡ words_after was now now.control
control_written was now false is stays = has_its_word (words_after was now was.control) was now Control refl
control_written was now true is stays =
    ap (λ (b : Bool). words_after was now (if b then now.control - 2 ^ ENABLE else now.control))
    (off_now (is_on was) (is_on now) (has_other_ring was now) is stays)

last_written : (was now : RingWords) (on : Bool) → comes_on was now ≡ on → written (words_after was now (control_after was now (goes_off was now))) (if on then switching_on now else staying was now) ≡ now
last_written was now true is = refl
last_written was now false is =
    let said = only_if (not (goes_off was now) && has_changed Control was now) Control now.control in
    written_both (words_after was now (control_after was now (goes_off was now))) said (write_of Tail was now)
    ∙ ap (λ (w : RingWords). written w (write_of Tail was now)) (control_written was now (goes_off was now) refl is)
    ∙ has_its_word (words_after was now now.control) was now Tail refl

pub all_written : (was now : RingWords) → written was (changes was now) ≡ now
unfolding changes
all_written was now =
    written_both was (front was now) (control_and_tail was now)
    ∙ ap (λ (w : RingWords). written w (control_and_tail was now)) (front_written was now)
    ∙ last_written was now (comes_on was now) refl

-- ---- a queue comes on last

split_on : (was now : RingWords) (on : Bool) → on ≡ true → front was now ++ (if on then switching_on now else staying was now) ≡ (front was now ++ write Tail now.tail ∷ []) ++ write Control now.control ∷ write Tail now.tail ∷ []
split_on was now true is = sym (append_assoc (front was now) (write Tail now.tail ∷ []) (write Control now.control ∷ write Tail now.tail ∷ []))
split_on was now false is = absurd (true≢false (sym is))

pub comes_on_last : (was now : RingWords) → comes_on was now ≡ true → ComesOnLast was now (front was now ++ write Tail now.tail ∷ [])
unfolding changes
comes_on_last was now on =
    let both = written_both was (front was now) (write Tail now.tail ∷ []) in
    record {
      last = split_on was now (comes_on was now) on;
      off = ap is_on both ∙ off_after_front was now (and_second (is_on now) (not (is_on was) || has_other_ring was now) on);
      whole = ap (λ (w : RingWords). with_word w Control now.control) (both ∙ ap (λ (w : RingWords). with_word w Tail now.tail) (front_written was now));
    }
