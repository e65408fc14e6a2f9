-- There are few writes.
use Rattle.std.proofs.Common.{◌≡◌, ℕ, ◌+◌, ◌≤◌, Bool, true, false, List, [], ◌++◌, length, refl, ap, ◌∙◌, arith, length-append}
use Rattle.std.proofs.lemmas.Bool.{eq-eqb}
use Rattle.std.specs.Prelude.{not, ◌&&◌, ◌||◌, if◌then◌else◌}
use Rattle.transmit_page.specs.declared.words.RingWords.{RingWords}
use Rattle.transmit_page.specs.declared.words.TransmitRegister.{TransmitRegister}
use Rattle.transmit_page.specs.declared.words.TransmitRegister.TheVariants.{BaseLow, BaseHigh, Length, Head, WriteBackLow, WriteBackHigh, Control, Tail}
use Rattle.transmit_page.specs.declared.changes.TransmitWrite.{TransmitWrite}
use Rattle.transmit_page.specs.Words.{word_of, is_on, turned_off}
use Rattle.transmit_page.specs.Changes.{only_if, changes, has_changed, has_other_ring, goes_off, comes_on, write_of, switching_off, switching_on, staying, control_and_tail}
use Rattle.transmit_page.proofs.Sections.{front_1, front_2, front_3, front_4, front_5, front}

one : (b : Bool) (r : TransmitRegister) (x : ℕ) → length (only_if b r x) ≤ 1
one true r x = omega arith
one false r x = omega arith

longer : (m : ℕ) (xs ys : List TransmitWrite) → length xs ≤ m → length ys ≤ 1 → length (xs ++ ys) ≤ m + 1
longer m xs ys first second = omega (arith, length-append xs ys, first, second)

of_one : (was now : RingWords) (r : TransmitRegister) → length (write_of r was now) ≤ 1
of_one was now r = one (has_changed r was now) r (word_of now r)

front_few : (was now : RingWords) → length (front was now) ≤ 7
front_few was now =
    let first = one (goes_off was now) Control (turned_off now.control) in
    let to_1 = longer 1 (switching_off was now) (write_of BaseLow was now) first (of_one was now BaseLow) in
    let to_2 = longer 2 (front_1 was now) (write_of BaseHigh was now) to_1 (of_one was now BaseHigh) in
    let to_3 = longer 3 (front_2 was now) (write_of Length was now) to_2 (of_one was now Length) in
    let to_4 = longer 4 (front_3 was now) (write_of Head was now) to_3 (of_one was now Head) in
    let to_5 = longer 5 (front_4 was now) (write_of WriteBackLow was now) to_4 (of_one was now WriteBackLow) in
    longer 6 (front_5 was now) (write_of WriteBackHigh was now) to_5 (of_one was now WriteBackHigh)

last_few : (was now : RingWords) (on : Bool) → length (if on then switching_on now else staying was now) ≤ 3
last_few was now true = omega arith
last_few was now false =
    let said = only_if (not (goes_off was now) && has_changed Control was now) Control now.control in
    let first = one (not (goes_off was now) && has_changed Control was now) Control now.control in
    omega (arith, longer 1 said (write_of Tail was now) first (of_one was now Tail))

pub at_most_ten : (was now : RingWords) → length (changes was now) ≤ 10
unfolding changes
at_most_ten was now =
    omega (arith, length-append (front was now) (control_and_tail was now), front_few was now, last_few was now (comes_on was now))

-- ---- none where nothing has changed

unchanged : (words : RingWords) (r : TransmitRegister) → has_changed r words words ≡ false
unchanged words r = ap not (eq-eqb (word_of words r) (word_of words r) refl)

no_write : (words : RingWords) (r : TransmitRegister) → write_of r words words ≡ []
no_write words r = ap (λ (b : Bool). only_if b r (word_of words r)) (unchanged words r)

or_none : (a b : Bool) → a ≡ false → b ≡ false → (a || b) ≡ false
or_none true b first second = first
or_none false b first second = second

same_ring : (words : RingWords) → has_other_ring words words ≡ false
same_ring words =
    or_none _ _ (unchanged words BaseLow) (or_none _ _ (unchanged words BaseHigh) (or_none _ _ (unchanged words Length) (unchanged words Head)))

no_turn : (p o : Bool) → o ≡ false → (p && (not p || o)) ≡ false
no_turn true o none = none
no_turn false o none = refl

no_off : (words : RingWords) → switching_off words words ≡ []
no_off words = ap (λ (b : Bool). only_if b Control (turned_off words.control)) (no_turn (is_on words) (has_other_ring words words) (same_ring words))

both_empty : (xs ys : List TransmitWrite) → xs ≡ [] → ys ≡ [] → xs ++ ys ≡ []
both_empty xs ys first second = ap (λ (zs : List TransmitWrite). zs ++ ys) first ∙ second

no_last : (words : RingWords) (off on : Bool) → on ≡ false → (if on then switching_on words else staying words words) ≡ []
no_last words off on stays =
    ap (λ (b : Bool). if b then switching_on words else staying words words) stays
    ∙ both_empty (only_if (not (goes_off words words) && has_changed Control words words) Control words.control) (write_of Tail words words)
    (ap (λ (b : Bool). only_if b Control words.control) (and_none (not (goes_off words words)) (has_changed Control words words) (unchanged words Control)))
    (no_write words Tail)
  where
    and_none : (a b : Bool) → b ≡ false → (a && b) ≡ false
    and_none true b none = none
    and_none false b none = refl

pub none_unchanged : (words : RingWords) → changes words words ≡ []
unfolding changes
none_unchanged words =
    let to_1 = both_empty (switching_off words words) (write_of BaseLow words words) (no_off words) (no_write words BaseLow) in
    let to_2 = both_empty (front_1 words words) (write_of BaseHigh words words) to_1 (no_write words BaseHigh) in
    let to_3 = both_empty (front_2 words words) (write_of Length words words) to_2 (no_write words Length) in
    let to_4 = both_empty (front_3 words words) (write_of Head words words) to_3 (no_write words Head) in
    let to_5 = both_empty (front_4 words words) (write_of WriteBackLow words words) to_4 (no_write words WriteBackLow) in
    let to_6 = both_empty (front_5 words words) (write_of WriteBackHigh words words) to_5 (no_write words WriteBackHigh) in
    both_empty (front words words) (control_and_tail words words) to_6
    (no_last words (goes_off words words) (comes_on words words) (no_turn (is_on words) (has_other_ring words words) (same_ring words)))
