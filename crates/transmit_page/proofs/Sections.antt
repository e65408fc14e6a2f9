-- What holds along the changes of a queue, from what holds of each of their sections.
use Rattle.std.proofs.Common.{◌≡◌, true, false, List, ◌++◌, refl}
use Rattle.std.specs.Prelude.{not, ◌&&◌, ◌||◌}
use Rattle.transmit_page.specs.declared.words.RingWords.{RingWords}
use Rattle.transmit_page.specs.declared.words.TransmitRegister.{TransmitRegister}
use Rattle.transmit_page.specs.declared.words.TransmitRegister.TheVariants.{BaseLow, BaseHigh, Length, Head, WriteBackLow, WriteBackHigh, Control, Tail}
use Rattle.transmit_page.specs.declared.changes.TransmitWrite.{TransmitWrite}
use Rattle.transmit_page.specs.Words.{word_of, is_on, turned_off}
use Rattle.transmit_page.specs.Changes.{write, written, changes, has_changed, has_other_ring, goes_off, comes_on, write_of, switching_off, switching_on, staying, control_and_tail}
use Rattle.transmit_page.proofs.Parts.{Along, along_both, along_only_if, along_choice, or_second, and_second}
use Rattle.transmit_page.proofs.Off.{goes_off_first, is_control, stays_off}

-- the changes but for control and tail
abbrev pub front_1 : RingWords → RingWords → List TransmitWrite
front_1 was now = switching_off was now ++ write_of BaseLow was now

abbrev pub front_2 : RingWords → RingWords → List TransmitWrite
front_2 was now = front_1 was now ++ write_of BaseHigh was now

abbrev pub front_3 : RingWords → RingWords → List TransmitWrite
front_3 was now = front_2 was now ++ write_of Length was now

abbrev pub front_4 : RingWords → RingWords → List TransmitWrite
front_4 was now = front_3 was now ++ write_of Head was now

abbrev pub front_5 : RingWords → RingWords → List TransmitWrite
front_5 was now = front_4 was now ++ write_of WriteBackLow was now

abbrev pub front : RingWords → RingWords → List TransmitWrite
front was now = front_5 was now ++ write_of WriteBackHigh was now

-- a queue that was off, or has another ring, is off behind each of them
abbrev pub IsOffAfter : RingWords → RingWords → List TransmitWrite → Type 0
IsOffAfter was now xs = (not (is_on was) || has_other_ring was now) ≡ true → is_on (written was xs) ≡ false

pub off_after : (was now : RingWords) (xs : List TransmitWrite) (r : TransmitRegister) → is_control r ≡ false → IsOffAfter was now xs → IsOffAfter was now (xs ++ write_of r was now)
off_after was now xs r other before reason = stays_off was xs (has_changed r was now) r (word_of now r) other (before reason)

pub off_after_front : (was now : RingWords) → IsOffAfter was now (front was now)
off_after_front was now =
    let off_0 = goes_off_first was now in
    let off_1 = off_after was now (switching_off was now) BaseLow refl off_0 in
    let off_2 = off_after was now (front_1 was now) BaseHigh refl off_1 in
    let off_3 = off_after was now (front_2 was now) Length refl off_2 in
    let off_4 = off_after was now (front_3 was now) Head refl off_3 in
    let off_5 = off_after was now (front_4 was now) WriteBackLow refl off_4 in
    off_after was now (front_5 was now) WriteBackHigh refl off_5

module _ (P : RingWords → TransmitWrite → Type 0) (was now : RingWords)
    (off : goes_off was now ≡ true → P was (write Control (turned_off now.control)))
    (set : (r : TransmitRegister) (words : RingWords) → is_control r ≡ false → (has_other_ring was now ≡ true → is_on words ≡ false) → has_changed r was now ≡ true → P words (write r (word_of now r)))
    (on_tail : (words : RingWords) → comes_on was now ≡ true → P words (write Tail now.tail))
    (on_control : (words : RingWords) → comes_on was now ≡ true → P words (write Control now.control))
    (control : (words : RingWords) → has_changed Control was now ≡ true → P words (write Control now.control))
    (tail : (words : RingWords) → has_changed Tail was now ≡ true → P words (write Tail now.tail)) where
  more : (xs : List TransmitWrite) (r : TransmitRegister) → is_control r ≡ false → IsOffAfter was now xs → Along P was xs → Along P was (xs ++ write_of r was now)
  more xs r other off_then before =
      along_both P was xs (write_of r was now) before
      (along_only_if P (written was xs) (has_changed r was now) r (word_of now r)
      (set r (written was xs) other (λ ring. off_then (or_second (not (is_on was)) (has_other_ring was now) ring))))

  along_front : Along P was (front was now)
  along_front =
      let off_0 = goes_off_first was now in
      let off_1 = off_after was now (switching_off was now) BaseLow refl off_0 in
      let off_2 = off_after was now (front_1 was now) BaseHigh refl off_1 in
      let off_3 = off_after was now (front_2 was now) Length refl off_2 in
      let off_4 = off_after was now (front_3 was now) Head refl off_3 in
      let off_5 = off_after was now (front_4 was now) WriteBackLow refl off_4 in
      let first = along_only_if P was (goes_off was now) Control (turned_off now.control) off in
      let to_1 = more (switching_off was now) BaseLow refl off_0 first in
      let to_2 = more (front_1 was now) BaseHigh refl off_1 to_1 in
      let to_3 = more (front_2 was now) Length refl off_2 to_2 in
      let to_4 = more (front_3 was now) Head refl off_3 to_3 in
      let to_5 = more (front_4 was now) WriteBackLow refl off_4 to_4 in
      more (front_5 was now) WriteBackHigh refl off_5 to_5

  along_staying : (words : RingWords) → Along P words (staying was now)
  along_staying words =
      let said = not (goes_off was now) && has_changed Control was now in
      let first = along_only_if P words said Control now.control (λ is. control words (and_second (not (goes_off was now)) (has_changed Control was now) is)) in
      along_both P words _ (write_of Tail was now) first
      (along_only_if P _ (has_changed Tail was now) Tail now.tail (tail _))

  along_last : (words : RingWords) → Along P words (control_and_tail was now)
  along_last words =
      along_choice P words (comes_on was now) (switching_on now) (staying was now)
      (λ on. (on_tail _ on, (on_control _ on, (on_tail _ on, tt))))
      (λ stays. along_staying words)

  pub along_changes : Along P was (changes was now)
  unfolding changes
  along_changes = along_both P was (front was now) (control_and_tail was now) along_front (along_last (written was (front was now)))
