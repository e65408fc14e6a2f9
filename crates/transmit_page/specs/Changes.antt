-- What a driver did with a queue of which the words are known before and after, as writes of its registers. A queue's base, length and head
-- are set while it is off; then it is turned on; its tail is moved last (82599 datasheet, 4.6.8 and 7.2).
use Rattle.std.specs.Prelude.{ℕ, Bool, not, ◌&&◌, ◌||◌, ◌==◌, List, [], ◌∷◌, ◌++◌, if◌then◌else◌}
use Rattle.transmit_page.specs.declared.words.RingWords.{RingWords}
use Rattle.transmit_page.specs.declared.words.TransmitRegister.{TransmitRegister}
use Rattle.transmit_page.specs.declared.words.TransmitRegister.TheVariants.{BaseLow, BaseHigh, Length, Head, WriteBackLow, WriteBackHigh, Control, Tail}
use Rattle.transmit_page.specs.declared.changes.TransmitWrite.{TransmitWrite}
use Rattle.transmit_page.specs.Words.{word_of, with_word, is_on, turned_off}

abbrev pub write : TransmitRegister → ℕ → TransmitWrite
write r x = record { register = r; value = x }

-- a write, where the test holds
abbrev pub only_if : Bool → TransmitRegister → ℕ → List TransmitWrite
only_if test r x = if test then write r x ∷ [] else []

-- ---- what has changed

abbrev pub has_changed : TransmitRegister → RingWords → RingWords → Bool
has_changed r was now = not (word_of was r == word_of now r)

-- its base, its length or its head has, which a queue takes only while it is off
abbrev pub has_other_ring : RingWords → RingWords → Bool
has_other_ring was now = has_changed BaseLow was now || (has_changed BaseHigh was now || (has_changed Length was now || has_changed Head was now))

-- the queue was on, and then off: it is off now, or another ring was set
abbrev pub goes_off : RingWords → RingWords → Bool
goes_off was now = is_on was && (not (is_on now) || has_other_ring was now)

-- the queue is on, and was off before that
abbrev pub comes_on : RingWords → RingWords → Bool
comes_on was now = is_on now && (not (is_on was) || has_other_ring was now)

-- ---- the writes, in their order

-- the word of a register, where it has changed
abbrev pub write_of : TransmitRegister → RingWords → RingWords → List TransmitWrite
write_of r was now = only_if (has_changed r was now) r (word_of now r)

-- a queue goes off before anything else is written
abbrev pub switching_off : RingWords → RingWords → List TransmitWrite
switching_off was now = only_if (goes_off was now) Control (turned_off now.control)

-- it comes on with its tail at one of its descriptors, and its tail is moved while it is on
abbrev pub switching_on : RingWords → List TransmitWrite
switching_on now = write Tail now.tail ∷ write Control now.control ∷ write Tail now.tail ∷ []

-- it doesn't come on: its control, where that wasn't said yet, and its tail
abbrev pub staying : RingWords → RingWords → List TransmitWrite
staying was now = only_if (not (goes_off was now) && has_changed Control was now) Control now.control ++ write_of Tail was now

abbrev pub control_and_tail : RingWords → RingWords → List TransmitWrite
control_and_tail was now = if comes_on was now then switching_on now else staying was now

unfoldable pub changes : RingWords → RingWords → List TransmitWrite
changes was now =
    switching_off was now
    ++ write_of BaseLow was now
    ++ write_of BaseHigh was now
    ++ write_of Length was now
    ++ write_of Head was now
    ++ write_of WriteBackLow was now
    ++ write_of WriteBackHigh was now
    ++ control_and_tail was now

-- ---- what they do

-- the words after writes, in their order
abbrev pub written : RingWords → List TransmitWrite → RingWords
written words [] = words
written words (w ∷ ws) = written (with_word words w.register w.value) ws
