-- The words of the laws on the writes that a queue's changes are.
use Rattle.std.specs.Prelude.{◌≡◌, Bool, true, false, ◌||◌, List, [], ◌∷◌, ◌++◌, ◌⊎◌}
use Rattle.transmit_page.specs.declared.words.RingWords.{RingWords}
use Rattle.transmit_page.specs.declared.words.TransmitRegister.{TransmitRegister}
use Rattle.transmit_page.specs.declared.words.TransmitRegister.TheVariants.{BaseLow, BaseHigh, Length, Head, WriteBackLow, WriteBackHigh, Control, Tail}
use Rattle.transmit_page.specs.declared.changes.TransmitWrite.{TransmitWrite}
use Rattle.transmit_page.specs.Words.{word_of, with_word, is_on, turned_off}
use Rattle.transmit_page.specs.Changes.{changes, written, write, has_changed, goes_off, comes_on}

-- the base, the length and the head, which a queue takes only while it is off
abbrev pub is_of_ring : TransmitRegister → Bool
is_of_ring BaseLow = true
is_of_ring BaseHigh = true
is_of_ring Length = true
is_of_ring Head = true
is_of_ring WriteBackLow = false
is_of_ring WriteBackHigh = false
is_of_ring Control = false
is_of_ring Tail = false

-- one of the changes, with those before it and those behind it
abbrev pub IsAmong : RingWords → RingWords → List TransmitWrite → TransmitWrite → List TransmitWrite → Type 0
IsAmong was now before w behind = changes was now ≡ before ++ w ∷ behind

-- there is a reason to write a register: its word has changed; the queue goes off or comes on, for its control; it comes on, for its tail
abbrev pub has_reason : TransmitRegister → RingWords → RingWords → Bool
has_reason Control was now = has_changed Control was now || (goes_off was now || comes_on was now)
has_reason Tail was now = has_changed Tail was now || comes_on was now
has_reason r was now = has_changed r was now

-- what is written is the register's word now; but a queue that goes off is told so by its control
abbrev pub IsItsWord : RingWords → RingWords → TransmitWrite → Type 0
IsItsWord was now w =
    (w.value ≡ word_of now w.register)
    ⊎ ((goes_off was now ≡ true) × (w.register ≡ Control) × (w.value ≡ turned_off now.control))

-- a queue comes on as the last but its tail: it is off before that, and its words are all but its control what they are now
pub record ComesOnLast (was now : RingWords) (before : List TransmitWrite) : Type 0 where
  pub last : changes was now ≡ before ++ write Control now.control ∷ write Tail now.tail ∷ []
  pub off : is_on (written was before) ≡ false
  pub whole : with_word (written was before) Control now.control ≡ now
