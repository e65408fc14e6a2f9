-- The registers of the transmit queues 0 and 1 of a virtual function (82599 datasheet, 8.3: device registers of a virtual function), and
-- their words.
use Rattle.std.specs.Prelude.{ℕ, ◌+◌, ◌-◌, ◌*◌, ◌^◌, Bool, ◌==◌, List, [], ◌∷◌, Option, Some, None, if◌then◌else◌}
use Rattle.std.specs.Int.{bit_at}
use Rattle.transmit_page.specs.declared.words.RingWords.{RingWords}
use Rattle.transmit_page.specs.declared.words.TransmitRegister.{TransmitRegister}
use Rattle.transmit_page.specs.declared.words.TransmitRegister.TheVariants.{BaseLow, BaseHigh, Length, Head, WriteBackLow, WriteBackHigh, Control, Tail}

-- ---- words

-- the words of a queue that nothing was done with
abbrev pub no_words : RingWords
no_words = record { base_low = 0; base_high = 0; length = 0; head = 0; write_back_low = 0; write_back_high = 0; control = 0; tail = 0 }

-- the word of a register
abbrev pub word_of : RingWords → TransmitRegister → ℕ
word_of words BaseLow = words.base_low
word_of words BaseHigh = words.base_high
word_of words Length = words.length
word_of words Head = words.head
word_of words WriteBackLow = words.write_back_low
word_of words WriteBackHigh = words.write_back_high
word_of words Control = words.control
word_of words Tail = words.tail

-- the words with another one for a register
abbrev pub with_word : RingWords → TransmitRegister → ℕ → RingWords
with_word words BaseLow x = record words { base_low = x }
with_word words BaseHigh x = record words { base_high = x }
with_word words Length x = record words { length = x }
with_word words Head x = record words { head = x }
with_word words WriteBackLow x = record words { write_back_low = x }
with_word words WriteBackHigh x = record words { write_back_high = x }
with_word words Control x = record words { control = x }
with_word words Tail x = record words { tail = x }

-- ENABLE, of TXDCTL: the queue is on
abbrev pub ENABLE : ℕ
ENABLE = 25

abbrev pub is_on_word : ℕ → Bool
is_on_word control = bit_at control ENABLE == 1

abbrev pub is_on : RingWords → Bool
is_on words = is_on_word words.control

-- the same word of TXDCTL for a queue that is off
abbrev pub turned_off : ℕ → ℕ
turned_off control = if is_on_word control then control - 2 ^ ENABLE else control

-- ---- places

-- where the registers of queue 0 begin in BAR 0, and how far those of a queue stand behind those of the queue before it
abbrev pub FIRST : ℕ
FIRST = 0x2000

abbrev pub STRIDE : ℕ
STRIDE = 0x40

-- how many bytes behind the first of its queue a register stands
abbrev pub place_of : TransmitRegister → ℕ
place_of BaseLow = 0x0  -- TDBAL
place_of BaseHigh = 0x4  -- TDBAH
place_of Length = 0x8  -- TDLEN
place_of Head = 0x10  -- TDH
place_of Tail = 0x18  -- TDT
place_of Control = 0x28  -- TXDCTL
place_of WriteBackLow = 0x38  -- TDWBAL
place_of WriteBackHigh = 0x3C  -- TDWBAH

abbrev pub offset_of : ℕ → TransmitRegister → ℕ
offset_of queue register = FIRST + STRIDE * queue + place_of register

abbrev pub registers : List TransmitRegister
registers = BaseLow ∷ BaseHigh ∷ Length ∷ Head ∷ Tail ∷ Control ∷ WriteBackLow ∷ WriteBackHigh ∷ []

-- the first of those registers of a queue that stands at an offset, and else what is found elsewhere
abbrev pub found_in : List TransmitRegister → ℕ → ℕ → Option (ℕ × TransmitRegister) → Option (ℕ × TransmitRegister)
found_in [] queue offset elsewhere = elsewhere
found_in (r ∷ rs) queue offset elsewhere = if offset == offset_of queue r then Some (queue, r) else found_in rs queue offset elsewhere

-- the queue and the register that stand at an offset
unfoldable pub register_at : ℕ → Option (ℕ × TransmitRegister)
register_at offset = found_in registers 0 offset (found_in registers 1 offset None)
