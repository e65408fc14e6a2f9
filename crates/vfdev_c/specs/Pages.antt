-- The page of a function's transmit registers, as C sees it.
use Rattle.std.specs.Prelude.{ℕ, ◌+◌, Bool, false, ◌==◌, nat_lt, List, [], ◌∷◌, ◌++◌, map, length, drop, slice_index, slice_index_or, Option, Some, None, if◌then◌else◌}
use Rattle.transmit_page.specs.declared.words.RingWords.{RingWords}
use Rattle.transmit_page.specs.declared.words.TransmitRegister.{TransmitRegister}
use Rattle.transmit_page.specs.declared.words.TransmitRegister.TheVariants.{BaseLow, BaseHigh, Length, Head, WriteBackLow, WriteBackHigh, Control, Tail}
use Rattle.transmit_page.specs.declared.changes.TransmitWrite.{TransmitWrite}
use Rattle.transmit_page.specs.declared.messages.Touched.{Touched}
use Rattle.transmit_page.specs.declared.messages.Touched.TheVariants.{Nothing, One, All}
use Rattle.transmit_page.specs.Words.{offset_of}
use Rattle.transmit_page.specs.Changes.{changes}
use Rattle.vfdev_c.specs.declared.page.VfdevRegisterWrite.{VfdevRegisterWrite}
use Rattle.vfdev_c.specs.declared.page.VfdevPageTouched.{VfdevPageTouched}

-- a queue's words, of a list of eight
abbrev pub words_of : List ℕ → RingWords
words_of ws = record {
  base_low = slice_index ws 0;
  base_high = slice_index ws 1;
  length = slice_index ws 2;
  head = slice_index ws 3;
  write_back_low = slice_index ws 4;
  write_back_high = slice_index ws 5;
  control = slice_index ws 6;
  tail = slice_index ws 7;
}

-- the place of a register among them
abbrev pub place_of : TransmitRegister → ℕ
place_of BaseLow = 0
place_of BaseHigh = 1
place_of Length = 2
place_of Head = 3
place_of WriteBackLow = 4
place_of WriteBackHigh = 5
place_of Control = 6
place_of Tail = 7

-- the register of those whose place is a number
abbrev pub numbered_in : List TransmitRegister → ℕ → Option TransmitRegister
numbered_in [] place = None
numbered_in (r ∷ rs) place = if place == place_of r then Some r else numbered_in rs place

abbrev pub register_numbered : ℕ → Option TransmitRegister
register_numbered place = numbered_in (BaseLow ∷ BaseHigh ∷ Length ∷ Head ∷ WriteBackLow ∷ WriteBackHigh ∷ Control ∷ Tail ∷ []) place

abbrev pub offset_for : ℕ → Option TransmitRegister → ℕ
offset_for queue None = 0
offset_for queue (Some r) = if nat_lt queue 2 then offset_of queue r else 0

-- where the register at a place of a queue stands, 0 where there is none
abbrev pub offset_at : ℕ → ℕ → ℕ
offset_at queue place = offset_for queue (register_numbered place)

-- ---- changes

abbrev pub shown : ℕ → TransmitWrite → VfdevRegisterWrite
shown queue w = record { offset = offset_of queue w.register; value = w.value }

-- the changes of a queue by its number: none where there is no such queue
abbrev pub changes_on : ℕ → List ℕ → List ℕ → List VfdevRegisterWrite
changes_on queue was now = if nat_lt queue 2 then map (shown queue) (changes (words_of was) (words_of now)) else []

-- writes at the front of a room, whose rest stays
abbrev pub laid : List VfdevRegisterWrite → List VfdevRegisterWrite → List VfdevRegisterWrite
laid writes room = writes ++ drop (length writes) room

-- ---- sets of words

-- a bit of that weight, where the flag is set
abbrev pub weight_of : Bool → ℕ → ℕ
weight_of flag weight = if flag then weight else 0

abbrev pub weighed : List Bool → ℕ → ℕ → ℕ
weighed flags k weight = weight_of (slice_index_or flags k false) weight

-- bit k is flag k
abbrev pub bits_of : List Bool → ℕ
bits_of flags =
    weighed flags 0 1 + weighed flags 1 2 + weighed flags 2 4 + weighed flags 3 8
    + weighed flags 4 16 + weighed flags 5 32 + weighed flags 6 64 + weighed flags 7 128

-- bit k is whether it holds of the register at place k
abbrev pub bits_where : (TransmitRegister → Bool) → ℕ
bits_where holds = bits_of (holds BaseLow ∷ holds BaseHigh ∷ holds Length ∷ holds Head ∷ holds WriteBackLow ∷ holds WriteBackHigh ∷ holds Control ∷ holds Tail ∷ [])

-- ---- messages

abbrev pub touched_as : Touched → VfdevPageTouched
touched_as Nothing = record { kind = 0; queue = 0; place = 0 }
touched_as (One queue r) = record { kind = 1; queue = queue; place = place_of r }
touched_as All = record { kind = 2; queue = 0; place = 0 }
