-- The entry that a head stands for, by its bytes in the store: first those that the call brought or read, and then
-- the words of its messages.
use Rattle.std.specs.Prelude.{◌≤◌, ◌+◌, ◌*◌, ◌++◌, ◌==◌, ℕ, Bool, true, false, List, [], length, take, drop, slice_index, if◌then◌else◌}
use Rattle.std.specs.Int.{bit_at}
use Rattle.byteorder.specs.Endian.{little_number, little_bytes}
use Rattle.wire_frame.specs.Bits.{has_bit}
use Rattle.wire_frame.specs.Fault.{number_of}
use Rattle.wire_frame.specs.Frame.{IsFrame}
use Rattle.irq_causes.specs.Messages.{masks}
use Rattle.device.specs.Events.{Event}
use Rattle.device.specs.declared.event.Event.TheVariants.{Open, End, VfRead, VfWrite, MemRead, MemWrite, Serve, Flr, PfRead, PfWrite, PfReset, Wire}
use Rattle.device.specs.declared.event.Reply.{Reply as ReplyOf}
use Rattle.device.specs.Replies.{Reply, replied}
use Rattle.device.specs.declared.event.Reply.TheVariants.{Bytes}
use Rattle.device.specs.Outcome.{Outcome, bytes_read}
use Rattle.history.specs.declared.head.EventHead.{EventHead}
use Rattle.history.specs.declared.head.EventHead.TheVariants.{Open, End, VfRead, VfWrite, MemRead, MemWrite, Serve, Flr, PfRead, PfWrite, PfReset, Wire}
use Rattle.history.specs.declared.head.Head.{Head}
use Rattle.history.specs.Entries.{Entry, entry, brings}

-- ---- events and replies without their bytes

abbrev pub head_of : Event → EventHead
head_of (Open p) = Open p
head_of (End p) = End p
head_of (VfRead p offset) = VfRead p offset
head_of (VfWrite p offset x) = VfWrite p offset x
head_of (MemRead p at count) = MemRead p count at
head_of (MemWrite p at bytes) = MemWrite p at
head_of (Serve p q) = Serve p q
head_of (Flr p) = Flr p
head_of (PfRead offset) = PfRead offset
head_of (PfWrite offset x) = PfWrite offset x
head_of PfReset = PfReset
head_of (Wire frame) = Wire

-- the event, where these are the bytes that it brings
abbrev pub event_with : List ℕ → EventHead → Event
event_with bytes (Open p) = Open p
event_with bytes (End p) = End p
event_with bytes (VfRead p offset) = VfRead p offset
event_with bytes (VfWrite p offset x) = VfWrite p offset x
event_with bytes (MemRead p count at) = MemRead p at count
event_with bytes (MemWrite p at) = MemWrite p at bytes
event_with bytes (Serve p q) = Serve p q
event_with bytes (Flr p) = Flr p
event_with bytes (PfRead offset) = PfRead offset
event_with bytes (PfWrite offset x) = PfWrite offset x
event_with bytes PfReset = PfReset
event_with bytes Wire = Wire bytes

-- what was replied, but for bytes
abbrev pub ReplyKind : Type 0
ReplyKind = ReplyOf (Unit {0}) ℕ

abbrev pub kind_of : Outcome → ReplyKind
kind_of = replied (λ _. tt) number_of

-- the reply, where these are the bytes that it gives
abbrev pub reply_with : List ℕ → ReplyKind → Reply
reply_with bytes = replied (λ _. bytes) (λ number. number)

-- ---- the bytes of a call

-- those that an event brings
abbrev pub brought : Event → List ℕ
brought (MemWrite p at bytes) = bytes
brought (Wire frame) = frame
brought _ = []

-- they are as many as the event's type has
abbrev pub IsSound : Event → Type 0
IsSound (MemWrite p at bytes) = length bytes ≤ 2048
IsSound (Wire frame) = IsFrame frame
IsSound _ = Unit

-- what came of an event is bytes
abbrev pub reads : Outcome → Bool
reads (Bytes read) = true
reads _ = false

-- those that go with a call: its event brings some, or else they are those that it read, which stand first in these cells
abbrev pub moved : List ℕ → Event → Outcome → List ℕ
moved cells e o = if brings e then brought e else bytes_read cells o

-- ---- the messages of an answer, of which the words that are not 0 are kept

-- the bytes of a word
unfoldable pub word_bytes : ℕ → List ℕ
word_bytes word = if word == 0 then [] else little_bytes 8 word

-- the first word of these bytes, where one is kept, and the bytes after it
unfoldable pub word_of : Bool → List ℕ → ℕ
word_of kept bytes = if kept then little_number 8 bytes else 0

unfoldable pub rest_of : Bool → List ℕ → List ℕ
rest_of kept bytes = if kept then drop 8 bytes else bytes

-- how many bytes the words of these vectors take
abbrev pub words_len : ℕ → ℕ
words_len vectors = 8 * (bit_at vectors 0 + bit_at vectors 1 + bit_at vectors 2)

-- the bytes of the three words of messages
abbrev pub packed : List ℕ → List ℕ
packed words = word_bytes (slice_index words 0) ++ (word_bytes (slice_index words 1) ++ word_bytes (slice_index words 2))

-- the messages, of which the words of these vectors are kept
unfoldable pub messages_with : ℕ → List ℕ → List ℕ
messages_with vectors bytes =
    masks (word_of (has_bit vectors 0) bytes)
    (word_of (has_bit vectors 1) (rest_of (has_bit vectors 0) bytes))
    (word_of (has_bit vectors 2) (rest_of (has_bit vectors 1) (rest_of (has_bit vectors 0) bytes)))

-- ---- an entry

-- so many bytes from a place on
abbrev pub part : List ℕ → ℕ → ℕ → List ℕ
part store start count = take count (drop start store)

abbrev pub moved_of : List ℕ → Head → List ℕ
moved_of store h = part store h.start h.count

abbrev pub words_of : List ℕ → Head → List ℕ
words_of store h = part store (h.start + h.count) (words_len h.vectors)

abbrev pub entry_of : List ℕ → Head → Entry
entry_of store h = entry h.caller (event_with (moved_of store h) h.event)
    (record { reply = reply_with (moved_of store h) h.reply; raised = messages_with h.vectors (words_of store h) })

-- the head's bytes stand in the store
pub record Stands (store : List ℕ) (h : Head) : Type 0 where
  pub inside : h.start + h.count + words_len h.vectors ≤ length store
  pub sound : IsSound (event_with (moved_of store h) h.event)
