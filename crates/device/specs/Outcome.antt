-- What came of an event, in few words: bytes that were read and a frame that was sent stand in the room that was lent for them.
use Rattle.std.specs.Prelude.{ℕ, List, [], take, Result, Ok, Err, Option, Some, None, if◌then◌else◌}
use Rattle.wire_frame.specs.Fault.{number_of}
use Rattle.wire_frame.specs.declared.fault.Fault.{Fault}
use Rattle.local_switch.specs.declared.ways.Source.TheVariants.{Pool}
use Rattle.local_switch.specs.Switch.{leaves}
use Rattle.device.specs.Events.{Event}
use Rattle.device.specs.declared.event.Event.TheVariants.{Serve}
use Rattle.device.specs.declared.event.Reply.{Reply as ReplyOf}
use Rattle.device.specs.declared.event.Reply.TheVariants.{Done, Value, Bytes, Refused}
use Rattle.device.specs.declared.event.Answer.{Answer}
use Rattle.device.specs.declared.read_count.ReadCount.{ReadCount}
use Rattle.device.specs.declared.response.Response.{Response}
use Rattle.device.specs.declared.room.Room.{Room}
use Rattle.device.specs.Replies.{Reply, replied, is_sent}
use Rattle.device.specs.World.{World, sent_by, silently}

-- ---- what an outcome stands for

abbrev pub Outcome : Type 0
Outcome = ReplyOf ReadCount Fault

-- the reply, where bytes that were read stand first in these cells
abbrev pub reply_of : List ℕ → Outcome → Reply
reply_of cells = replied (λ read. take read.count cells) number_of

-- the answer, where it has bytes: the first of the room
abbrev pub answer_of : Room → Response → Answer
answer_of room response = record { reply = reply_of room.bytes response.outcome; raised = response.messages }

-- the frame that was sent, wherever it went: the room's
abbrev pub sent_of : Room → Response → Option (List ℕ)
sent_of room response = if is_sent response.outcome then Some room.frame else None

-- that frame, where it left for the wire
abbrev pub left_of : Room → Response → Option (List ℕ)
left_of room response = if response.left then Some room.frame else None

-- how many bytes were read
abbrev pub bytes_told : Outcome → ℕ
bytes_told (Bytes read) = read.count
bytes_told _ = 0

-- those bytes
abbrev pub bytes_read : List ℕ → Outcome → List ℕ
bytes_read cells (Bytes read) = take read.count cells
bytes_read cells _ = []

-- ---- what a call by name answers

abbrev pub done_or_refused : {X : Type 0} → Result X Fault → Reply
done_or_refused (Ok _) = Done
done_or_refused (Err fault) = Refused (number_of fault)

-- the vectors whose messages it issued
abbrev pub issued : Result ℕ Fault → ℕ
issued (Ok messages) = messages
issued (Err fault) = 0

abbrev pub value_or_refused : Result ℕ Fault → Reply
value_or_refused (Ok x) = Value x
value_or_refused (Err fault) = Refused (number_of fault)

abbrev pub bytes_or_refused : Result (Unit {0}) Fault → List ℕ → Reply
bytes_or_refused (Ok _) bytes = Bytes bytes
bytes_or_refused (Err fault) bytes = Refused (number_of fault)

-- done, with these messages to the pools
abbrev pub messages_or_refused : Result (List ℕ) Fault → Answer
messages_or_refused (Ok messages) = record { reply = Done; raised = messages }
messages_or_refused (Err fault) = silently (Refused (number_of fault))

-- ---- frames that an event sends

-- the frame leaves for the wire, where pool p sent it
abbrev pub leaving : World → ℕ → Option (List ℕ) → Option (List ℕ)
leaving w p None = None
leaving w p (Some frame) = if leaves w.settings (Pool p) frame then Some frame else None

-- the frame that an event sends to the wire, if any
abbrev pub left_by : World → Event → Option (List ℕ)
left_by w (Serve p q) = leaving w p (sent_by w (Serve p q))
left_by w _ = None
