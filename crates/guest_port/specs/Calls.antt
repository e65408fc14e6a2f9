-- What the calls of a port with its device do: each is one event of the port's own pool, which is kept with its answer, and what the
-- call answers is the reply of that answer.
use Rattle.std.specs.Prelude.{◌≡◌, ℕ, ◌==◌, Bool, true, false, List, [], ◌∷◌, ◌++◌, drop, length, Result, Ok, Err}
use Rattle.wire_frame.specs.Fault.{number_of}
use Rattle.wire_frame.specs.declared.fault.Fault.{Fault}
use Rattle.wire_frame.specs.declared.fault.Fault.TheVariants.{HistoryFull}
use Rattle.device.specs.Events.{Event}
use Rattle.device.specs.Replies.{Reply}
use Rattle.device.specs.declared.event.Reply.TheVariants.{Done, Value, Bytes, Refused}
use Rattle.device.specs.declared.event.Answer.{Answer}
use Rattle.history.specs.Entries.{Entry, entry}
use Rattle.recorder.specs.Held.{CallerLog}
use Rattle.device_lock.specs.Answers.{MayAnswer}
use Rattle.guest_port.specs.Port.{Port}

-- a port with its device
pub record CallingPort : Type 0 where
  pub port : Port
  -- its share as it was when the port was made
  pub made : CallerLog
  -- its calls, the oldest first, each with its event and its answer: those that were kept, with the refused ones
  pub calls : List Entry
  -- the cells of its room, which the bytes that its last call read stand first in
  pub cells : List ℕ

-- the calls of a share since it was another
abbrev pub asked_since : CallerLog → CallerLog → List Entry
asked_since old new = drop (length old.asked) new.asked

-- a port once it asked one more event, which got this answer and left these cells
abbrev pub having_called : Event → Answer → List ℕ → CallingPort → CallingPort
having_called event answer cells c = record c { calls = c.calls ++ entry c.made.caller event answer ∷ []; cells = cells }

-- the port asked one more event: the reply is that of the answer which was kept, and which the event may get
pub record HasCalled (event : Event) (reply : Reply) (old new : CallingPort) : Type 0 where
  pub answer : Answer
  pub kept : new ≡ having_called event answer new.cells old
  pub told : answer.reply ≡ reply
  pub given : MayAnswer event answer

-- the call was not kept, since the history is full
abbrev pub is_full : {X : Type 0} → Result X Fault → Bool
is_full (Err HistoryFull) = true
is_full _ = false

-- the reply that bytes stand for, or a refusal
abbrev pub read_or_refused : Result (List ℕ) Fault → Reply
read_or_refused (Ok bytes) = Bytes bytes
read_or_refused (Err fault) = Refused (number_of fault)

-- ---- what can be replied to each kind of event

abbrev pub IsRefusal : ℕ → Type 0
IsRefusal number = (number == number_of HistoryFull) ≡ false

abbrev pub IsDone : Reply → Type 0
IsDone Done = Unit
IsDone (Refused number) = IsRefusal number
IsDone _ = ⊥

abbrev pub IsValue : Reply → Type 0
IsValue (Value x) = Unit
IsValue (Refused number) = IsRefusal number
IsValue _ = ⊥

abbrev pub IsRead : ℕ → Reply → Type 0
IsRead count (Bytes bytes) = length bytes ≡ count
IsRead count (Refused number) = IsRefusal number
IsRead count _ = ⊥
