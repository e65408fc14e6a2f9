-- What a handle leads to, and what a call leaves of it and answers.
use Rattle.std.specs.Prelude.{◌≡◌, ℕ, ◌<◌, Bool, true, false, ◌&&◌, nat_le, nat_lt, nat_eq, List, [], ◌∷◌, ◌++◌, drop, length, map, Option, Some, None, Result, Ok, Err, if◌then◌else◌}
use Rattle.wire_frame.specs.Fault.{number_of}
use Rattle.wire_frame.specs.Frame.{is_frame}
use Rattle.wire_frame.specs.declared.fault.Fault.{Fault}
use Rattle.wire_frame.specs.declared.fault.Fault.TheVariants.{TooLong, BadFrame}
use Rattle.guest_memory.specs.Memory.{is_memory_size}
use Rattle.irq_causes.specs.Messages.{no_messages}
use Rattle.vf_unit.specs.declared.registers.Queue.{Queue}
use Rattle.vf_unit.specs.declared.registers.Queue.TheVariants.{Q0, Q1}
use Rattle.device.specs.Events.{Event}
use Rattle.device.specs.declared.event.Answer.{Answer}
use Rattle.device.specs.declared.event.Event.TheVariants.{VfWrite, MemWrite, Serve, Wire}
use Rattle.device.specs.Replies.{Reply}
use Rattle.device.specs.declared.event.Reply.TheVariants.{Done, Value, Bytes, Idle, More, Sent, Dropped, Faulted, Refused}
use Rattle.device.specs.World.{World, fresh, step, answers, world_after, is_frame_limit}
use Rattle.device.specs.Outcome.{left_by}
use Rattle.device.specs.Lone.{keep, lone_of, lone_seen, lone_after, seen_by}
use Rattle.history.specs.Entries.{Entry, is_cap, events, given}
use Rattle.history.specs.Recording.{made_like}
use Rattle.vfdev_c.specs.declared.reply.VfdevReply.{VfdevReply}
use Rattle.vfdev_c.specs.declared.handle_state.HandleState.{HandleState}
use Rattle.vfdev_c.specs.declared.handle_state.HandleState.TheVariants.{Lending, Made, Kept, Lent, Card, Guests}
use Rattle.vfdev_c.specs.GuestDevices.{with_device}
use Rattle.vfdev_c.specs.LentWorld.{untouched, met_by, taken_by, AreOnce, AreAllListed}
use Rattle.vfdev_c.specs.Recorded.{is_full, keeping}
use Rattle.vfdev_c.specs.Spans.{Lent as Blocks, none_lent, no_access, span, overlaps_one}

-- what a handle leads to: nothing, blocks that were lent for a device, a device over memories of its own, one whose calls are kept, a
-- device over lent blocks, a card, or a device of guests that come and go
abbrev pub Held : Type 0
Held = Option HandleState

-- ---- replies, as C sees them

abbrev pub numbered : ℕ → ℕ → VfdevReply
numbered kind value = record { kind = kind; value = value }

-- the reply of a device: its kind, with the value of a register or the number of a refusal
abbrev pub shown : Reply → VfdevReply
shown Done = numbered 0 0
shown (Value x) = numbered 1 x
shown (Bytes bytes) = numbered 2 0
shown Idle = numbered 3 0
shown More = numbered 4 0
shown Sent = numbered 5 0
shown Dropped = numbered 6 0
shown Faulted = numbered 7 0
shown (Refused number) = numbered 8 number

-- a reply and messages, as C sees them, are those of a device's answer
pub record Shows (answer : Answer) (reply : VfdevReply) (raised : List ℕ) : Type 0 where
  pub replied : reply ≡ shown answer.reply
  pub raises : raised ≡ answer.raised

-- the replies of a call that asked no device
abbrev pub no_device : VfdevReply
no_device = numbered 9 0

abbrev pub no_room : VfdevReply
no_room = numbered 10 0

abbrev pub no_queue : VfdevReply
no_queue = numbered 11 0

-- no more calls can be kept
abbrev pub history_full : VfdevReply
history_full = numbered 12 0

abbrev pub refused_as : Fault → VfdevReply
refused_as fault = numbered 8 (number_of fault)

-- ---- what a call asks: an event, or nothing, where an argument is refused with a reply

abbrev pub Requested : Type 0
Requested = Result Event VfdevReply

-- there is room for the messages to the 64 pools
abbrev pub has_room : List ℕ → Bool
has_room messages = nat_le 64 (length messages)

abbrev pub where_room : List ℕ → Requested → Requested
where_room messages asked = if has_room messages then asked else Err no_room

abbrev pub wire_asked : List ℕ → Requested
wire_asked bytes = if is_frame 9018 bytes then Ok (Wire bytes) else Err (refused_as BadFrame)

abbrev pub write_asked : ℕ → ℕ → List ℕ → Requested
write_asked function at bytes = if nat_le (length bytes) 2048 then Ok (MemWrite function at bytes) else Err (refused_as TooLong)

-- the transmit queue of that number
abbrev pub queue_of : ℕ → Option Queue
queue_of number = if nat_eq number 0 then Some Q0 else (if nat_eq number 1 then Some Q1 else None)

-- a queue, where there is room for the longest frame
abbrev pub serve_at : ℕ → Option Queue → List ℕ → Requested
serve_at function (Some queue) out = if nat_le 9018 (length out) then Ok (Serve function queue) else Err no_room
serve_at function None out = Err no_queue

abbrev pub serve_asked : ℕ → ℕ → List ℕ → Requested
serve_asked function queue out = serve_at function (queue_of queue) out

-- ---- what a call does, by what it asks

-- what a call met that asks this and leaves that: where guests write the memories, the device after each guest wrote what the call read
-- of its memory, and else what the handle led to
abbrev pub met : Held → Requested → Held → Held
met (Some (Lent old)) (Ok e) (Some (Lent new)) = Some (Lent (met_by old new))
met (Some (Guests old)) (Ok e) (Some (Guests new)) = Some (Guests (with_device old (met_by old.device new.device)))
met held asked new = held

-- what a call leaves and answers: what the handle leads to, the reply, the messages that it issued for each pool, the frame that left
-- for the wire, and what then stands where bytes were asked for, by what stood there
pub record Given : Type 0 where
  pub held : Held
  pub reply : VfdevReply
  pub raised : List ℕ
  pub left : Option (List ℕ)
  pub bytes : List ℕ → List ℕ

-- no device is asked
abbrev pub unasked : Held → VfdevReply → Given
unasked held reply = record { held = held; reply = reply; raised = no_messages; left = None; bytes = λ out. out }

-- the bytes that were read, where they were, and else what was there
abbrev pub bytes_shown : Reply → List ℕ → List ℕ
bytes_shown (Bytes bytes) out = bytes
bytes_shown reply out = out

-- a device in that world takes the event, and the handle leads to that after it
abbrev pub taken : Held → World → Event → Given
taken held w e = record {
  held = held;
  reply = shown (step w e).answer.reply;
  raised = (step w e).answer.raised;
  left = left_by w e;
  bytes = bytes_shown (step w e).answer.reply;
}

-- an event is given to the device, where there is one, and the call is kept where calls are, while there is room for one more
abbrev pub given_by : Held → Requested → Given
given_by held (Err reply) = unasked held reply
given_by (Some (Made w)) (Ok e) = taken (Some (Made (step w e).world)) w e
given_by (Some (Kept r)) (Ok e) = if is_full r then unasked (Some (Kept r)) history_full else taken (Some (Kept (keeping r e))) r.live e
given_by (Some (Lent l)) (Ok e) = taken (Some (Lent (taken_by l e))) l.world e
given_by (Some (Guests g)) (Ok e) = taken (Some (Guests (with_device g (taken_by g.device e)))) g.device.world e
given_by held (Ok e) = unasked held no_device

-- the messages stand in the first 64 bytes, where there is room; no other byte changes
abbrev pub messages_in : List ℕ → List ℕ → List ℕ
messages_in raised old = if has_room old then raised ++ drop 64 old else old

-- a frame that left stands in the first bytes, and no other byte changes
abbrev pub frame_in : Option (List ℕ) → List ℕ → List ℕ
frame_in (Some frame) out = frame ++ drop (length frame) out
frame_in None out = out

abbrev pub length_in : Option (List ℕ) → ℕ
length_in (Some frame) = length frame
length_in None = 0

-- it issues no messages, whatever the device is
abbrev pub is_silent : Event → Bool
is_silent (VfWrite p offset x) = false
is_silent (Serve p q) = false
is_silent (Wire frame) = false
is_silent e = true

-- ---- isolation

-- to each function of the device an event is as if it were alone: what it sees of it, and what it is left as
unfoldable pub IsolatedStep : World → Event → World → Type 0
IsolatedStep w e new = (p : ℕ) → p < length w.functions →
    (seen_by p (e ∷ []) ((step w e).answer ∷ []) ≡ lone_seen (lone_of p w) (keep p w (e ∷ [])))
    × (lone_of p new ≡ lone_after (lone_of p w) (keep p w (e ∷ [])))

abbrev pub Isolated : Held → Requested → Held → Type 0
Isolated (Some (Made w)) (Ok e) (Some (Made new)) = IsolatedStep w e new
Isolated (Some (Kept r)) (Ok e) (Some (Kept new)) = is_full r ≡ false → IsolatedStep r.live e new.live
Isolated (Some (Lent l)) (Ok e) (Some (Lent new)) = IsolatedStep l.world e new.world
Isolated (Some (Guests g)) (Ok e) (Some (Guests new)) = IsolatedStep g.device.world e new.device.world
Isolated held asked new = Unit

-- no byte of a function's memory was read after it was read or written in the call
abbrev pub ReadsOnce : Held → Requested → Held → Type 0
ReadsOnce (Some (Lent old)) (Ok e) (Some (Lent new)) = AreOnce old new
ReadsOnce (Some (Guests old)) (Ok e) (Some (Guests new)) = AreOnce old.device new.device
ReadsOnce old asked new = Unit

-- what was read and written of each guest's memory is just what the event lists, in that order; a call that asks no event accesses
-- none, as the handle then leads to what it led to
abbrev pub AccessesListed : Held → Requested → Held → Type 0
AccessesListed (Some (Lent old)) (Ok e) (Some (Lent new)) = AreAllListed old e new
AccessesListed (Some (Guests old)) (Ok e) (Some (Guests new)) = AreAllListed old.device e new.device
AccessesListed old asked new = Unit

-- ---- a call

-- what a call gives, of what it met
abbrev pub given_on : Held → Requested → Held → Given
given_on old asked new = given_by (met old asked new) asked

-- what a handle leads to after a call, and what is replied, of what the call met; to each function the call is as if it were alone;
-- and what the call read and wrote of memories that guests write too
pub record Calls (old : Held) (asked : Requested) (new : Held) (reply : VfdevReply) : Type 0 where
  pub held : new ≡ (given_on old asked new).held
  pub replied : reply ≡ (given_on old asked new).reply
  pub isolated : Isolated (met old asked new) asked new
  pub once : ReadsOnce old asked new
  pub listed : AccessesListed old asked new

-- the messages of a call
abbrev pub raised_on : Held → Requested → Held → List ℕ
raised_on old asked new = (given_on old asked new).raised

-- a call with its messages
pub record Gives (old : Held) (asked : Requested) (new : Held) (reply : VfdevReply) (raised : List ℕ) : Type 0 where
  pub called : Calls old asked new reply
  pub raises : raised ≡ raised_on old asked new

-- the frame that left in a call
abbrev pub left_on : Held → Requested → Held → Option (List ℕ)
left_on old asked new = (given_on old asked new).left

-- the bytes that were read in a call, and else what was there
abbrev pub bytes_on : Held → Event → Held → List ℕ → List ℕ
bytes_on old e new = (given_on old (Ok e) new).bytes

-- ---- makers

-- a device of so many functions over memories of one size can be made
abbrev pub can_make : ℕ → ℕ → ℕ → Bool
can_make functions size limit = nat_le 1 functions && (nat_le functions 64 && (is_memory_size size && is_frame_limit limit))

-- and its calls can be kept, so many at most
abbrev pub can_record : ℕ → ℕ → ℕ → ℕ → Bool
can_record functions size limit calls = can_make functions size limit && is_cap calls

abbrev pub is_lending : Held → Bool
is_lending (Some (Lending all)) = true
is_lending held = false

-- the blocks that were lent for a device
abbrev pub lent_in : Held → Blocks
lent_in (Some (Lending all)) = all
lent_in held = none_lent

-- a block of these bytes can be lent: they are a memory, and there are fewer than 64 yet
abbrev pub can_lend : Held → List ℕ → Bool
can_lend held bytes = is_memory_size (length bytes) && nat_lt (length (lent_in held).blocks) 64

-- a block of these bytes, which begins at the address, overlaps one that was lent
abbrev pub is_lent_twice : Held → ℕ → List ℕ → Bool
is_lent_twice held address bytes = overlaps_one (span address (length bytes)) (lent_in held).spans

-- a device over blocks of these lengths is there as it is made, and no access was made to them
abbrev pub made_over : ℕ → List (List ℕ) → Held
made_over limit blocks = Some (Lent (untouched (fresh limit (map length blocks)) (map no_access blocks)))

-- a device is there, or a card
abbrev pub is_made : Held → Bool
is_made (Some (Made w)) = true
is_made (Some (Kept r)) = true
is_made (Some (Lent l)) = true
is_made (Some (Card c)) = true
is_made (Some (Guests g)) = true
is_made held = false

-- ---- kept calls

-- a device is there whose calls are kept, or one over memories of its own whose calls are not
abbrev pub is_recorded : Held → Bool
is_recorded (Some (Kept r)) = true
is_recorded held = false

abbrev pub is_unrecorded : Held → Bool
is_unrecorded (Some (Made w)) = true
is_unrecorded held = false

-- the calls that are kept
abbrev pub calls_in : Held → List Entry
calls_in (Some (Kept r)) = r.calls
calls_in held = []

-- what a replay leaves of another device: it takes the events of the kept calls
abbrev pub replayed : Held → Held → Held
replayed (Some (Kept r)) (Some (Made w)) = Some (Made (world_after w (events r.calls)))
replayed held other = other

-- the same device without its calls
abbrev pub live_in : Held → Held
live_in (Some (Kept r)) = Some (Made r.live)
live_in held = held

-- the other device answers each kept call as it was kept
abbrev pub IsSame : Held → Held → Type 0
IsSame (Some (Kept r)) (Some (Made w)) = answers w (events r.calls) ≡ given r.calls
IsSame held other = ⊥

-- the other device is one as it is made, of the recorded one's frame limit and sizes of memories
abbrev pub IsMadeLike : Held → Held → Type 0
IsMadeLike (Some (Kept r)) (Some (Made w)) = w ≡ made_like r.live
IsMadeLike held other = ⊥
