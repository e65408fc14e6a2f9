-- What a call wants of a device, and what comes of it for the caller.
use Rattle.std.specs.Prelude.{◌≡◌, ℕ, ◌≤◌, false, nat_eq, List, length, None, Ok, if◌then◌else◌}
use Rattle.device.specs.Events.{Event}
use Rattle.device.specs.declared.event.Event.TheVariants.{MemRead}
use Rattle.device.specs.declared.event.Reply.TheVariants.{Bytes}
use Rattle.device.specs.declared.response.Response.{Response}
use Rattle.device.specs.declared.room.Room.{Room}
use Rattle.device.specs.Outcome.{left_of, reply_of}
use Rattle.device.specs.Replies.{Reply}
use Rattle.device.specs.Request.{event_of}
use Rattle.vfdev_c.specs.Handle.{Held, Gives, bytes_on, bytes_shown, frame_in, left_on, length_in, shown}
use Rattle.vfdev_c.specs.Recorded.{is_mem_read}
use Rattle.vfdev_c.specs.declared.handed.Handed.{Handed}
use Rattle.vfdev_c.specs.declared.wanted.Wanted.{Wanted}
use Rattle.vfdev_c.specs.declared.wanted.Wanted.TheVariants.{Read, Other}

-- ---- what is wanted

-- the event that a call asks for
abbrev pub event_in : Wanted → Event
event_in (Read function at count) = MemRead function at count
event_in (Other request) = event_of request

-- a read is wanted as such
abbrev pub IsWanted : Wanted → Type 0
IsWanted (Read function at count) = Unit
IsWanted (Other request) = is_mem_read (event_of request) ≡ false

-- ---- what comes of it

-- an event was given to what a handle leads to: the reply and the messages; the frame that left, where there was room for the longest;
-- and the bytes that were read, where there was room for just as many as were asked for
pub record Hands (old : Held) (e : Event) (new : Held) (handed : Handed) (before after : List ℕ) : Type 0 where
  pub gives : Gives old (Ok e) new handed.reply handed.messages
  pub left : handed.left ≡ length_in (left_on old (Ok e) new)
  pub frame : 9018 ≤ length before → after ≡ frame_in (left_on old (Ok e) new) before
  pub bytes : (function at : ℕ) → e ≡ MemRead function at (length before) → after ≡ bytes_on old e new before

-- ---- what comes of a response

-- bytes that were read fill what has room for as many, and else it stays
abbrev pub put_read : List ℕ → List ℕ → List ℕ
put_read bytes out = if nat_eq (length bytes) (length out) then bytes else out

-- the reply has so many bytes, where it has bytes
abbrev pub HasBytes : Reply → ℕ → Type 0
HasBytes (Bytes bytes) n = length bytes ≡ n
HasBytes reply n = Unit

-- the same of a response, with the room that was lent
pub record HandsOver (response : Response) (room : Room) (handed : Handed) (before after : List ℕ) : Type 0 where
  pub replied : handed.reply ≡ shown (reply_of room.bytes response.outcome)
  pub raises : handed.messages ≡ response.messages
  pub left : handed.left ≡ length_in (left_of room response)
  pub frame : 9018 ≤ length before → after ≡ frame_in (left_of room response) before
  pub bytes : left_of room response ≡ None → HasBytes (reply_of room.bytes response.outcome) (length before)
      → after ≡ bytes_shown (reply_of room.bytes response.outcome) before
