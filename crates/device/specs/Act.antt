-- What each event of a virtual function's own does to it, and what is replied.
use Rattle.std.specs.Prelude.{ℕ, ◌+◌, ◌%◌, Bool, true, false, not, ◌&&◌, ◌||◌, ◌==◌, nat_le, nat_lt, List, [], length, replicate, Option, Some, None, if◌then◌else◌}
use Rattle.std.specs.Option.{unwrap_or}
use Rattle.wire_frame.specs.Fault.{number_of}
use Rattle.wire_frame.specs.declared.fault.Fault.{Fault}
use Rattle.wire_frame.specs.declared.fault.Fault.TheVariants.{NotOpen, BadOffset, BadRange, TooLong, AlreadyOpen}
use Rattle.tx_desc.specs.declared.outcome.Fetched.{Fetched}
use Rattle.tx_desc.specs.declared.outcome.Fetched.TheVariants.{Idle, More, Frame, Dropped, Faulted}
use Rattle.vf_unit.specs.declared.registers.Queue.{Queue}
use Rattle.irq_causes.specs.Causes.{Change}
use Rattle.live_memory.specs.Trace.{Access}
use Rattle.vf_unit.specs.Unit.{Function, size_of, is_open, opened, opening_accesses, ended, reset, read_of, after_read_of, written, serviced, service_outcome, one_more_sent, one_more_refused, bytes_at, memory_written, service_accesses, load_accesses, store_accesses}
use Rattle.pool_filter.specs.Own.{OwnSettings, port_vlan_of}
use Rattle.anti_spoof.specs.Permitted.{permitted}
use Rattle.device.specs.Limits.{VF_SPACE, MOST_BYTES}
use Rattle.device.specs.Events.{Event}
use Rattle.device.specs.declared.event.Event.TheVariants.{Open, End, VfRead, VfWrite, MemRead, MemWrite, Flr}
use Rattle.device.specs.Replies.{Reply}
use Rattle.device.specs.declared.event.Reply.TheVariants.{Done, Value, Bytes, Idle, More, Sent, Dropped, Faulted, Refused}

-- ---- refusals

-- no register can stand at the offset, in a register space of that many bytes
abbrev pub is_bad_offset : ℕ → ℕ → Bool
is_bad_offset space offset = not (offset % 4 == 0) || nat_le space offset

abbrev pub opens : Event → Bool
opens (Open p) = true
opens _ = false

abbrev pub names_bad_offset : Event → Bool
names_bad_offset (VfRead p offset) = is_bad_offset VF_SPACE offset
names_bad_offset (VfWrite p offset x) = is_bad_offset VF_SPACE offset
names_bad_offset _ = false

-- more than 2048 bytes are asked; bytes that are given are no more by their type
abbrev pub is_too_long : Event → Bool
is_too_long (MemRead p at count) = nat_lt MOST_BYTES count
is_too_long _ = false

-- the bytes that the event names pass the end of a memory of that size
abbrev pub passes_end : ℕ → Event → Bool
passes_end size (MemRead p at count) = nat_lt size (at + count)
passes_end size (MemWrite p at bytes) = nat_lt size (at + length bytes)
passes_end size _ = false

-- why an event of its own is refused to a function: the first line that fits
unfoldable pub refusal : Function → Event → Option Fault
refusal f e = if not (is_open f) && not (opens e) then Some NotOpen
    else (if is_open f && opens e then Some AlreadyOpen
    else (if names_bad_offset e then Some BadOffset
    else (if is_too_long e then Some TooLong
    else (if passes_end (size_of f) e then Some BadRange
    else None))))

-- ---- events but for a service

-- the function after an event, the reply, and the vectors whose messages the event issued
pub record Acted : Type 0 where
  pub function : Function
  pub reply : Reply
  pub messages : ℕ

abbrev pub quietly : Function → Reply → Acted
quietly f reply = record { function = f; reply = reply; messages = 0 }

-- an event that is not refused
abbrev pub performed : Function → Event → Acted
performed f (Open p) = quietly (opened f) Done
performed f (End p) = quietly (ended f) Done
performed f (VfRead p offset) = quietly (after_read_of f offset) (Value (unwrap_or (read_of f offset) 0))
performed f (VfWrite p offset x) = record { function = (written f offset x).state; reply = Done; messages = (written f offset x).messages }
performed f (MemRead p at count) = quietly f (Bytes (bytes_at f at (replicate count 0)))
performed f (MemWrite p at bytes) = quietly (memory_written f at bytes) Done
performed f (Flr p) = quietly (reset f) Done
performed f _ = quietly f Idle

abbrev pub unless_refused : Option Fault → Function → Event → Acted
unless_refused (Some fault) f e = quietly f (Refused (number_of fault))
unless_refused None f e = performed f e

-- an event of the function's own, other than a service
unfoldable pub act : Function → Event → Acted
act f e = unless_refused (refusal f e) f e

-- the accesses to the function's memory that an event of its own makes, other than a service: a read of the memory makes one, a
-- write does, and so does opening it
abbrev pub act_accesses : Function → Event → List Access
act_accesses f (Open p) = if is_open f then [] else opening_accesses f
act_accesses f (MemRead p at count) = if nat_lt MOST_BYTES count then [] else load_accesses f at count
act_accesses f (MemWrite p at bytes) = store_accesses f at bytes
act_accesses f _ = []

-- ---- services

-- the function after a service of one of its queues, with the frame that it sent, if any
pub record Service : Type 0 where
  pub function : Function
  pub reply : Reply
  pub messages : ℕ
  pub sent : Option (List ℕ)

abbrev pub unsent : Change Function → Reply → Service
unsent c reply = record { function = c.state; reply = reply; messages = c.messages; sent = None }

-- what is made of the outcome: a frame that ended is sent where the function's own settings permit it, and else counted as refused
abbrev pub concluded : OwnSettings → Change Function → Option Fetched → Service
concluded o c (Some Idle) = unsent c Idle
concluded o c (Some More) = unsent c More
concluded o c (Some (Frame frame)) = if permitted o frame
    then record { function = one_more_sent c.state; reply = Sent; messages = c.messages; sent = Some frame }
    else unsent (record c { state = one_more_refused c.state }) Dropped
concluded o c (Some Dropped) = unsent c Dropped
concluded o c (Some Faulted) = unsent c Faulted
concluded o c None = unsent c (Refused (number_of NotOpen))

abbrev pub unserved : Function → Reply → Service
unserved f reply = record { function = f; reply = reply; messages = 0; sent = None }

-- a service of the function's queue, by the function's own settings alone
unfoldable pub serve : ℕ → OwnSettings → Function → Queue → Service
serve limit o f q = if is_open f
    then (if o.may_transmit
    then concluded o (serviced limit (port_vlan_of o.port_vlan) f q) (service_outcome limit (port_vlan_of o.port_vlan) f q)
    else unserved f Idle)
    else unserved f (Refused (number_of NotOpen))

-- the accesses to the function's memory that it makes
abbrev pub serve_accesses : ℕ → OwnSettings → Function → Queue → List Access
serve_accesses limit o f q = if o.may_transmit then service_accesses limit (port_vlan_of o.port_vlan) f q else []
