-- What a history has of each call.
use Rattle.std.specs.Prelude.{◌≡◌, ℕ, ◌-◌, Bool, true, false, ◌&&◌, nat_le, List, [], map, length, slice_index_or}
use Rattle.device.specs.Events.{Event}
use Rattle.device.specs.declared.event.Event.TheVariants.{MemWrite, PfReset, Wire}
use Rattle.device.specs.declared.event.Reply.TheVariants.{Idle}
use Rattle.device.specs.declared.event.Answer.{Answer}
use Rattle.device.specs.World.{World, answers, world_after}
use Rattle.history.specs.declared.caller.Caller.{Caller}
use Rattle.history.specs.declared.caller.Caller.TheVariants.{Driver}

-- who called, what was asked, and what was answered
pub record Entry : Type 0 where
  pub caller : Caller
  pub event : Event
  pub answer : Answer

abbrev pub entry : Caller → Event → Answer → Entry
entry c e a = record { caller = c; event = e; answer = a }

-- the entries, the oldest first, and how many there may be
pub record Kept : Type 0 where
  pub entries : List Entry
  pub cap : ℕ

-- a number of entries that a history can be made for
abbrev pub is_cap : ℕ → Bool
is_cap n = nat_le 1 n && nat_le n 65536

-- what stands where there is no entry
abbrev pub no_entry : Entry
no_entry = entry Driver PfReset (record { reply = Idle; raised = [] })

-- the entry of that place, counted from the oldest
abbrev pub entry_at : Kept → ℕ → Entry
entry_at kept i = slice_index_or kept.entries i no_entry

-- the call that was kept last
abbrev pub last_of : List Entry → Entry
last_of calls = slice_index_or calls (length calls - 1) no_entry

-- the event brings bytes: those of a write to a memory, or a frame
abbrev pub brings : Event → Bool
brings (MemWrite p at bytes) = true
brings (Wire frame) = true
brings _ = false

-- what was asked in the calls, and what was answered
abbrev pub events : List Entry → List Event
events calls = map (λ (call : Entry). call.event) calls

abbrev pub given : List Entry → List Answer
given calls = map (λ (call : Entry). call.answer) calls

-- from the base on the calls' events are answered as the calls say, and lead to the live world
pub record Leads (base : World) (calls : List Entry) (live : World) : Type 0 where
  pub answers : answers base (events calls) ≡ given calls
  pub world : world_after base (events calls) ≡ live
