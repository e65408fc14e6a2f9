-- What contracts see of a recorded device, and of a caller's share in it.
use Rattle.std.specs.Prelude.{◌≡◌, ℕ, ◌+◌, ◌-◌, ◌<◌, Bool, List, [], ◌∷◌, ◌++◌, length, sum, slice_index, Option, Some, None, slice_get}
use Rattle.device.specs.Events.{Event}
use Rattle.device.specs.declared.event.Answer.{Answer}
use Rattle.device.specs.declared.response.Response.{Response}
use Rattle.device.specs.declared.room.Room.{Room}
use Rattle.device.specs.World.{World, step}
use Rattle.device.specs.Takes.{Takes}
use Rattle.atomic_table.specs.Seated.{TableId}
use Rattle.irq_line.specs.Line.{DeviceEnd, raised}
use Rattle.history.specs.declared.caller.Caller.{Caller}
use Rattle.history.specs.declared.caller.Caller.TheVariants.{Port}
use Rattle.history.specs.Entries.{Entry, entry, events}
use Rattle.recorder.specs.Legal.{calls_of, kept_raises}

pub record Held : Type 0 where
  -- the world that the kept calls begin at
  pub base : World
  -- the calls since, the oldest first
  pub kept : List Entry
  -- the world of the live device
  pub live : World
  -- how many calls may be kept
  pub cap : ℕ
  -- whether there is a twin, which the base can be moved by
  pub has_twin : Bool
  -- how many calls of each caller were folded away
  pub tallies : List ℕ
  -- the line that the messages go to, with what was raised in it
  pub line : DeviceEnd

-- how many calls were folded away
abbrev pub folded : Held → ℕ
folded h = sum h.tallies

-- the raises of vector v for pool p that no kept call issued: those of calls that were folded away
abbrev pub folded_raises : ℕ → ℕ → Held → ℕ
folded_raises p v h = raised p v h.line.raises - kept_raises p v h.kept

-- a caller, the line of the device that it asks, and its calls, the oldest first: those that were kept, each with its event and its
-- answer
pub record CallerLog : Type 0 where
  pub caller : Caller
  pub line : TableId
  pub asked : List Entry

-- how many calls it made
abbrev pub count_of : CallerLog → ℕ
count_of m = length m.asked

abbrev pub unused : TableId → Caller → CallerLog
unused line c = record { caller = c; line = line; asked = [] }

-- what is left of the ports' shares stands at the places of their pools
abbrev pub AreOfPools : List (Option CallerLog) → Type 0
AreOfPools ports = (p : ℕ) (m : CallerLog) → slice_get ports p ≡ Some (Some m) → m.caller ≡ Port p

-- what is left of them, in the order of the pools
abbrev pub left_of : List (Option CallerLog) → List CallerLog
left_of [] = []
left_of (None ∷ ports) = left_of ports
left_of (Some m ∷ ports) = m ∷ left_of ports

-- a share with calls behind its own
abbrev pub having_calls : List Entry → CallerLog → CallerLog
having_calls calls m = record { caller = m.caller; line = m.line; asked = m.asked ++ calls }

-- a share once it asked one more event, which got this answer
abbrev pub having_asked : Event → Answer → CallerLog → CallerLog
having_asked event answer m = record { caller = m.caller; line = m.line; asked = m.asked ++ entry m.caller event answer ∷ [] }

-- a share once it asked these events more, in order, whatever each was answered
pub record HasAsked (asked : List Event) (old new : CallerLog) : Type 0 where
  -- the calls
  pub calls : List Entry
  -- their events are these
  pub events : events calls ≡ asked
  -- and they stand behind those before
  pub more : new ≡ having_calls calls old

-- ---- what changes

-- the device takes the event, and the call is kept with the answer that this gives. Its messages are raised, and no others
pub record Keeps (old : Held) (caller : Caller) (event : Event) (new : Held) : Type 0 where
  pub kept : new.kept ≡ old.kept ++ entry caller event (step old.live event).answer ∷ []
  pub live : new.live ≡ (step old.live event).world
  pub base : new.base ≡ old.base
  pub cap : new.cap ≡ old.cap
  pub has_twin : new.has_twin ≡ old.has_twin
  pub tallies : new.tallies ≡ old.tallies
  pub line : new.line.line ≡ old.line.line
  pub folded_raises : (p v : ℕ) → p < 64 → folded_raises p v new ≡ folded_raises p v old

-- the device takes the event, and the call is kept; the response and the room that was lent are its answer, with the frame that was sent
pub record Records (old : Held) (caller : Caller) (event : Event) (new : Held) (response : Response) (room : Room) : Type 0 where
  pub takes : Takes old.live event new.live response room
  pub keeps : Keeps old caller event new

-- the live world becomes the base, and no calls are kept any more: they count as folded away. Nothing is raised
pub record Rebased (old new : Held) : Type 0 where
  pub base : new.base ≡ old.live
  pub kept : new.kept ≡ []
  pub live : new.live ≡ old.live
  pub cap : new.cap ≡ old.cap
  pub has_twin : new.has_twin ≡ old.has_twin
  pub tallies : (c : ℕ) → c < 67 → slice_index new.tallies c ≡ slice_index old.tallies c + calls_of c old.kept
  pub folded : folded new ≡ folded old + length old.kept
  pub line : new.line ≡ old.line
  pub folded_raises : (p v : ℕ) → p < 64 → folded_raises p v new ≡ folded_raises p v old + kept_raises p v old.kept
