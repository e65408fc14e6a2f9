-- A virtual function, closed or open: what each call does to it and answers.
use Rattle.std.specs.Prelude.{◌≡◌, ℕ, ◌+◌, ◌%◌, ◌^◌, Bool, true, false, nat_le, List, [], ◌∷◌, ◌++◌, length, replicate, slice_range, Option, Some, None, if◌then◌else◌}
use Rattle.guest_memory.specs.Memory.{overwrite}
use Rattle.live_memory.specs.Clearing.{clearing}
use Rattle.live_memory.specs.Trace.{Access, Read, Wrote, since, ReadOnce}
use Rattle.wire_frame.specs.declared.vlan.PortVlan.{PortVlan}
use Rattle.tx_desc.specs.declared.outcome.Fetched.{Fetched}
use Rattle.tx_desc.specs.Lent.{lent_after}
use Rattle.irq_causes.specs.Causes.{Change, silent}
use Rattle.vf_unit.specs.declared.intervals.Vector.{Vector}
use Rattle.vf_unit.specs.Intervals.{word_for, microseconds}
use Rattle.vf_unit.specs.declared.registers.Queue.{Queue}
use Rattle.vf_unit.specs.declared.counts.Counts.{Counts}
use Rattle.vf_unit.specs.Counts.{CountsOnce, sender_refused, no_counts}
use Rattle.vf_unit.specs.Function.{State, initial, initial_with, other_raised_in, told, delivered, delivered_accesses, after_fetching, fetched_from, fetched_accesses}
use Rattle.vf_unit.specs.Access.{word_at_offset, after_read_at, written_at}

-- closed, with a memory of that size, or open
pub data Function : Type 0 where
  Closed : (size : ℕ) → Function
  Open : (state : State) → Function

abbrev pub size_of : Function → ℕ
size_of (Closed size) = size
size_of (Open s) = length s.memory

abbrev pub is_open : Function → Bool
is_open (Closed size) = false
is_open (Open s) = true

-- a function, with all accesses that were made to its memory, the oldest first
pub record TracedFunction : Type 0 where
  pub function : Function
  pub accesses : List Access

-- with all that was read from its memory meanwhile written into it
unfoldable pub told_of : List Access → List Access → Function → Function
told_of before now (Closed size) = Closed size
told_of before now (Open s) = Open (told before now s)

-- the function as it was met, between what it was and what it is
abbrev pub met_function : TracedFunction → TracedFunction → Function
met_function before after = told_of before.accesses after.accesses before.function

-- a call made accesses to the memory of a function: all before stays, and no byte is read after it was read or written; where
-- nobody else writes the memory, the function that was met is the one that was there
pub record IsMet (shared : Bool) (f : Function) (before now : List Access) : Type 0 where
  pub grown : now ≡ before ++ since before now
  pub once : ReadOnce (size_of f) (since before now)
  pub still : shared ≡ false → told_of before now f ≡ f

-- ---- opening, ending, reset

-- open, with every register initial and every byte of the memory zero, whatever it was, without offloads
abbrev pub opened : Function → Function
opened f = Open (initial (replicate (size_of f) 0))

-- the access that it makes
abbrev pub opening_accesses : Function → List Access
opening_accesses f = clearing (size_of f)

abbrev pub ended : Function → Function
ended f = Closed (size_of f)

-- every register initial; the memory and the offloads stay, and so does whether it is open
abbrev pub reset : Function → Function
reset (Closed size) = Closed size
reset (Open s) = Open (initial_with s.offloads s.memory)

-- ---- registers

-- what a register reads, and what the read leaves
unfoldable pub read_of : Function → ℕ → Option ℕ
read_of (Closed size) offset = None
read_of (Open s) offset = Some (word_at_offset s offset)

unfoldable pub after_read_of : Function → ℕ → Function
after_read_of (Closed size) offset = Closed size
after_read_of (Open s) offset = Open (after_read_at s offset)

-- a change of an open function; a closed one stays as it is
abbrev pub changed : Function → (State → Change State) → Change Function
changed (Closed size) change = silent (Closed size)
changed (Open s) change = record { state = Open (change s).state; messages = (change s).messages }

-- a register, written
abbrev pub written : Function → ℕ → ℕ → Change Function
written f offset x = changed f (λ s. written_at s offset x)

-- the cause "other" is raised, by which a host tells a driver that there is something to look at (82599 datasheet, VTIVAR_MISC)
abbrev pub other_raised : Function → Change Function
other_raised f = changed f other_raised_in

-- how many microseconds apart the messages of a vector are to be at least; a closed function says nothing of it
abbrev pub interval_of : Function → Vector → ℕ
interval_of (Closed size) v = 0
interval_of (Open s) v = microseconds (word_for s.intervals v)

-- ---- frames

-- a frame that comes
abbrev pub given : Bool → List ℕ → Function → Change Function
given loopback frame f = changed f (λ s. delivered loopback frame s)

-- the accesses that it makes
abbrev pub given_accesses : Bool → List ℕ → Function → List Access
given_accesses loopback frame (Closed size) = []
given_accesses loopback frame (Open s) = delivered_accesses loopback frame s

-- the service of a transmit queue, and what came of it where the function is open
abbrev pub serviced : ℕ → PortVlan → Function → Queue → Change Function
serviced limit rule f q = changed f (λ s. after_fetching limit rule s q)

abbrev pub service_outcome : ℕ → PortVlan → Function → Queue → Option Fetched
service_outcome limit rule (Closed size) q = None
service_outcome limit rule (Open s) q = Some (fetched_from limit rule s q).outcome

-- the accesses of the service
abbrev pub service_accesses : ℕ → PortVlan → Function → Queue → List Access
service_accesses limit rule (Closed size) q = []
service_accesses limit rule (Open s) q = fetched_accesses limit rule s q

-- the frame that the caller lends, afterwards
abbrev pub lent_to : Option Fetched → List ℕ → List ℕ
lent_to None frame = frame
lent_to (Some outcome) frame = lent_after outcome frame

-- one more frame was sent, modulo 2^32
abbrev pub one_more_sent : Function → Function
one_more_sent (Closed size) = Closed size
one_more_sent (Open s) = Open (record s { frames_sent = (s.frames_sent + 1) % 2 ^ 32 })

-- one more frame was refused by the sender's check, modulo 2^32
abbrev pub one_more_refused : Function → Function
one_more_refused (Closed size) = Closed size
one_more_refused (Open s) = Open (record s { losses = sender_refused s.losses })

-- all that it has counted; a closed one has counted nothing
abbrev pub counts_of : Function → Counts
counts_of (Closed size) = no_counts
counts_of (Open s) = record {
  received = s.frames_received;
  sent = s.frames_sent;
  no_room = s.losses.no_room;
  refused = s.losses.refused;
  faults = s.losses.faults;
  last_fault = s.losses.last_fault;
  shortfalls = s.shortfalls;
}

-- a frame came to the function: an open one counts it once, and a closed one stays as it is
abbrev pub IsCounted : Function → Function → Type 0
IsCounted (Closed size) after = after ≡ Closed size
IsCounted (Open s) after = CountsOnce (counts_of (Open s)) (counts_of after)

-- ---- memory

-- n bytes from the address on lie inside the memory of an open function
abbrev pub has_range : Function → ℕ → ℕ → Bool
has_range (Closed size) address n = false
has_range (Open s) address n = nat_le (address + n) (length s.memory)

-- the bytes there, else those that the caller had
unfoldable pub bytes_at : Function → ℕ → List ℕ → List ℕ
bytes_at (Closed size) address had = had
bytes_at (Open s) address had =
    if nat_le (address + length had) (length s.memory) then slice_range s.memory address (address + length had) else had

-- bytes written there, where they lie inside
unfoldable pub memory_written : Function → ℕ → List ℕ → Function
memory_written (Closed size) address bytes = Closed size
memory_written (Open s) address bytes =
    if nat_le (address + length bytes) (length s.memory) then Open (record s { memory = overwrite address bytes s.memory }) else Open s

-- the access that reads n bytes there, and the one that writes bytes: none where they don't lie inside
abbrev pub load_accesses : Function → ℕ → ℕ → List Access
load_accesses (Closed size) address n = []
load_accesses (Open s) address n = if nat_le (address + n) (length s.memory) then Read address (slice_range s.memory address (address + n)) ∷ [] else []

abbrev pub store_accesses : Function → ℕ → List ℕ → List Access
store_accesses f address bytes = if has_range f address (length bytes) then Wrote address bytes ∷ [] else []
