-- What a call that takes a descriptor does, where others may write the memory.
use Rattle.std.specs.Prelude.{◌≡◌, ℕ, ◌+◌, ◌^◌, ◌<◌, ◌≤◌, Bool, false, List, length, slice_range, None}
use Rattle.guest_memory.specs.Memory.{two_words}
use Rattle.live_memory.specs.Trace.{Access, since, met, NotRead, IsTraced, HasRead}
use Rattle.rings.specs.Ring.{RingState}
use Rattle.wire_frame.specs.declared.vlan.PortVlan.{PortVlan}
use Rattle.tx_desc.specs.declared.descriptor.TxDescriptor.{TxDescriptor}
use Rattle.tx_desc.specs.declared.outcome.Served.{Served}
use Rattle.tx_desc.specs.Transmit.{Fetching, Gathering, length_of, tag_for, refuses}
use Rattle.tx_desc.specs.Lent.{fetched_in, lent_after}

-- the call did what is due: it answered `served`, and left these bytes in memory, this state of the ring and what is gathered; the
-- lent frame was `lent`, and is `filled` now
pub record Fetches (due : Fetching) (served : Served) (bytes : List ℕ) (state : RingState) (gathered : Gathering) (lent filled : List ℕ) : Type 0 where
  pub outcome : fetched_in served.outcome filled ≡ due.outcome
  pub frame : filled ≡ lent_after due.outcome lent
  pub reported : served.reported ≡ due.reported
  pub memory : bytes ≡ due.memory
  pub ring : state ≡ due.ring
  pub pending : gathered ≡ due.pending

-- the bytes of a descriptor
abbrev pub data_of : List ℕ → TxDescriptor → List ℕ
data_of memory d = slice_range memory d.buffer (d.buffer + length_of d.word)

-- the two words of a descriptor stand at its place
abbrev pub Holds : List ℕ → TxDescriptor → Type 0
Holds memory d = two_words d.buffer d.word ≡ slice_range memory d.at (d.at + 16)

-- a descriptor was read from its place in a memory that has its bytes too
pub record Stands (memory : List ℕ) (d : TxDescriptor) : Type 0 where
  pub holds : Holds memory d
  pub place : d.at + 16 ≤ length memory
  pub inside : d.buffer + length_of d.word ≤ length memory
  pub small : length memory < 2 ^ 64

-- a call read bytes of a memory, each once and none of the 16 from a place on, which are as they were
pub record ReadsApart (shared : Bool) (place : ℕ) (before now : List Access) (old new : List ℕ) : Type 0 where
  pub read : HasRead shared old new before now
  pub apart : NotRead place 16 (since before now)
  pub kept : slice_range new place (place + 16) ≡ slice_range old place (place + 16)

-- a call made accesses to a memory, and read none of the 16 bytes from a place on: they stand in the memory that it met
pub record KeepsApart (shared : Bool) (place : ℕ) (before now : List Access) (old : List ℕ) : Type 0 where
  pub traced : IsTraced shared old before now
  pub apart : NotRead place 16 (since before now)
  pub size : length (met before now old) ≡ length old
  pub kept : slice_range (met before now old) place (place + 16) ≡ slice_range old place (place + 16)

-- the bytes of a descriptor are a frame as they stand, whatever they are, and no more than `room`
pub record IsWhole (limit : ℕ) (rule : PortVlan) (word room : ℕ) : Type 0 where
  pub least : 18 ≤ length_of word
  pub most : length_of word ≤ room
  pub within : length_of word ≤ limit
  pub untagged : tag_for rule word ≡ None
  pub free : (bytes : List ℕ) → refuses rule bytes ≡ false
