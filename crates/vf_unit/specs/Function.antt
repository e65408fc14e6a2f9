-- An open virtual function: its state, what a frame that comes does, and what the service of a transmit queue does.
use Rattle.std.specs.Prelude.{ℕ, ◌+◌, ◌*◌, ◌/◌, ◌%◌, ◌^◌, Bool, true, false, not, ◌&&◌, ◌||◌, ◌==◌, nat_le, List, [], length, IsTrue, Option, if◌then◌else◌}
use Rattle.wire_frame.specs.Bits.{field}
use Rattle.wire_frame.specs.declared.vlan.PortVlan.{PortVlan}
use Rattle.live_memory.specs.Trace.{Access, met}
use Rattle.rings.specs.Ring.{no_ring, LiesInside}
use Rattle.tx_desc.specs.declared.terms.Terms.{Terms}
use Rattle.tx_desc.specs.Offloaded.{Serving, nothing_sent, fetch_with}
use Rattle.tx_desc.specs.OffloadedAccesses.{fetch_with_accesses}
use Rattle.tx_desc.specs.declared.outcome.Misuse.{Misuse}
use Rattle.tx_desc.specs.Misuses.{misuse_at}
use Rattle.rx_desc.specs.declared.placing.Placed.{Placed}
use Rattle.rx_desc.specs.declared.placing.Placed.TheVariants.{Put, NoRoom, Faulted}
use Rattle.rx_desc.specs.declared.placing.RxConfig.{RxConfig}
use Rattle.rx_desc.specs.declared.write_back.RxFormat.TheVariants.{Advanced, Legacy}
use Rattle.rx_desc.specs.Receive.{Delivery, deliver}
use Rattle.rx_desc.specs.Accesses.{deliver_accesses}
use Rattle.irq_causes.specs.Causes.{CauseState, Change, no_causes, silent, raised_by}
use Rattle.offload.specs.declared.offloads.Offloads.{Offloads}
use Rattle.offload.specs.Offloads.{no_offloads}
use Rattle.vf_unit.specs.Words.{DESCTYPE, LEGACY, BUFFER_SIZES, LEAST_BUFFER, MOST_BUFFER, RECEIVE_VECTOR_0, TRANSMIT_VECTOR_0, TRANSMIT_VECTOR_1, OTHER_VECTOR, VECTOR_SIZE}
use Rattle.vf_unit.specs.declared.intervals.Intervals.{Intervals}
use Rattle.vf_unit.specs.Intervals.{no_intervals}
use Rattle.vf_unit.specs.declared.counts.Losses.{Losses}
use Rattle.vf_unit.specs.Counts.{no_losses, turned_away, lost_placing, lost_taking}
use Rattle.vf_unit.specs.declared.registers.Queue.{Queue}
use Rattle.vf_unit.specs.declared.registers.Queue.TheVariants.{Q0, Q1}
use Rattle.vf_unit.specs.declared.queues.ReceiveQueue.{ReceiveQueue}
use Rattle.vf_unit.specs.declared.queues.TransmitQueue.{TransmitQueue}

-- ---- the state

pub record State : Type 0 where
  pub memory : List ℕ
  pub receive_0 : ReceiveQueue
  pub receive_1 : ReceiveQueue
  pub transmit_0 : TransmitQueue
  pub transmit_1 : TransmitQueue
  pub causes : CauseState
  pub queue_vectors : ℕ
  pub other_vector : ℕ
  -- how far apart the messages of each vector are to be
  pub intervals : Intervals
  pub frames_received : ℕ
  pub frames_sent : ℕ
  -- what the device does for its driver, which no register says
  pub offloads : Offloads
  -- how often something that the driver left to the card could not be done, modulo 2^32
  pub shortfalls : ℕ
  -- what was lost: frames that found no room, frames that the sender's check refused, queues that a fault stopped
  pub losses : Losses

abbrev pub initial_receive : ReceiveQueue
initial_receive = record { ring = no_ring; buffers = 0; strips_tag = false }

abbrev pub initial_transmit : TransmitQueue
initial_transmit = record { ring = no_ring; sending = nothing_sent }

-- every register initial, over this memory, with these offloads
abbrev pub initial_with : Offloads → List ℕ → State
initial_with offloads memory = record {
  memory = memory;
  receive_0 = initial_receive;
  receive_1 = initial_receive;
  transmit_0 = initial_transmit;
  transmit_1 = initial_transmit;
  causes = no_causes;
  queue_vectors = 0;
  other_vector = 0;
  intervals = no_intervals;
  frames_received = 0;
  frames_sent = 0;
  offloads = offloads;
  shortfalls = 0;
  losses = no_losses;
}

-- and with none
abbrev pub initial : List ℕ → State
initial memory = initial_with no_offloads memory

-- a queue has legacy descriptors, where the device takes these
abbrev pub is_legacy : Bool → ReceiveQueue → Bool
is_legacy taken q = taken && (q.buffers / 2 ^ DESCTYPE == LEGACY)

-- its buffers have 1 to 16 KiB
abbrev pub has_size : ReceiveQueue → Bool
has_size q = nat_le LEAST_BUFFER (q.buffers % BUFFER_SIZES) && nat_le (q.buffers % BUFFER_SIZES) MOST_BUFFER

-- a receive queue that is on lies inside a memory of n bytes, and has legacy descriptors, or buffers of 1 to 16 KiB
pub record IsReceiving (legacy : Bool) (n : ℕ) (q : ReceiveQueue) : Type 0 where
  pub inside : LiesInside n q.ring
  pub sized : IsTrue q.ring.enabled → IsTrue (is_legacy legacy q || has_size q)

-- queues that are on lie inside the memory
pub record IsTied (s : State) : Type 0 where
  pub receive_0 : IsReceiving s.offloads.legacy_receive (length s.memory) s.receive_0
  pub receive_1 : IsReceiving s.offloads.legacy_receive (length s.memory) s.receive_1
  pub transmit_0 : LiesInside (length s.memory) s.transmit_0.ring
  pub transmit_1 : LiesInside (length s.memory) s.transmit_1.ring

-- an open function, with all accesses that were made to its memory, the oldest first
pub record TracedState : Type 0 where
  pub state : State
  pub accesses : List Access

-- ---- the queues by their numbers

abbrev pub receive_of : State → Queue → ReceiveQueue
receive_of s Q0 = s.receive_0
receive_of s Q1 = s.receive_1

abbrev pub transmit_of : State → Queue → TransmitQueue
transmit_of s Q0 = s.transmit_0
transmit_of s Q1 = s.transmit_1

abbrev pub with_receive : State → Queue → ReceiveQueue → State
with_receive s Q0 queue = record s { receive_0 = queue }
with_receive s Q1 queue = record s { receive_1 = queue }

abbrev pub with_transmit : State → Queue → TransmitQueue → State
with_transmit s Q0 queue = record s { transmit_0 = queue }
with_transmit s Q1 queue = record s { transmit_1 = queue }

-- ---- changes

-- a change of the causes
abbrev pub with_change : State → Change CauseState → Change State
with_change s c = record { state = record s { causes = c.state }; messages = c.messages }

-- ---- what the memory answered

-- the function with all that was read from its memory meanwhile written into it
abbrev pub told : List Access → List Access → State → State
told before now s = record s { memory = met before now s.memory }

-- ---- a frame that comes

-- frames placed are counted, modulo 2^32
abbrev pub counted : Placed → ℕ → ℕ
counted Put n = (n + 1) % 2 ^ 32
counted NoRoom n = n
counted Faulted n = n

-- the cause of receive queue 0, whose vector is the lowest byte, is raised where a frame was placed
abbrev pub announced : Placed → ℕ → CauseState → Change CauseState
announced Put vectors c = raised_by c (field vectors RECEIVE_VECTOR_0 VECTOR_SIZE)
announced NoRoom vectors c = silent c
announced Faulted vectors c = silent c

abbrev pub after_placing : State → Delivery → Change State
after_placing s d =
    with_change
    (record s {
      memory = d.memory;
      receive_0 = record s.receive_0 { ring = d.ring };
      frames_received = counted d.placed s.frames_received;
      losses = lost_placing d.placed s.losses;
    })
    (announced d.placed s.queue_vectors s.causes)

-- receive queue 0 has legacy descriptors
abbrev pub receives_legacy : State → Bool
receives_legacy s = is_legacy s.offloads.legacy_receive s.receive_0

-- how receive queue 0 places frames
abbrev pub receive_config : State → RxConfig
receive_config s = record {
  buffer_size = 1024 * (s.receive_0.buffers % BUFFER_SIZES);
  strip_tag = s.receive_0.strips_tag;
  format = if receives_legacy s then Legacy else Advanced;
  check_sums = s.offloads.receive_checksum;
}

-- it places none where its descriptors are legacy ones, with which it is also on before its buffers have a size
abbrev pub places_none : State → Bool
places_none s = receives_legacy s && not (has_size s.receive_0)

-- a frame that comes then finds no room
abbrev pub unplaced : State → Change State
unplaced s = silent (record s { losses = turned_away s.losses })

-- a frame comes to the function, from the wire or from another pool; it goes to receive queue 0
unfoldable pub delivered : Bool → List ℕ → State → Change State
delivered loopback frame s =
    if places_none s then unplaced s else after_placing s (deliver (receive_config s) loopback frame s.memory s.receive_0.ring)

-- the accesses to its memory that this makes
abbrev pub delivered_accesses : Bool → List ℕ → State → List Access
delivered_accesses loopback frame s =
    if places_none s then [] else deliver_accesses (receive_config s) loopback frame s.memory s.receive_0.ring

-- ---- the cause "other"

-- it is raised, by the vector that VTIVAR_MISC names
unfoldable pub other_raised_in : State → Change State
other_raised_in s = with_change s (raised_by s.causes (field s.other_vector OTHER_VECTOR VECTOR_SIZE))

-- ---- the service of a transmit queue

-- the byte of the vectors that is of a transmit queue
abbrev pub transmit_vector : ℕ → Queue → ℕ
transmit_vector vectors Q0 = field vectors TRANSMIT_VECTOR_0 VECTOR_SIZE
transmit_vector vectors Q1 = field vectors TRANSMIT_VECTOR_1 VECTOR_SIZE

-- under which terms its queues send
abbrev pub terms_of : ℕ → PortVlan → State → Terms
terms_of limit rule s = record { rule = rule; limit = limit; offloads = s.offloads }

-- one descriptor taken, or one segment
abbrev pub fetched_from : ℕ → PortVlan → State → Queue → Serving
fetched_from limit rule s q = fetch_with (terms_of limit rule s) s.memory (transmit_of s q).ring (transmit_of s q).sending

-- the accesses to the memory that this makes
abbrev pub fetched_accesses : ℕ → PortVlan → State → Queue → List Access
fetched_accesses limit rule s q = fetch_with_accesses (terms_of limit rule s) s.memory (transmit_of s q).ring (transmit_of s q).sending

-- why the descriptor that this takes cannot be used, if it can't
abbrev pub misused_from : ℕ → PortVlan → State → Queue → Option Misuse
misused_from limit rule s q = misuse_at (terms_of limit rule s) s.memory (transmit_of s q).ring (transmit_of s q).sending

-- what could not be done is counted, modulo 2^32
abbrev pub counted_short : Bool → ℕ → ℕ
counted_short true n = (n + 1) % 2 ^ 32
counted_short false n = n

-- the state with what this left
abbrev pub with_fetching : State → Queue → Serving → Option Misuse → State
with_fetching s q v why =
    with_transmit
    (record s { memory = v.memory; shortfalls = counted_short v.falls_short s.shortfalls; losses = lost_taking q why s.losses })
    q
    (record { ring = v.ring; sending = v.sending })

-- the queue's cause is raised where the descriptor was written back
abbrev pub reported : Bool → ℕ → CauseState → Change CauseState
reported true entry c = raised_by c entry
reported false entry c = silent c

-- the state after a service of the queue, and the messages of its report
unfoldable pub after_fetching : ℕ → PortVlan → State → Queue → Change State
after_fetching limit rule s q =
    with_change
    (with_fetching s q (fetched_from limit rule s q) (misused_from limit rule s q))
    (reported (fetched_from limit rule s q).reported (transmit_vector s.queue_vectors q) s.causes)
