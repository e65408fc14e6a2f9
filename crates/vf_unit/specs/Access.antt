-- What register accesses do to an open virtual function.
use Rattle.std.specs.Prelude.{ℕ, ◌+◌, ◌/◌, ◌^◌, Bool, true, ◌&&◌, ◌||◌, ◌==◌, [], length, bit_and, if◌then◌else◌}
use Rattle.wire_frame.specs.Bits.{has_bit, with_bit}
use Rattle.rings.specs.Ring.{RingState, ring_word, ring_written, turned}
use Rattle.tx_desc.specs.Offloaded.{nothing_sent}
use Rattle.irq_causes.specs.Causes.{CauseState, Change, silent, all_raised, all_unmasked, masked, auto_clearing, auto_masking, cleared, emptied}
use Rattle.vf_unit.specs.Words.{LINK_UP, ENABLE, VME, RST, DESCTYPE, ADVANCED, DROP_EN, SRRCTL_KEPT, VTIVAR_KEPT, VTIVAR_MISC_KEPT, VTEITR_KEPT}
use Rattle.vf_unit.specs.declared.intervals.Vector.{Vector}
use Rattle.vf_unit.specs.Intervals.{word_for, with_word}
use Rattle.vf_unit.specs.declared.queues.ReceiveQueue.{ReceiveQueue}
use Rattle.vf_unit.specs.declared.queues.TransmitQueue.{TransmitQueue}
use Rattle.vf_unit.specs.declared.registers.Register.{Register}
use Rattle.vf_unit.specs.declared.registers.Register.TheVariants.{Nowhere, Control, Links, CauseRead, CauseSet, MaskSet, MaskClear, AutoClear, AutoMask, QueueVectors, OtherVector, Interval, Receive, ReceiveBuffers, ReceiveControl, Transmit, TransmitControl, FramesReceived, FramesSent}
use Rattle.vf_unit.specs.Registers.{register_at}
use Rattle.vf_unit.specs.Function.{State, initial_with, is_legacy, has_size, with_change, receive_of, transmit_of, with_receive, with_transmit}

-- ---- reads

-- ENABLE of RXDCTL or TXDCTL, where the queue is on
abbrev pub enable_word : RingState → ℕ
enable_word r = if r.enabled then 2 ^ ENABLE else 0

-- what a register reads
unfoldable pub word : State → Register → ℕ
word s Links = LINK_UP
word s CauseRead = s.causes.causes
word s MaskSet = s.causes.enabled
word s AutoClear = s.causes.auto_clear
word s AutoMask = s.causes.auto_mask
word s QueueVectors = s.queue_vectors
word s OtherVector = s.other_vector
word s (Interval v) = word_for s.intervals v
word s (Receive q register) = ring_word (receive_of s q).ring register
word s (ReceiveBuffers q) = with_bit (receive_of s q).buffers DROP_EN
word s (ReceiveControl q) = enable_word (receive_of s q).ring + (if (receive_of s q).strips_tag then 2 ^ VME else 0)
word s (Transmit q register) = ring_word (transmit_of s q).ring register
word s (TransmitControl q) = enable_word (transmit_of s q).ring
word s FramesReceived = s.frames_received
word s FramesSent = s.frames_sent
word s Control = 0
word s CauseSet = 0
word s MaskClear = 0
word s Nowhere = 0

abbrev pub with_causes : State → CauseState → State
with_causes s c = record s { causes = c }

-- what a read leaves: reading the causes empties them
unfoldable pub after_read : State → Register → State
after_read s CauseRead = with_causes s (emptied s.causes)
after_read s _ = s

-- ---- writes

-- SRRCTL, written: ignored while the queue is on, but where its descriptors are legacy ones and stay so
abbrev pub buffers_written : Bool → ReceiveQueue → ℕ → ReceiveQueue
buffers_written legacy queue x = let written = record queue { buffers = bit_and x SRRCTL_KEPT } in
    if queue.ring.enabled then (if is_legacy legacy queue && is_legacy legacy written then written else queue) else written

-- a queue may go on: with legacy descriptors, whatever the size of its buffers, or with advanced ones and buffers of 1 to 16 KiB
abbrev pub may_receive : Bool → ReceiveQueue → Bool
may_receive legacy queue = is_legacy legacy queue || ((queue.buffers / 2 ^ DESCTYPE == ADVANCED) && has_size queue)

-- RXDCTL, written, in a memory of n bytes: ENABLE turns the queue on or off, VME is whether tags are stripped
abbrev pub receive_switched : Bool → ℕ → ReceiveQueue → ℕ → ReceiveQueue
receive_switched legacy n queue x =
    record { ring = turned (has_bit x ENABLE) (may_receive legacy queue) n queue.ring; buffers = queue.buffers; strips_tag = has_bit x VME }

-- TXDCTL, written: a queue that goes off loses all that was being sent, and its contexts
abbrev pub transmit_switched : ℕ → TransmitQueue → ℕ → TransmitQueue
transmit_switched n queue x =
    record { ring = turned (has_bit x ENABLE) true n queue.ring; sending = if has_bit x ENABLE then queue.sending else nothing_sent }

-- EIAM, written: ignored where the device masks no vector by itself
abbrev pub auto_mask_written : State → ℕ → State
auto_mask_written s x = if s.offloads.auto_mask then with_causes s (auto_masking s.causes x) else s

-- EITR of a vector, written: ignored where the device keeps no intervals
abbrev pub interval_written : State → Vector → ℕ → State
interval_written s v x = if s.offloads.throttle then record s { intervals = with_word s.intervals v (bit_and x VTEITR_KEPT) } else s

-- what a write of x to a register does
unfoldable pub register_written : State → Register → ℕ → Change State
register_written s Control x = silent (if has_bit x RST then initial_with s.offloads s.memory else s)
register_written s CauseRead x = silent (with_causes s (cleared s.causes x))
register_written s CauseSet x = with_change s (all_raised s.causes x)
register_written s MaskSet x = with_change s (all_unmasked s.causes x)
register_written s MaskClear x = silent (with_causes s (masked s.causes x))
register_written s AutoClear x = silent (with_causes s (auto_clearing s.causes x))
register_written s AutoMask x = silent (auto_mask_written s x)
register_written s QueueVectors x = silent (record s { queue_vectors = bit_and x VTIVAR_KEPT })
register_written s OtherVector x = silent (record s { other_vector = bit_and x VTIVAR_MISC_KEPT })
register_written s (Interval v) x = silent (interval_written s v x)
register_written s (Receive q register) x =
    silent (with_receive s q (record (receive_of s q) { ring = ring_written (receive_of s q).ring register x }))
register_written s (ReceiveBuffers q) x = silent (with_receive s q (buffers_written s.offloads.legacy_receive (receive_of s q) x))
register_written s (ReceiveControl q) x =
    silent (with_receive s q (receive_switched s.offloads.legacy_receive (length s.memory) (receive_of s q) x))
register_written s (Transmit q register) x =
    silent (with_transmit s q (record (transmit_of s q) { ring = ring_written (transmit_of s q).ring register x }))
register_written s (TransmitControl q) x = silent (with_transmit s q (transmit_switched (length s.memory) (transmit_of s q) x))
register_written s _ x = silent s

-- ---- by offset

abbrev pub word_at_offset : State → ℕ → ℕ
word_at_offset s offset = word s (register_at offset)

abbrev pub after_read_at : State → ℕ → State
after_read_at s offset = after_read s (register_at offset)

abbrev pub written_at : State → ℕ → ℕ → Change State
written_at s offset x = register_written s (register_at offset) x
