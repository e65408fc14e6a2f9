-- What a function counts of what was lost, and all that it has counted.
use Rattle.std.specs.Prelude.{◌≡◌, ◌+◌, ◌%◌, ◌^◌, Option, Some, None}
use Rattle.rx_desc.specs.declared.placing.Placed.{Placed}
use Rattle.rx_desc.specs.declared.placing.Placed.TheVariants.{Put, NoRoom, Faulted}
use Rattle.tx_desc.specs.declared.outcome.Misuse.{Misuse}
use Rattle.vf_unit.specs.declared.registers.Queue.{Queue}
use Rattle.vf_unit.specs.declared.counts.QueueFault.{QueueFault}
use Rattle.vf_unit.specs.declared.counts.QueueFault.TheVariants.{Receive, Transmit}
use Rattle.vf_unit.specs.declared.counts.Losses.{Losses}
use Rattle.vf_unit.specs.declared.counts.Counts.{Counts}

-- nothing was lost
abbrev pub no_losses : Losses
no_losses = record { no_room = 0; refused = 0; faults = 0; last_fault = None }

-- a frame came and found no room
abbrev pub turned_away : Losses → Losses
turned_away l = record l { no_room = (l.no_room + 1) % 2 ^ 32 }

-- the sender's check refused a frame
abbrev pub sender_refused : Losses → Losses
sender_refused l = record l { refused = (l.refused + 1) % 2 ^ 32 }

-- a fault stopped a queue
abbrev pub stopped : QueueFault → Losses → Losses
stopped fault l = record l { faults = (l.faults + 1) % 2 ^ 32; last_fault = Some fault }

-- a frame came, and this became of it
abbrev pub lost_placing : Placed → Losses → Losses
lost_placing Put l = l
lost_placing NoRoom l = turned_away l
lost_placing Faulted l = stopped Receive l

-- a descriptor of the queue was taken, which cannot be used where there is a reason
abbrev pub lost_taking : Queue → Option Misuse → Losses → Losses
lost_taking q None l = l
lost_taking q (Some why) l = stopped (Transmit q why) l

-- nothing was counted
abbrev pub no_counts : Counts
no_counts = record { received = 0; sent = 0; no_room = 0; refused = 0; faults = 0; last_fault = None; shortfalls = 0 }

-- of a frame that came one number is one more, modulo 2^32, and the others are as they were: it was placed, it found no room, or it
-- stopped the receive queue
pub data CountsOnce (before after : Counts) : Type 0 where
  IsPlaced : after ≡ record before { received = (before.received + 1) % 2 ^ 32 } → CountsOnce before after
  HasNoRoom : after ≡ record before { no_room = (before.no_room + 1) % 2 ^ 32 } → CountsOnce before after
  StopsQueue : after ≡ record before { faults = (before.faults + 1) % 2 ^ 32; last_fault = Some Receive } → CountsOnce before after
