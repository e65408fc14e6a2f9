-- What a function has counted, as C sees it.
use Rattle.std.specs.Prelude.{ℕ, nat_lt, length, slice_index, Option, Some, None, if◌then◌else◌}
use Rattle.wire_frame.specs.declared.fault.Fault.TheVariants.{NoSuchVf}
use Rattle.local_switch.specs.declared.ways.Source.TheVariants.{Wire, Pool}
use Rattle.tx_desc.specs.declared.outcome.Misuse.{Misuse}
use Rattle.tx_desc.specs.declared.outcome.Misuse.TheVariants.{UnknownType, NotOffered, PastMemory}
use Rattle.vf_unit.specs.Unit.{counts_of}
use Rattle.vf_unit.specs.declared.counts.Counts.{Counts}
use Rattle.vf_unit.specs.declared.counts.QueueFault.{QueueFault}
use Rattle.vf_unit.specs.declared.counts.QueueFault.TheVariants.{Receive, Transmit}
use Rattle.vf_unit.specs.declared.registers.Queue.{Queue}
use Rattle.vf_unit.specs.declared.registers.Queue.TheVariants.{Q0, Q1}
use Rattle.device.specs.World.{World, function_of, place_of}
use Rattle.vfdev_c.specs.Handle.{Held, numbered, refused_as}
use Rattle.vfdev_c.specs.declared.counts.VfdevCounts.{VfdevCounts}
use Rattle.vfdev_c.specs.declared.handle_state.HandleState.TheVariants.{Made, Kept, Lent, Guests}
use Rattle.vfdev_c.specs.declared.reply.VfdevReply.{VfdevReply}

-- ---- the last fault

-- why a descriptor of a transmit queue can't be used
abbrev pub misuse_number : Misuse → ℕ
misuse_number UnknownType = 2
misuse_number NotOffered = 3
misuse_number PastMemory = 4

-- why a queue was stopped, and 0 where none was
abbrev pub fault_number : Option QueueFault → ℕ
fault_number None = 0
fault_number (Some Receive) = 1
fault_number (Some (Transmit q why)) = misuse_number why

abbrev pub queue_number : Queue → ℕ
queue_number Q0 = 0
queue_number Q1 = 1

-- the transmit queue that was stopped, and 0 where none was
abbrev pub queue_of_fault : Option QueueFault → ℕ
queue_of_fault None = 0
queue_of_fault (Some Receive) = 0
queue_of_fault (Some (Transmit q why)) = queue_number q

-- ---- all numbers

-- what a function has counted, with how many of its frames nobody got
abbrev pub counts_shown : Counts → ℕ → VfdevCounts
counts_shown c unclaimed = record {
  received = c.received;
  sent = c.sent;
  no_room = c.no_room;
  refused = c.refused;
  unclaimed = unclaimed;
  faults = c.faults;
  shortfalls = c.shortfalls;
  last_fault = fault_number c.last_fault;
  last_queue = queue_of_fault c.last_fault;
}

abbrev pub none_counted : VfdevCounts
none_counted = record { received = 0; sent = 0; no_room = 0; refused = 0; unclaimed = 0; faults = 0; shortfalls = 0; last_fault = 0; last_queue = 0 }

-- of function p of a world, where there is one
abbrev pub counted_at : ℕ → World → VfdevCounts
counted_at p w = if nat_lt p (length w.functions) then counts_shown (counts_of (function_of p w)) (slice_index w.unclaimed (place_of (Pool p))) else none_counted

-- what is replied to who asks for them
abbrev pub count_reply : ℕ → World → VfdevReply
count_reply p w = if nat_lt p (length w.functions) then numbered 0 0 else refused_as NoSuchVf

-- how many frames from the wire nobody got
abbrev pub unclaimed_in : World → ℕ
unclaimed_in w = slice_index w.unclaimed (place_of Wire)

-- what a call answers of the world of a device, and what it answers where the handle leads to none
abbrev pub of_device : {A : Type 0} → Held → A → (World → A) → A
of_device (Some (Made w)) none f = f w
of_device (Some (Kept r)) none f = f r.live
of_device (Some (Lent l)) none f = f l.world
of_device (Some (Guests g)) none f = f g.device.world
of_device held none f = none
