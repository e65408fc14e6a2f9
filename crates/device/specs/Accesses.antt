-- The accesses to a function's memory that an event makes, in order.
use Rattle.std.specs.Prelude.{ℕ, nat_lt, ◌==◌, List, [], ◌∷◌, ◌++◌, length, slice_index_or, Option, Some, None, if◌then◌else◌}
use Rattle.live_memory.specs.Trace.{Access}
use Rattle.vf_unit.specs.declared.registers.Queue.{Queue}
use Rattle.vf_unit.specs.Unit.{Function, Closed, given_accesses}
use Rattle.pool_filter.specs.Settings.{Settings}
use Rattle.pool_filter.specs.Own.{own}
use Rattle.local_switch.specs.declared.ways.Source.{Source}
use Rattle.local_switch.specs.declared.ways.Source.TheVariants.{Wire as FromWire, Pool}
use Rattle.local_switch.specs.Switch.{receives}
use Rattle.device.specs.Events.{Event}
use Rattle.device.specs.declared.event.Event.TheVariants.{Open, MemRead, MemWrite, Serve, Wire}
use Rattle.device.specs.Act.{act_accesses, serve_accesses}
use Rattle.device.specs.World.{World, function_of, is_looped, sent_by, step}

-- ---- a frame that is switched

-- to the memory of function r, where it receives the frame
abbrev pub arrived_accesses : Settings → List Function → Source → List ℕ → ℕ → List Access
arrived_accesses s fs from frame r = if receives s from frame r then given_accesses (is_looped from) frame (slice_index_or fs r (Closed 0)) else []

abbrev pub sent_accesses : World → ℕ → Option (List ℕ) → ℕ → List Access
sent_accesses w sender None r = []
sent_accesses w sender (Some frame) r = arrived_accesses w.settings w.functions (Pool sender) frame r

-- those of a service of pool q's queue to its own memory
abbrev pub own_service_accesses : World → ℕ → Queue → ℕ → List Access
own_service_accesses w q queue p = if p == q then serve_accesses w.profile.limit (own w.settings p) (function_of p w) queue else []

-- ---- one event

-- to the memory of function p: those of opening it, those of a read or a write of it, those of a service of its queue, and those of a frame that comes
-- to it, from the wire or from another function
abbrev pub accesses_by : World → Event → ℕ → List Access
accesses_by w (Open q) p = if p == q then act_accesses (function_of p w) (Open q) else []
accesses_by w (MemRead q at count) p = if p == q then act_accesses (function_of p w) (MemRead q at count) else []
accesses_by w (MemWrite q at bytes) p = if p == q then act_accesses (function_of p w) (MemWrite q at bytes) else []
accesses_by w (Serve q queue) p = own_service_accesses w q queue p ++ sent_accesses w q (sent_by w (Serve q queue)) p
accesses_by w (Wire frame) p = if nat_lt w.profile.limit (length frame) then [] else arrived_accesses w.settings w.functions FromWire frame p
accesses_by w _ p = []

-- ---- a list of events

abbrev pub run_accesses : World → List Event → ℕ → List Access
run_accesses w [] p = []
run_accesses w (e ∷ es) p = accesses_by w e p ++ run_accesses (step w e).world es p
