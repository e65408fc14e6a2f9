-- What a device makes of an event where others write the memories of its functions meanwhile.
use Rattle.std.specs.Prelude.{◌≡◌, ℕ, Bool, List, [], ◌∷◌, ◌++◌, map, length, slice_index_or}
use Rattle.std.specs.List.{range_with_len}
use Rattle.live_memory.specs.Trace.{Access, since, reads}
use Rattle.vf_unit.specs.Unit.{Function, Closed, IsMet, told_of}
use Rattle.device.specs.Events.{Event}
use Rattle.device.specs.declared.event.Event.TheVariants.{MemWrite}
use Rattle.device.specs.declared.response.Response.{Response}
use Rattle.device.specs.declared.room.Room.{Room}
use Rattle.pool_filter.specs.Own.{own}
use Rattle.vf_unit.specs.declared.registers.Queue.{Queue}
use Rattle.device.specs.Act.{Service, serve}
use Rattle.device.specs.World.{World, function_of}
use Rattle.device.specs.Takes.{Takes}

-- a device's world, with all accesses that were made to the memory of each function, the oldest first
pub record TracedWorld : Type 0 where
  pub world : World
  pub accesses : List (List Access)

-- the accesses to the memory of function p
abbrev pub trace_of : List (List Access) → ℕ → List Access
trace_of accesses p = slice_index_or accesses p []

-- the memory of each function was accessed like that, between what was done before and what was done by now
abbrev pub AreListed : (ℕ → List Access) → List (List Access) → List (List Access) → Type 0
AreListed own before now = (p : ℕ) → trace_of now p ≡ trace_of before p ++ own p

-- ---- the functions

-- function p, with all that was read from its memory meanwhile written into it
abbrev pub told_at : List (List Access) → List (List Access) → List Function → ℕ → Function
told_at before now functions p = told_of (trace_of before p) (trace_of now p) (slice_index_or functions p (Closed 0))

unfoldable pub told_functions : List (List Access) → List (List Access) → List Function → List Function
told_functions before now functions = map (told_at before now functions) (range_with_len 0 (length functions))

abbrev pub told_world : List (List Access) → List (List Access) → World → World
told_world before now w = record { profile = w.profile; settings = w.settings; resets = w.resets; functions = told_functions before now w.functions; wire = w.wire; unclaimed = w.unclaimed }

-- ---- one event

-- the service of a pool's queue, where its memory answered so
abbrev pub told_service : List (List Access) → List (List Access) → World → ℕ → Queue → Service
told_service before now w p q = serve w.profile.limit (own w.settings p) (told_at before now w.functions p) q

-- no byte of a function's memory was read after it was read or written, and where nobody else writes the memories, the functions
-- that were met are those that were there
abbrev pub AreMet : Bool → List (List Access) → List (List Access) → World → Type 0
AreMet shared before now w = (p : ℕ) → IsMet shared (function_of p w) (trace_of before p) (trace_of now p)

-- the device took the event in the world in which its functions' memories hold what was read from them
pub record TakesLive (shared : Bool) (before now : List (List Access)) (old : World) (event : Event) (new : World) (response : Response) (room : Room) : Type 0 where
  pub takes : Takes (told_world before now old) event new response room
  pub met : AreMet shared before now old

-- ---- as events

-- what function p's memory answered, as writes of the function's own
abbrev pub own_writes : List (List Access) → List (List Access) → ℕ → List Event
own_writes before now p = map (λ w. MemWrite p w.at w.bytes) (reads (since (trace_of before p) (trace_of now p)))

-- those of the functions, one after another
abbrev pub writes_of : List (List Access) → List (List Access) → List ℕ → List Event
writes_of before now [] = []
writes_of before now (p ∷ ps) = own_writes before now p ++ writes_of before now ps
