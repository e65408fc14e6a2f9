-- Runs while guests write their memories, without the own events of a group of functions.
use Rattle.std.specs.Prelude.{◌≡◌, ℕ, ◌<◌, Bool, false, List, [], ◌∷◌, ◌++◌, map, length, if◌then◌else◌}
use Rattle.std.specs.List.{range_with_len}
use Rattle.guest_memory.specs.Memory.{Write}
use Rattle.live_memory.specs.Trace.{Access}
use Rattle.device.specs.Events.{Event}
use Rattle.device.specs.World.{World, step}
use Rattle.device.specs.Accesses.{accesses_by}
use Rattle.device.specs.Live.{trace_of, told_world}
use Rattle.device.specs.Erased.{is_groups, answered_in}
use Rattle.live_run.specs.Live.{Noted}

-- the accesses to the memories outside the group: to the group's, none
abbrev pub trace_unless : (ℕ → Bool) → Noted → ℕ → List Access
trace_unless group t r = if group r then [] else trace_of t r

unfoldable pub outside : (ℕ → Bool) → Noted → Noted
outside group t = map (trace_unless group t) (range_with_len 0 (length t))

-- those that were noted after each event that is not the group's own
unfoldable pub erase_noted : (ℕ → Bool) → List Event → List Noted → List Noted
erase_noted group [] ts = []
erase_noted group (e ∷ es) [] = []
erase_noted group (e ∷ es) (t ∷ ts) = if is_groups group e then erase_noted group es ts else outside group t ∷ erase_noted group es ts

-- what the memory of function r answered in each event that is not the group's own
unfoldable pub answers_of : (ℕ → Bool) → ℕ → Noted → List Event → List Noted → List (List Write)
answers_of group r b [] ts = []
answers_of group r b (e ∷ es) [] = []
answers_of group r b (e ∷ es) (t ∷ ts) = if is_groups group e then answers_of group r t es ts else answered_in b t r ∷ answers_of group r t es ts

-- in two runs, the memories outside the group answered the same in these events
abbrev pub AllAnsweredAlike : (ℕ → Bool) → Noted → List Event → List Noted → Noted → List Event → List Noted → Type 0
AllAnsweredAlike group b es ts other_b other_es other_ts = (r : ℕ) → r < 64 → group r ≡ false → answers_of group r b es ts ≡ answers_of group r other_b other_es other_ts

-- the accesses to the memory of function p, of one event after another
unfoldable pub live_accesses : ℕ → World → Noted → List Event → List Noted → List Access
live_accesses p w b [] ts = []
live_accesses p w b (e ∷ es) [] = []
live_accesses p w b (e ∷ es) (t ∷ ts) = accesses_by (told_world b t w) e p ++ live_accesses p (step (told_world b t w) e).world t es ts
