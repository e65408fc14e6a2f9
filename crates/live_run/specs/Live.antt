-- Runs of a device while guests write their memories, and what each function sees of them.
use Rattle.std.specs.Prelude.{◌≡◌, ℕ, ◌<◌, Bool, List, [], ◌∷◌, ◌++◌, map, length}
use Rattle.std.specs.List.{cons_option, range_with_len}
use Rattle.live_memory.specs.Trace.{Access}
use Rattle.device.specs.Events.{Event}
use Rattle.device.specs.declared.event.Answer.{Answer}
use Rattle.device.specs.World.{World, step}
use Rattle.device.specs.Accesses.{accesses_by}
use Rattle.device.specs.Lone.{Item, OwnEvent, Observation, Lone, kept, lone_of, lone_after, lone_seen, seen_by}
use Rattle.device.specs.LoneAccesses.{lone_made}
use Rattle.device.specs.Live.{TracedWorld, trace_of, told_world, own_writes, writes_of, AreMet, AreListed}

-- all accesses that were made to the memory of each function, by some moment
abbrev pub Noted : Type 0
Noted = List (List Access)

-- ---- the run: what was noted before the first event, and after each event

-- each event is taken in the world in which the functions' memories hold what was read from them meanwhile
unfoldable pub live_after : World → Noted → List Event → List Noted → World
live_after w b [] ts = w
live_after w b (e ∷ es) [] = w
live_after w b (e ∷ es) (t ∷ ts) = live_after (step (told_world b t w) e).world t es ts

unfoldable pub live_answers : World → Noted → List Event → List Noted → List Answer
live_answers w b [] ts = []
live_answers w b (e ∷ es) [] = []
live_answers w b (e ∷ es) (t ∷ ts) = (step (told_world b t w) e).answer ∷ live_answers (step (told_world b t w) e).world t es ts

-- in each event no byte was read after it was read or written, and the memories were accessed just as the event's list says
unfoldable pub AllMet : Bool → World → Noted → List Event → List Noted → Type 0
AllMet shared w b [] ts = Unit {0}
AllMet shared w b (e ∷ es) [] = Unit {0}
AllMet shared w b (e ∷ es) (t ∷ ts) =
    (AreMet shared b t w × AreListed (accesses_by (told_world b t w) e) b t) × AllMet shared (step (told_world b t w) e).world t es ts

-- what was noted last
unfoldable pub last_of : Noted → List Noted → Noted
last_of b [] = b
last_of b (t ∷ ts) = last_of t ts

-- ---- the same run as a list of events

-- before each event, each function writes itself just what its memory answered
unfoldable pub with_writes : ℕ → Noted → List Event → List Noted → List Event
with_writes n b [] ts = []
with_writes n b (e ∷ es) [] = []
with_writes n b (e ∷ es) (t ∷ ts) = writes_of b t (range_with_len 0 n) ++ e ∷ with_writes n t es ts

-- ---- what a lone function is given of it

-- for an event: what the function's own memory answered, as writes of its own, and what is kept of the event
pub record Given : Type 0 where
  pub answered : List Item
  pub kept : List Item

unfoldable pub given_of : ℕ → World → Noted → List Event → List Noted → List Given
given_of p w b [] ts = []
given_of p w b (e ∷ es) [] = []
given_of p w b (e ∷ es) (t ∷ ts) =
    record { answered = map OwnEvent (own_writes b t p); kept = cons_option (kept p (told_world b t w) e) [] } ∷ given_of p (step (told_world b t w) e).world t es ts

-- what it is after that, what it sees of the events, and what it does with its memory
unfoldable pub lone_live : Lone → List Given → Lone
lone_live s [] = s
lone_live s (g ∷ gs) = lone_live (lone_after (lone_after s g.answered) g.kept) gs

unfoldable pub lone_live_seen : Lone → List Given → List Observation
lone_live_seen s [] = []
lone_live_seen s (g ∷ gs) = lone_seen (lone_after s g.answered) g.kept ++ lone_live_seen (lone_after (lone_after s g.answered) g.kept) gs

unfoldable pub lone_live_made : Lone → List Given → List Access
lone_live_made s [] = []
lone_live_made s (g ∷ gs) = lone_made (lone_after s g.answered) g.kept ++ lone_live_made (lone_after (lone_after s g.answered) g.kept) gs

-- ---- isolation

-- what function p sees of the run is what its lone function sees, that is given what is kept for it and what its own memory answered
abbrev pub SeesAsLone : ℕ → TracedWorld → List Event → List Noted → List Answer → Type 0
SeesAsLone p old events noted answers = seen_by p events answers ≡ lone_live_seen (lone_of p old.world) (given_of p old.world old.accesses events noted)

-- in the world after it, it is as that lone function is left
abbrev pub EndsAsLone : ℕ → TracedWorld → List Event → List Noted → World → Type 0
EndsAsLone p old events noted after = lone_of p after ≡ lone_live (lone_of p old.world) (given_of p old.world old.accesses events noted)

-- and its memory was accessed as by that lone function, in the same order
abbrev pub AccessesAsLone : ℕ → TracedWorld → List Event → List Noted → Noted → Type 0
AccessesAsLone p old events noted after = trace_of after p ≡ trace_of old.accesses p ++ lone_live_made (lone_of p old.world) (given_of p old.world old.accesses events noted)

-- ---- a run

-- a device took the events in turn, and to each function this was as if it were alone
pub record IsLiveRun (shared : Bool) (old : TracedWorld) (events : List Event) (answers : List Answer) (new : TracedWorld) : Type 0 where
  -- what was noted after each event
  pub noted : List Noted
  pub each : length noted ≡ length events
  pub answered : answers ≡ live_answers old.world old.accesses events noted
  pub world : new.world ≡ live_after old.world old.accesses events noted
  pub accesses : new.accesses ≡ last_of old.accesses noted
  pub met : AllMet shared old.world old.accesses events noted
  pub sees : (p : ℕ) → p < length old.world.functions → SeesAsLone p old events noted answers
  pub ends : (p : ℕ) → p < length old.world.functions → EndsAsLone p old events noted new.world
  pub does : (p : ℕ) → p < length old.world.functions → AccessesAsLone p old events noted new.accesses
