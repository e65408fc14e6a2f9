-- Runs of a device to which guests come, and from which they go, and whose host raises a function's cause "other".
use Rattle.std.specs.Prelude.{ℕ, ◌==◌, not, List, [], ◌∷◌, ◌++◌, length, Option, Some, None, if◌then◌else◌}
use Rattle.std.specs.List.{cons_option}
use Rattle.std.specs.Option.{option_map}
use Rattle.live_memory.specs.Trace.{Access}
use Rattle.wire_frame.specs.declared.fault.Fault.{Fault}
use Rattle.wire_frame.specs.declared.fault.Fault.TheVariants.{AlreadyOpen, BadMake}
use Rattle.vf_unit.specs.Function.{initial_with}
use Rattle.vf_unit.specs.Guests.{moved_to}
use Rattle.vf_unit.specs.Unit.{Function, Closed, Open, other_raised, size_of}
use Rattle.device.specs.Accesses.{accesses_by}
use Rattle.device.specs.Events.{Event}
use Rattle.device.specs.Guests.{is_guest_size, attach_refusal, attached, detached, replace_refusal, over_memory, prompted, prompt_messages}
use Rattle.device.specs.Lone.{Item, Observation, Lone, kept, moved, shown, seen_of, with_unit}
use Rattle.device.specs.LoneAccesses.{made_by}
use Rattle.device.specs.World.{World, function_of, step}

-- ---- a device, step by step

-- the device has an event; a guest comes to a function, with its memory; a guest goes from one; one gets another memory; the cause "other"
-- of one is raised
pub data Step : Type 0 where
  Happens : (event : Event) → Step
  Comes : (pool : ℕ) → (memory : List ℕ) → Step
  Goes : (pool : ℕ) → Step
  Replaces : (pool : ℕ) → (memory : List ℕ) → Step
  Prompts : (pool : ℕ) → Step

-- a guest that is refused changes nothing, and so does a memory
abbrev pub came : World → ℕ → List ℕ → Option Fault → World
came w p memory None = attached w p memory
came w p memory (Some fault) = w

abbrev pub replaced : World → ℕ → List ℕ → Option Fault → World
replaced w p memory None = over_memory w p memory
replaced w p memory (Some fault) = w

abbrev pub stepped : World → Step → World
stepped w (Happens e) = (step w e).world
stepped w (Comes p memory) = came w p memory (attach_refusal w p (length memory))
stepped w (Goes p) = detached w p
stepped w (Replaces p memory) = replaced w p memory (replace_refusal w p (length memory))
stepped w (Prompts p) = prompted w p

abbrev pub after_steps : World → List Step → World
after_steps w [] = w
after_steps w (t ∷ ts) = after_steps (stepped w t) ts

-- ---- what function p shows

-- what it shows in an event; whether its guest was taken; what its guest left behind; whether it has another memory, and what it was; the
-- vectors whose messages its cause "other" issued
pub data Sight : Type 0 where
  Saw : (observation : Observation) → Sight
  Came : (refusal : Option Fault) → Sight
  Went : (function : Function) → Sight
  Got : (refusal : Option Fault) → (function : Function) → Sight
  Prompted : (vectors : ℕ) → Sight

abbrev pub sight_in : ℕ → World → Step → Option Sight
sight_in p w (Happens e) = option_map Saw (seen_of p e (step w e).answer)
sight_in p w (Comes q memory) = if q == p then Some (Came (attach_refusal w q (length memory))) else None
sight_in p w (Goes q) = if q == p then Some (Went (function_of q w)) else None
sight_in p w (Replaces q memory) = if q == p then Some (Got (replace_refusal w q (length memory)) (function_of q w)) else None
sight_in p w (Prompts q) = if q == p then Some (Prompted (prompt_messages w q)) else None

abbrev pub sights : ℕ → World → List Step → List Sight
sights p w [] = []
sights p w (t ∷ ts) = cons_option (sight_in p w t) (sights p (stepped w t) ts)

-- the accesses to its memory: events alone make any
abbrev pub accesses_in : ℕ → World → Step → List Access
accesses_in p w (Happens e) = accesses_by w e p
accesses_in p w _ = []

abbrev pub all_accesses : ℕ → World → List Step → List Access
all_accesses p w [] = []
all_accesses p w (t ∷ ts) = accesses_in p w t ++ all_accesses p (stepped w t) ts

-- ---- a lone function to which guests come, and from which they go

-- what a device leaves for it: of an event, its guest with the memory that it brings, that its guest goes, another memory, or that its cause
-- "other" is raised
pub data GuestItem : Type 0 where
  Kept : (item : Item) → GuestItem
  Attach : (memory : List ℕ) → GuestItem
  Detach : GuestItem
  Replace : (memory : List ℕ) → GuestItem
  Prompt : GuestItem

abbrev pub kept_in : ℕ → World → Step → Option GuestItem
kept_in p w (Happens e) = option_map Kept (kept p w e)
kept_in p w (Comes q memory) = if q == p then Some (Attach memory) else None
kept_in p w (Goes q) = if q == p then Some Detach else None
kept_in p w (Replaces q memory) = if q == p then Some (Replace memory) else None
kept_in p w (Prompts q) = if q == p then Some Prompt else None

abbrev pub keep_steps : ℕ → World → List Step → List GuestItem
keep_steps p w [] = []
keep_steps p w (t ∷ ts) = cons_option (kept_in p w t) (keep_steps p (stepped w t) ts)

-- why its guest can't come: the first line that fits
abbrev pub lone_refusal : Lone → ℕ → Option Fault
lone_refusal s n = if not (size_of s.function == 0) then Some AlreadyOpen
    else (if not (is_guest_size n) then Some BadMake
    else None)

abbrev pub came_alone : Lone → List ℕ → Option Fault → Lone
came_alone s memory None = with_unit s (Open (initial_with s.profile.offloads memory))
came_alone s memory (Some fault) = s

-- why it can't have a memory of so many bytes
abbrev pub replace_refusal_alone : Lone → ℕ → Option Fault
replace_refusal_alone s n = if not (size_of s.function == n) then Some BadMake else None

abbrev pub replaced_alone : Lone → List ℕ → Option Fault → Lone
replaced_alone s memory None = with_unit s (moved_to s.function memory)
replaced_alone s memory (Some fault) = s

abbrev pub moved_on : Lone → GuestItem → Lone
moved_on s (Kept k) = moved s k
moved_on s (Attach memory) = came_alone s memory (lone_refusal s (length memory))
moved_on s Detach = if size_of s.function == 0 then s else with_unit s (Closed 0)
moved_on s (Replace memory) = replaced_alone s memory (replace_refusal_alone s (length memory))
moved_on s Prompt = with_unit s (other_raised s.function).state

abbrev pub shown_on : Lone → GuestItem → Option Sight
shown_on s (Kept k) = option_map Saw (shown s k)
shown_on s (Attach memory) = Some (Came (lone_refusal s (length memory)))
shown_on s Detach = Some (Went s.function)
shown_on s (Replace memory) = Some (Got (replace_refusal_alone s (length memory)) s.function)
shown_on s Prompt = Some (Prompted (other_raised s.function).messages)

abbrev pub made_on : Lone → GuestItem → List Access
made_on s (Kept k) = made_by s k
made_on s _ = []

abbrev pub lone_end : Lone → List GuestItem → Lone
lone_end s [] = s
lone_end s (k ∷ ks) = lone_end (moved_on s k) ks

abbrev pub lone_sights : Lone → List GuestItem → List Sight
lone_sights s [] = []
lone_sights s (k ∷ ks) = cons_option (shown_on s k) (lone_sights (moved_on s k) ks)

abbrev pub lone_accesses : Lone → List GuestItem → List Access
lone_accesses s [] = []
lone_accesses s (k ∷ ks) = made_on s k ++ lone_accesses (moved_on s k) ks
