-- A device whose guests' memories are exchanged: the memory that comes back, and what stays of the other functions.
use Rattle.std.proofs.Common.{◌≡◌, ◌≢◌, ℕ, Bool, true, false, List, None, set, refl, ap, ◌∙◌}
use Rattle.std.specs.Prelude.{if◌then◌else◌}
use Rattle.std.proofs.lemmas.List.{get_or-set_other}
use Rattle.vf_unit.specs.Function.{initial_with}
use Rattle.vf_unit.specs.Guests.{IsFormer}
use Rattle.vf_unit.specs.Unit.{Function, Closed, Open}
use Rattle.live_memory.specs.Trace.{Access}
use Rattle.device.specs.Guests.{attached, detached, is_vacant, over_memory, replace_refusal}
use Rattle.device.specs.Live.{TracedWorld, trace_of}
use Rattle.device.specs.Lone.{Lone, lone_of}
use Rattle.pool_filter.specs.Own.{own}
use Rattle.device.specs.World.{World, function_of, with_function}
use Rattle.spare_memory.specs.Devices.{IsDeviceOver, IsDeviceRemapped, LeavesTheOthers}
use Rattle.spare_memory.proofs.Remapped.{not_touched, over_back, there}

-- nothing is another once the memory is back that was taken out
pub back_again : (p n : ℕ) (old mid new : TracedWorld) (a b e : List ℕ) → replace_refusal old.world p n ≡ None → IsFormer (function_of p old.world) b → e ≡ b
    → IsDeviceOver p old a mid → IsDeviceOver p mid e new → IsDeviceRemapped p old new
back_again p n old mid new a b e taken former same out back = record {
  world = back.world ∙ (λ i. over_memory (out.world i) p (same i)) ∙ over_back old.world p a b (there old.world p n taken) former;
  elsewhere = λ q other. back.elsewhere q other ∙ out.elsewhere q other;
}

-- ---- the other functions

abbrev lone_with : World → ℕ → Function → Lone
lone_with w q f = record { profile = w.profile; function = f; settings = own w.settings q }

changed_alone : (w : World) (p : ℕ) (f : Function) (q : ℕ) → q ≢ p → lone_of q (with_function w p f) ≡ lone_of q w
changed_alone w p f q other = ap (lone_with w q) (get_or-set_other w.functions p q f (Closed 0) other)

vacated_alone : (w : World) (p q : ℕ) → q ≢ p → (b : Bool) → lone_of q (if b then w else with_function w p (Closed 0)) ≡ lone_of q w
vacated_alone w p q other true = refl
vacated_alone w p q other false = changed_alone w p (Closed 0) q other

pub came_alone : (p : ℕ) (old new : TracedWorld) (memory : List ℕ) (noted : List Access) → new.world ≡ attached old.world p memory → new.accesses ≡ set old.accesses p noted
    → LeavesTheOthers p old new
came_alone p old new memory noted came touched = record {
  functions = λ q other. ap (λ (w : World). lone_of q w) came ∙ changed_alone old.world p (Open (initial_with old.world.profile.offloads memory)) q other;
  accesses = not_touched p old.accesses new.accesses noted touched;
}

pub went_alone : (p : ℕ) (old new : TracedWorld) (noted : List Access) → new.world ≡ detached old.world p → new.accesses ≡ set old.accesses p noted → LeavesTheOthers p old new
went_alone p old new noted went touched = record {
  functions = λ q other. ap (λ (w : World). lone_of q w) went ∙ vacated_alone old.world p q other (is_vacant old.world p);
  accesses = not_touched p old.accesses new.accesses noted touched;
}

pub stays_alone : (p : ℕ) (old new : TracedWorld) → new ≡ old → LeavesTheOthers p old new
stays_alone p old new same = record {
  functions = λ q other. ap (λ (t : TracedWorld). lone_of q t.world) same;
  accesses = λ q other. ap (λ (t : TracedWorld). trace_of t.accesses q) same;
}
