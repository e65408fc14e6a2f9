-- The accesses of a list of events to a function's memory are those of the lone function that is given what is kept of the list.
use Rattle.std.proofs.Common.{◌≡◌, ℕ, ◌<◌, ◌≤◌, List, [], ◌∷◌, ◌++◌, Option, Some, None, append-nil, refl, sym, ap, ◌∙◌, subst, arith, length}
use Rattle.std.specs.List.{cons_option}
use Rattle.device.specs.Events.{Event}
use Rattle.device.specs.World.{World, step}
use Rattle.device.specs.Accesses.{run_accesses}
use Rattle.device.specs.Lone.{Item, Observation, Lone, lone_of, kept, keep, seen_of}
use Rattle.device.specs.LoneAccesses.{made_by, lone_made}
use Rattle.device.proofs.AccessSteps.{accesses_follow}
use Rattle.device.proofs.Steps.{Follows, step_follows}
use Rattle.device.proofs.Shape.{SameShape, step_shape}

-- those of an event, and then those of the rest
made_on : (s : Lone) (seen : Option Observation) (after : Lone) (k : Option Item) → Follows s seen after k → (ks : List Item) → lone_made s (cons_option k []) ++ lone_made after ks ≡ lone_made s (cons_option k ks)
made_on s seen after None h ks = ap (λ (u : Lone). lone_made u ks) h.1
made_on s seen after (Some k) h ks = λ i. append-nil (made_by s k) i ++ lone_made (h.1 i) ks

pub all_follow : (p : ℕ) (w : World) (events : List Event) → p < length w.functions → length w.functions ≤ 64 → run_accesses w events p ≡ lone_made (lone_of p w) (keep p w events)
all_follow p w [] below few = refl
all_follow p w (e ∷ es) below few =
    let w' : World = (step w e).world in
    let shape : SameShape w w' = step_shape w e in
    let rest : run_accesses w' es p ≡ lone_made (lone_of p w') (keep p w' es) =
    all_follow p w' es (subst (λ n. p < n) (sym shape.functions) below) (subst (λ n. n ≤ 64) (sym shape.functions) few) in
    (λ i. accesses_follow p w e i ++ rest i)
    ∙ made_on (lone_of p w) (seen_of p e (step w e).answer) (lone_of p w') (kept p w e) (step_follows p w e below (omega arith)) (keep p w' es)
