-- What events leave and show one by one is what they leave and show all together, and the lone function's part of a run.
use Rattle.std.proofs.Common.{◌≡◌, ℕ, ◌<◌, ◌≤◌, List, [], ◌∷◌, Option, Some, None, refl, sym, ap, ◌∙◌, subst, arith, length}
use Rattle.std.proofs.lemmas.List.{length-map}
use Rattle.std.specs.Prelude.{slice_index}
use Rattle.std.specs.List.{cons_option}
use Rattle.device.specs.Events.{Event}
use Rattle.device.specs.World.{World, fresh, step, answers}
use Rattle.device.specs.Lone.{Item, Observation, Lone, lone_of, alone, kept, keep, seen_of, seen_by, moved, shown, lone_seen}
use Rattle.device.proofs.Steps.{Follows, step_follows}
use Rattle.device.proofs.Shape.{SameShape, step_shape}
use Rattle.device.proofs.Unwinding.{lone_of-fresh}
use Rattle.transcript.specs.Lines.{present, numbered, if_any, kept_by_each, seen_by_each, seen_of_each, lone_text, cut_text}
use Rattle.transcript.specs.Text.{seen_line}

pub kept_together : (p : ℕ) (w : World) (events : List Event) → present (kept_by_each p w events) ≡ keep p w events
kept_together p w [] = refl
kept_together p w (e ∷ es) = ap (cons_option (kept p w e)) (kept_together p (step w e).world es)

pub seen_together : (s : Lone) (items : List (Option Item)) → present (seen_by_each s items) ≡ lone_seen s (present items)
seen_together s [] = refl
seen_together s (None ∷ ks) = seen_together s ks
seen_together s (Some k ∷ ks) = ap (cons_option (shown s k)) (seen_together (moved s k) ks)

pub seen_of_together : (p : ℕ) (w : World) (events : List Event) → present (seen_of_each p events (answers w events)) ≡ seen_by p events (answers w events)
seen_of_together p w [] = refl
seen_of_together p w (e ∷ es) = ap (cons_option (seen_of p e (step w e).answer)) (seen_of_together p (step w e).world es)

-- ---- the lone function's part of a run, event by event

seen_on : (s : Lone) (seen : Option Observation) (after : Lone) (k : Option Item) → Follows s seen after k → (ks : List (Option Item))
    → seen_by_each s (k ∷ ks) ≡ seen ∷ seen_by_each after ks
seen_on s seen after None h ks = λ i. sym h.0 i ∷ seen_by_each (sym h.1 i) ks
seen_on s seen after (Some k) h ks = λ i. sym h.0 i ∷ seen_by_each (sym h.1 i) ks

each_cut : (p : ℕ) (w : World) (events : List Event) → p < length w.functions → length w.functions ≤ 64
    → seen_by_each (lone_of p w) (kept_by_each p w events) ≡ seen_of_each p events (answers w events)
each_cut p w [] below few = refl
each_cut p w (e ∷ es) below few =
    let after : World = (step w e).world in
    let shape : SameShape w after = step_shape w e in
    seen_on (lone_of p w) (seen_of p e (step w e).answer) (lone_of p after) (kept p w e) (step_follows p w e below (omega arith)) (kept_by_each p after es)
    ∙ ap (λ (rest : List (Option Observation)). seen_of p e (step w e).answer ∷ rest)
    (each_cut p after es (subst (λ n. p < n) (sym shape.functions) below) (subst (λ n. n ≤ 64) (sym shape.functions) few))

pub text_cut : (p limit : ℕ) (sizes : List ℕ) (events : List Event) → p < length sizes → length sizes ≤ 64
    → lone_text p (alone limit (slice_index sizes p)) (fresh limit sizes) events ≡ cut_text p events (answers (fresh limit sizes) events)
text_cut p limit sizes events below few =
    let w : World = fresh limit sizes in
    let many : length sizes ≡ length w.functions = sym (length-map sizes _) in
    let each = each_cut p w events (subst (λ n. p < n) many below) (subst (λ n. n ≤ 64) many few) in
    ap (λ (seen : List (Option Observation)). numbered (if_any (seen_line p)) 1 seen)
    (ap (λ (s : Lone). seen_by_each s (kept_by_each p w events)) (sym (lone_of-fresh p limit sizes below)) ∙ each)
