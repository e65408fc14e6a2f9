-- Runs while guests write their memories are runs with writes of the guests' own, and keep the law of isolation.
use Rattle.std.proofs.Common.{◌≡◌, ℕ, ◌<◌, ◌≤◌, Bool, List, [], ◌∷◌, ◌++◌, Option, Some, None, length, map, append-nil, arith, refl, sym, ap, subst, ◌∙◌}
use Rattle.std.proofs.lemmas.List.{append_assoc}
use Rattle.std.specs.List.{cons_option, range_with_len}
use Rattle.device.specs.Events.{Event}
use Rattle.device.specs.World.{World, step, world_after}
use Rattle.device.specs.Lone.{OwnEvent, Lone, kept, lone_of, lone_after, lone_seen, seen_of, seen_by}
use Rattle.device.specs.LoneAccesses.{lone_made}
use Rattle.device.specs.Accesses.{accesses_by}
use Rattle.device.specs.Live.{trace_of, told_world, own_writes, writes_of, AreMet}
use Rattle.device.proofs.Append.{world_after_append}
use Rattle.device.proofs.AccessSteps.{accesses_follow}
use Rattle.device.proofs.Shape.{step_shape}
use Rattle.device.proofs.Unwinding.{isolated_sight, isolated_state}
use Rattle.device.proofs.LiveWrites.{written_by_each}
use Rattle.device.proofs.LiveLemmas.{length_told}
use Rattle.live_run.specs.Live.{Noted, live_after, live_answers, last_of, AllMet, with_writes, given_of, lone_live, lone_live_seen, lone_live_made}
use Rattle.live_run.proofs.Writes.{kept_writes}

-- as many functions after an event
pub same_count : (w : World) (b t : Noted) (e : Event) → length (step (told_world b t w) e).world.functions ≡ length w.functions
same_count w b t e = (step_shape (told_world b t w) e).functions ∙ length_told b t w.functions

-- ---- as a list of events

pub as_events : (shared : Bool) (w : World) (es : List Event) (b : Noted) (ts : List Noted) (n : ℕ) → length w.functions ≡ n → AllMet shared w b es ts → length ts ≡ length es → live_after w b es ts ≡ world_after w (with_writes n b es ts)
unfolding live_after AllMet with_writes
as_events shared w [] b ts n count traced same = refl
as_events shared w (e ∷ es) b [] n count traced same = absurd (omega (arith, same))
as_events shared w (e ∷ es) b (t ∷ ts) n count traced same =
    let w' : World = (step (told_world b t w) e).world in
    let met : world_after w (writes_of b t (range_with_len 0 n)) ≡ told_world b t w = ap (λ (k : ℕ). world_after w (writes_of b t (range_with_len 0 k))) (sym count) ∙ written_by_each shared b t w traced.0.0 in
    as_events shared w' es t ts n (same_count w b t e ∙ count) traced.1 (omega (arith, same))
    ∙ ap (λ (v : World). world_after (step v e).world (with_writes n t es ts)) (sym met)
    ∙ sym (world_after_append w (writes_of b t (range_with_len 0 n)) (e ∷ with_writes n t es ts))

-- ---- isolation

-- what the function is in the world that was met
met_lone : (shared : Bool) (p : ℕ) (w : World) (b t : Noted) → p < length w.functions → length w.functions ≤ 64 → AreMet shared b t w → lone_of p (told_world b t w) ≡ lone_after (lone_of p w) (map OwnEvent (own_writes b t p))
met_lone shared p w b t below few traced =
    ap (lone_of p) (sym (written_by_each shared b t w traced))
    ∙ isolated_state p w (writes_of b t (range_with_len 0 (length w.functions))) below few
    ∙ ap (lone_after (lone_of p w)) (kept_writes p 0 (length w.functions) b t w (omega arith) (omega (arith, below)))

-- an event adds what is seen of it to what is seen of the rest
pub cons_append : {X : Type 0} (x : Option X) (xs : List X) → cons_option x xs ≡ cons_option x [] ++ xs
cons_append None xs = refl
cons_append (Some x) xs = refl

pub live_state : (shared : Bool) (p : ℕ) (w : World) (es : List Event) (b : Noted) (ts : List Noted) → p < length w.functions → length w.functions ≤ 64 → AllMet shared w b es ts → lone_of p (live_after w b es ts) ≡ lone_live (lone_of p w) (given_of p w b es ts)
unfolding live_after AllMet given_of lone_live
live_state shared p w [] b ts below few traced = refl
live_state shared p w (e ∷ es) b [] below few traced = refl
live_state shared p w (e ∷ es) b (t ∷ ts) below few traced =
    let v : World = told_world b t w in
    let w' : World = (step v e).world in
    let count = same_count w b t e in
    let in_v : p < length v.functions = subst (λ (n : ℕ). p < n) (sym (length_told b t w.functions)) below in
    let few_v : length v.functions ≤ 64 = subst (λ (n : ℕ). n ≤ 64) (sym (length_told b t w.functions)) few in
    let here : lone_of p w' ≡ lone_after (lone_after (lone_of p w) (map OwnEvent (own_writes b t p))) (cons_option (kept p v e) []) =
    isolated_state p v (e ∷ []) in_v few_v ∙ ap (λ (s : Lone). lone_after s (cons_option (kept p v e) [])) (met_lone shared p w b t below few traced.0.0) in
    live_state shared p w' es t ts (subst (λ (n : ℕ). p < n) (sym count) below) (subst (λ (n : ℕ). n ≤ 64) (sym count) few) traced.1
    ∙ ap (λ (s : Lone). lone_live s (given_of p w' t es ts)) here

pub live_sight : (shared : Bool) (p : ℕ) (w : World) (es : List Event) (b : Noted) (ts : List Noted) → p < length w.functions → length w.functions ≤ 64 → AllMet shared w b es ts → length ts ≡ length es → seen_by p es (live_answers w b es ts) ≡ lone_live_seen (lone_of p w) (given_of p w b es ts)
unfolding live_answers AllMet given_of lone_live_seen
live_sight shared p w [] b ts below few traced same = refl
live_sight shared p w (e ∷ es) b [] below few traced same = absurd (omega (arith, same))
live_sight shared p w (e ∷ es) b (t ∷ ts) below few traced same =
    let v : World = told_world b t w in
    let w' : World = (step v e).world in
    let count = same_count w b t e in
    let in_v : p < length v.functions = subst (λ (n : ℕ). p < n) (sym (length_told b t w.functions)) below in
    let few_v : length v.functions ≤ 64 = subst (λ (n : ℕ). n ≤ 64) (sym (length_told b t w.functions)) few in
    let lone = met_lone shared p w b t below few traced.0.0 in
    let here : lone_of p w' ≡ lone_after (lone_after (lone_of p w) (map OwnEvent (own_writes b t p))) (cons_option (kept p v e) []) =
    isolated_state p v (e ∷ []) in_v few_v ∙ ap (λ (s : Lone). lone_after s (cons_option (kept p v e) [])) lone in
    let sight : cons_option (seen_of p e (step v e).answer) [] ≡ lone_seen (lone_after (lone_of p w) (map OwnEvent (own_writes b t p))) (cons_option (kept p v e) []) =
    isolated_sight p v (e ∷ []) in_v few_v ∙ ap (λ (s : Lone). lone_seen s (cons_option (kept p v e) [])) lone in
    let rest = live_sight shared p w' es t ts (subst (λ (n : ℕ). p < n) (sym count) below) (subst (λ (n : ℕ). n ≤ 64) (sym count) few) traced.1 (omega (arith, same)) ∙ ap (λ (s : Lone). lone_live_seen s (given_of p w' t es ts)) here in
    cons_append (seen_of p e (step v e).answer) (seen_by p es (live_answers w' t es ts)) ∙ (λ i. sight i ++ rest i)

-- and its memory is accessed as by the lone function
pub live_made : (shared : Bool) (p : ℕ) (w : World) (es : List Event) (b : Noted) (ts : List Noted) → p < length w.functions → length w.functions ≤ 64 → AllMet shared w b es ts → length ts ≡ length es
    → trace_of (last_of b ts) p ≡ trace_of b p ++ lone_live_made (lone_of p w) (given_of p w b es ts)
unfolding last_of AllMet given_of lone_live_made
live_made shared p w [] b [] below few traced same = sym (append-nil (trace_of b p))
live_made shared p w [] b (t ∷ ts) below few traced same = absurd (omega (arith, same))
live_made shared p w (e ∷ es) b [] below few traced same = absurd (omega (arith, same))
live_made shared p w (e ∷ es) b (t ∷ ts) below few traced same =
    let v : World = told_world b t w in
    let w' : World = (step v e).world in
    let count = same_count w b t e in
    let in_v : p < length v.functions = subst (λ (n : ℕ). p < n) (sym (length_told b t w.functions)) below in
    let few_v : length v.functions ≤ 64 = subst (λ (n : ℕ). n ≤ 64) (sym (length_told b t w.functions)) few in
    let lone = met_lone shared p w b t below few traced.0.0 in
    let here : lone_of p w' ≡ lone_after (lone_after (lone_of p w) (map OwnEvent (own_writes b t p))) (cons_option (kept p v e) []) =
    isolated_state p v (e ∷ []) in_v few_v ∙ ap (λ (s : Lone). lone_after s (cons_option (kept p v e) [])) lone in
    let one : accesses_by v e p ≡ lone_made (lone_after (lone_of p w) (map OwnEvent (own_writes b t p))) (cons_option (kept p v e) []) =
    accesses_follow p v e ∙ ap (λ (s : Lone). lone_made s (cons_option (kept p v e) [])) lone in
    live_made shared p w' es t ts (subst (λ (n : ℕ). p < n) (sym count) below) (subst (λ (n : ℕ). n ≤ 64) (sym count) few) traced.1 (omega (arith, same))
    ∙ (λ i. traced.0.1 p i ++ lone_live_made (here i) (given_of p w' t es ts))
    ∙ (λ i. (trace_of b p ++ one i) ++ lone_live_made (lone_after (lone_after (lone_of p w) (map OwnEvent (own_writes b t p))) (cons_option (kept p v e) [])) (given_of p w' t es ts))
    ∙ append_assoc (trace_of b p) _ _
