-- A world in which functions' memories hold what they answered is the world after each function wrote just that.
use Rattle.std.proofs.Common.{◌≡◌, ℕ, zero, suc, ◌+◌, ◌<◌, ◌≤◌, ◌⊎◌, inl, inr, Bool, true, false, nat_lt, nat_le, List, [], ◌∷◌, length, map, get_or, set, arith, refl, sym, ap, subst, ◌∙◌}
use Rattle.std.specs.List.{range_with_len}
use Rattle.std.proofs.lemmas.List.{set-get_or, length-set, get_or-set_same, get_or-set_other}
use Rattle.std.proofs.lemmas.Bool.{cases_lt}
use Rattle.guest_memory.specs.Memory.{Write, overwrite, write_all}
use Rattle.live_memory.specs.Trace.{Access, Read, Wrote, since, reads, met, ReadOnce}
use Rattle.live_memory.proofs.Written.{size_written}
use Rattle.vf_unit.specs.Function.{State}
use Rattle.vf_unit.specs.Unit.{Function, Closed, Open, IsMet, size_of, told_of, memory_written}
use Rattle.device.specs.Events.{Event}
use Rattle.device.specs.declared.event.Event.TheVariants.{MemWrite}
use Rattle.device.specs.Act.{act, refusal}
use Rattle.device.specs.World.{World, step, function_of, with_function, world_after}
use Rattle.device.specs.Live.{trace_of, told_at, told_world, AreMet, own_writes, writes_of}
use Rattle.device.proofs.Append.{world_after_append}
use Rattle.device.proofs.LiveLemmas.{told_as}

abbrev writing : ℕ → List Write → List Event
writing p ws = map (λ w. MemWrite p w.at w.bytes) ws

abbrev with_memory : State → List ℕ → State
with_memory s memory = record s { memory = memory }

there : (p : ℕ) (w : World) → p < length w.functions → nat_lt p (length w.functions) ≡ true
there p w below = grind (arith, below)

inside : (n at len : ℕ) → at + len ≤ n → nat_lt n (at + len) ≡ false
inside n at len fits = grind (arith, fits)

inside_too : (n at len : ℕ) → at + len ≤ n → nat_le (at + len) n ≡ true
inside_too n at len fits = grind (arith, fits)

act_open : (p at : ℕ) (bytes : List ℕ) (s : State) → at + length bytes ≤ length s.memory → (act (Open s) (MemWrite p at bytes)).function ≡ Open (with_memory s (overwrite at bytes s.memory))
unfolding act refusal memory_written
act_open p at bytes s fits = rw (inside (length s.memory) at (length bytes) fits) (rw (inside_too (length s.memory) at (length bytes) fits) refl)

act_closed : (p at n : ℕ) (bytes : List ℕ) → (act (Closed n) (MemWrite p at bytes)).function ≡ Closed n
unfolding act refusal
act_closed p at n bytes = refl

step_own : (p at : ℕ) (bytes : List ℕ) (w : World) → p < length w.functions → (step w (MemWrite p at bytes)).world ≡ with_function w p (act (function_of p w) (MemWrite p at bytes)).function
step_own p at bytes w below = rw (there p w below) refl

same_functions : (w : World) (fs gs : List Function) → fs ≡ gs → record w { functions = fs } ≡ record w { functions = gs }
same_functions w fs gs same = ap (λ hs. record w { functions = hs }) same

set_again : {X : Type 0} (xs : List X) (p : ℕ) (x y : X) → set (set xs p x) p y ≡ set xs p y
set_again [] p x y = refl
set_again (z ∷ xs) zero x y = refl
set_again (z ∷ xs) (suc p) x y = ap (λ ys. z ∷ ys) (set_again xs p x y)

-- a function that is open
written_open : (p n : ℕ) (t : List Access) (w : World) (s : State) → p < length w.functions → function_of p w ≡ Open s → length s.memory ≡ n → ReadOnce n t
    → world_after w (writing p (reads t)) ≡ with_function w p (Open (with_memory s (write_all (reads t) s.memory)))
unfolding reads write_all ReadOnce
written_open p n [] w s below is size once = same_functions w w.functions (set w.functions p (Open s)) (sym (ap (set w.functions p) (sym is) ∙ set-get_or w.functions p (Closed 0)))
written_open p n (Read at bytes ∷ t) w s below is size once =
    let fits : at + length bytes ≤ length s.memory = omega (arith, size, once.0) in
    let s' : State = with_memory s (overwrite at bytes s.memory) in
    let w' : World = with_function w p (Open s') in
    let first : (step w (MemWrite p at bytes)).world ≡ w' = step_own p at bytes w below ∙ ap (λ f. with_function w p (act f (MemWrite p at bytes)).function) is ∙ ap (with_function w p) (act_open p at bytes s fits) in
    let below' : p < length w'.functions = subst (λ k. p < k) (sym (length-set w.functions p (Open s'))) below in
    ap (λ v. world_after v (writing p (reads t))) first
    ∙ written_open p n t w' s' below' (get_or-set_same w.functions p (Open s') (Closed 0) below) (size_written at bytes s.memory fits ∙ size) once.1.1
    ∙ same_functions w _ _ (set_again w.functions p (Open s') (Open (with_memory s' (write_all (reads t) s'.memory))))
written_open p n (Wrote at bytes ∷ t) w s below is size once = written_open p n t w s below is size once.1.1

-- one that is closed: each write is refused
written_closed : (p n : ℕ) (ws : List Write) (w : World) → p < length w.functions → function_of p w ≡ Closed n → world_after w (writing p ws) ≡ w
written_closed p n [] w below is = refl
written_closed p n (v ∷ ws) w below is =
    let first : (step w (MemWrite p v.at v.bytes)).world ≡ w =
    step_own p v.at v.bytes w below ∙ ap (λ f. with_function w p (act f (MemWrite p v.at v.bytes)).function) is ∙ ap (with_function w p) (act_closed p v.at n v.bytes ∙ sym is)
    ∙ same_functions w _ _ (set-get_or w.functions p (Closed 0)) in
    ap (λ u. world_after u (writing p ws)) first ∙ written_closed p n ws w below is

pub own_written : (shared : Bool) (before now : List (List Access)) (w : World) (p : ℕ) → p < length w.functions → IsMet shared (function_of p w) (trace_of before p) (trace_of now p)
    → world_after w (own_writes before now p) ≡ with_function w p (told_at before now w.functions p)
unfolding told_of met
own_written shared before now w p below traced = at (function_of p w) refl
  where
    at : (f : Function) → function_of p w ≡ f → world_after w (own_writes before now p) ≡ with_function w p (told_at before now w.functions p)
    at (Closed n) is =
        written_closed p n (reads (since (trace_of before p) (trace_of now p))) w below is
        ∙ same_functions w _ _ (sym (ap (λ f. set w.functions p (told_of (trace_of before p) (trace_of now p) f)) is ∙ ap (set w.functions p) (sym is) ∙ set-get_or w.functions p (Closed 0)))
    at (Open s) is =
        written_open p (length s.memory) (since (trace_of before p) (trace_of now p)) w s below is refl (subst (λ f. ReadOnce (size_of f) (since (trace_of before p) (trace_of now p))) is traced.once)
        ∙ sym (ap (λ f. with_function w p (told_of (trace_of before p) (trace_of now p) f)) is)

-- ---- all functions in turn

-- the functions below a wrote what their memories answered, and the others have not yet
record Reached (before now : List (List Access)) (w v : World) (a : ℕ) : Type 0 where
  rest : v ≡ record w { functions = v.functions }
  len : length v.functions ≡ length w.functions
  done : (r : ℕ) → r < a → get_or v.functions r (Closed 0) ≡ told_at before now w.functions r
  left : (r : ℕ) → a ≤ r → get_or v.functions r (Closed 0) ≡ get_or w.functions r (Closed 0)

one_more : (shared : Bool) (before now : List (List Access)) (w v : World) (a : ℕ) → AreMet shared before now w → a < length w.functions → Reached before now w v a
    → Reached before now w (world_after v (own_writes before now a)) (a + 1)
one_more shared before now w v a traced below so_far =
    subst (λ u. Reached before now w u (a + 1)) (sym (wrote ∙ ap (with_function v a) same)) (record {
      rest = λ i. with_function (so_far.rest i) a (told_at before now w.functions a);
      len = length-set v.functions a (told_at before now w.functions a) ∙ so_far.len;
      done = λ r under. done_at r under (cases_lt r a);
      left = λ r over. get_or-set_other v.functions a r (told_at before now w.functions a) (Closed 0) (λ equal. absurd (omega (arith, over, equal))) ∙ so_far.left r (omega (arith, over));
    })
  where
    in_v : a < length v.functions
    in_v = subst (λ n. a < n) (sym so_far.len) below

    unit : get_or v.functions a (Closed 0) ≡ get_or w.functions a (Closed 0)
    unit = so_far.left a (omega arith)

    same : told_at before now v.functions a ≡ told_at before now w.functions a
    same = ap (told_of (trace_of before a) (trace_of now a)) unit

    wrote : world_after v (own_writes before now a) ≡ with_function v a (told_at before now v.functions a)
    wrote = own_written shared before now v a in_v (subst (λ f. IsMet shared f (trace_of before a) (trace_of now a)) (sym unit) (traced a))

    done_at : (r : ℕ) → r < a + 1 → (r < a) ⊎ (a ≤ r) → get_or (set v.functions a (told_at before now w.functions a)) r (Closed 0) ≡ told_at before now w.functions r
    done_at r under (inl earlier) = get_or-set_other v.functions a r (told_at before now w.functions a) (Closed 0) (λ equal. absurd (omega (arith, earlier, equal))) ∙ so_far.done r earlier
    done_at r under (inr last) =
        let here : a ≡ r = omega (arith, under, last) in
        subst (λ k. get_or (set v.functions a (told_at before now w.functions a)) k (Closed 0) ≡ told_at before now w.functions k) here (get_or-set_same v.functions a (told_at before now w.functions a) (Closed 0) in_v)

in_turn : (shared : Bool) (before now : List (List Access)) (w v : World) (a m : ℕ) → AreMet shared before now w → a + m ≡ length w.functions → Reached before now w v a
    → Reached before now w (world_after v (writes_of before now (range_with_len a m))) (length w.functions)
in_turn shared before now w v a zero traced whole so_far = subst (Reached before now w v) (omega (arith, whole)) so_far
in_turn shared before now w v a (suc m) traced whole so_far =
    subst (λ u. Reached before now w u (length w.functions)) (sym (world_after_append v (own_writes before now a) (writes_of before now (range_with_len (a + 1) m))))
    (in_turn shared before now w (world_after v (own_writes before now a)) (a + 1) m traced (omega (arith, whole)) (one_more shared before now w v a traced (omega (arith, whole)) so_far))

pub written_by_each : (shared : Bool) (before now : List (List Access)) (w : World) → AreMet shared before now w → world_after w (writes_of before now (range_with_len 0 (length w.functions))) ≡ told_world before now w
written_by_each shared before now w traced =
    let all = in_turn shared before now w w 0 (length w.functions) traced (omega arith) (record { rest = refl; len = refl; done = λ r under. absurd (omega (arith, under)); left = λ r over. refl }) in
    all.rest ∙ ap (λ fs. record w { functions = fs }) (told_as before now w.functions (world_after w (writes_of before now (range_with_len 0 (length w.functions)))).functions all.len all.done)
