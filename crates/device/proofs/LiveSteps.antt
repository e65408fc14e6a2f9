-- Steps of a world in which functions' memories hold what they answered.
use Rattle.std.proofs.Common.{◌≡◌, ◌≢◌, ◌<◌, ◌⊎◌, inl, inr, ℕ, Bool, true, false, eqb, nat_lt, List, [], ◌++◌, length, get_or, set, append-nil, refl, sym, ap, subst, ◌∙◌}
use Rattle.std.proofs.lemmas.Bool.Decides.{eqb_tells}
use Rattle.std.specs.Prelude.{if◌then◌else◌}
use Rattle.std.proofs.lemmas.List.{length-set, get_or-set_same, get_or-set_other, get_or_default}
use Rattle.std.proofs.lemmas.List.FromFn.{fill_by_all}
use Rattle.wire_frame.specs.declared.fault.Fault.TheVariants.{NoSuchVf}
use Rattle.live_memory.specs.Trace.{Access}
use Rattle.vf_unit.specs.declared.registers.Queue.{Queue}
use Rattle.vf_unit.specs.Unit.{Function, Closed, IsMet, told_of}
use Rattle.vf_unit.proofs.Told.{told_still, met_nothing}
use Rattle.pool_filter.specs.Settings.{Settings}
use Rattle.pool_filter.specs.Own.{own}
use Rattle.device.specs.Events.{Event}
use Rattle.device.specs.Act.{act, serve}
use Rattle.device.specs.World.{World, function_of, own_step, acted, refused, service}
use Rattle.device.specs.Live.{trace_of, told_at, told_functions, told_world, told_service, AreMet, AreListed}
use Rattle.device.proofs.LiveLemmas.{length_told, get_told}

-- ---- one pool's memory was touched

-- two lists of functions that are the same one by one
same_each : (xs ys : List Function) → length ys ≡ length xs → ((r : ℕ) → r < length xs → get_or ys r (Closed 0) ≡ get_or xs r (Closed 0)) → ys ≡ xs
same_each xs ys len each =
    fill_by_all (λ r. get_or xs r (Closed 0)) ys (length xs) (Closed 0) len each
    ∙ sym (fill_by_all (λ r. get_or xs r (Closed 0)) xs (length xs) (Closed 0) refl (λ r below. refl))

-- where the other memories weren't, a change of that pool's function hides what its memory answered
pub set_told : (before now : List (List Access)) (fs : List Function) (p : ℕ) (f : Function) → ((r : ℕ) → r ≢ p → trace_of now r ≡ trace_of before r) → set (told_functions before now fs) p f ≡ set fs p f
set_told before now fs p f others =
    same_each (set fs p f) (set (told_functions before now fs) p f) (length-set (told_functions before now fs) p f ∙ length_told before now fs ∙ sym (length-set fs p f)) each
  where
    each : (r : ℕ) → r < length (set fs p f) → get_or (set (told_functions before now fs) p f) r (Closed 0) ≡ get_or (set fs p f) r (Closed 0)
    each r below = at (eqb_tells r p)
      where
        inside : r < length fs
        inside = subst (λ n. r < n) (length-set fs p f) below

        at : ((eqb r p ≡ true) × (r ≡ p)) ⊎ ((eqb r p ≡ false) × (r ≢ p)) → get_or (set (told_functions before now fs) p f) r (Closed 0) ≡ get_or (set fs p f) r (Closed 0)
        at (inl is) = subst (λ (k : ℕ). get_or (set (told_functions before now fs) p f) k (Closed 0) ≡ get_or (set fs p f) k (Closed 0)) (sym is.1)
            (get_or-set_same (told_functions before now fs) p f (Closed 0) (subst (λ n. p < n) (sym (length_told before now fs)) (subst (λ (k : ℕ). k < length fs) is.1 inside)) ∙ sym (get_or-set_same fs p f (Closed 0) (subst (λ (k : ℕ). k < length fs) is.1 inside)))
        at (inr other) =
            get_or-set_other (told_functions before now fs) p r f (Closed 0) other.1 ∙ get_told before now fs r
            ∙ told_still (trace_of before r) (trace_of now r) (get_or fs r (Closed 0)) (others r other.1)
            ∙ sym (get_or-set_other fs p r f (Closed 0) other.1)

-- the trace of that pool, and those of others
pub others_stay : (before now : List (List Access)) (p : ℕ) (mine : List Access) → now ≡ set before p mine → (r : ℕ) → r ≢ p → trace_of now r ≡ trace_of before r
others_stay before now p mine became r other = ap (λ (t : List (List Access)). trace_of t r) became ∙ get_or-set_other before p r mine [] other

pub mine_is : (before now : List (List Access)) (p : ℕ) (mine : List Access) → p < length before → now ≡ set before p mine → trace_of now p ≡ mine
mine_is before now p mine below became = ap (λ (t : List (List Access)). trace_of t p) became ∙ get_or-set_same before p mine [] below

pub told_is : (before now : List (List Access)) (fs : List Function) (p : ℕ) (trace mine : List Access) → p < length before → trace ≡ trace_of before p → now ≡ set before p mine → told_at before now fs p ≡ told_of trace mine (get_or fs p (Closed 0))
told_is before now fs p trace mine below begun became =
    (λ i. told_of (sym begun i) (mine_is before now p mine below became i) (get_or fs p (Closed 0)))

pub all_met : (shared : Bool) (before now : List (List Access)) (w : World) (p : ℕ) (trace mine : List Access) → p < length before → trace ≡ trace_of before p → now ≡ set before p mine → IsMet shared (function_of p w) trace mine → AreMet shared before now w
all_met shared before now w p trace mine below begun became met = λ r. at r (eqb_tells r p)
  where
    at : (r : ℕ) → ((eqb r p ≡ true) × (r ≡ p)) ⊎ ((eqb r p ≡ false) × (r ≢ p)) → IsMet shared (function_of r w) (trace_of before r) (trace_of now r)
    at r (inl is) = subst (λ (k : ℕ). IsMet shared (function_of k w) (trace_of before k) (trace_of now k)) (sym is.1) (subst (IsMet shared (function_of p w) (trace_of before p)) (sym (mine_is before now p mine below became)) (subst (λ (t : List Access). IsMet shared (function_of p w) t mine) begun met))
    at r (inr other) = subst (IsMet shared (function_of r w) (trace_of before r)) (sym (others_stay before now p mine became r other.1)) (met_nothing shared (function_of r w) (trace_of before r))

pub all_listed : (before now : List (List Access)) (p : ℕ) (trace mine list : List Access) (own : ℕ → List Access) → p < length before → trace ≡ trace_of before p → now ≡ set before p mine → mine ≡ trace ++ list → list ≡ own p → ((r : ℕ) → r ≢ p → own r ≡ []) → AreListed own before now
all_listed before now p trace mine list own below begun became is here elsewhere = λ r. at r (eqb_tells r p)
  where
    at : (r : ℕ) → ((eqb r p ≡ true) × (r ≡ p)) ⊎ ((eqb r p ≡ false) × (r ≢ p)) → trace_of now r ≡ trace_of before r ++ own r
    at r (inl is_p) = subst (λ (k : ℕ). trace_of now k ≡ trace_of before k ++ own k) (sym is_p.1) (mine_is before now p mine below became ∙ is ∙ (λ i. begun i ++ here i))
    at r (inr other) = others_stay before now p mine became r other.1 ∙ sym (append-nil (trace_of before r)) ∙ ap (λ (t : List Access). trace_of before r ++ t) (sym (elsewhere r other.1))

-- an event of that pool's own
pub own_step_told : (before now : List (List Access)) (w : World) (p : ℕ) (e : Event) (trace mine : List Access) → p < length before → trace ≡ trace_of before p → now ≡ set before p mine
    → own_step (told_world before now w) p e ≡ (if nat_lt p (length w.functions) then acted w p (act (told_of trace mine (function_of p w)) e) else refused (told_world before now w) NoSuchVf)
own_step_told before now w p e trace mine below begun became =
    ap (λ (n : ℕ). if nat_lt p n then acted (told_world before now w) p (act (function_of p (told_world before now w)) e) else refused (told_world before now w) NoSuchVf) (length_told before now w.functions)
    ∙ ap (λ (f : Function). if nat_lt p (length w.functions) then acted (told_world before now w) p (act f e) else refused (told_world before now w) NoSuchVf) (get_told before now w.functions p ∙ told_is before now w.functions p trace mine below begun became)
    ∙ ap (λ (fs : List Function). if nat_lt p (length w.functions) then record { world = record w { functions = fs }; answer = (acted w p (act (told_of trace mine (function_of p w)) e)).answer } else refused (told_world before now w) NoSuchVf)
    (set_told before now w.functions p (act (told_of trace mine (function_of p w)) e).function (others_stay before now p mine became))

-- ---- a service

pub service_told : (before now : List (List Access)) (w : World) (p : ℕ) (q : Queue) → service (told_world before now w) p q ≡ told_service before now w p q
service_told before now w p q = ap (λ (f : Function). serve w.profile.limit (own w.settings p) f q) (get_told before now w.functions p)

pub told_service_is : (before now : List (List Access)) (w : World) (p : ℕ) (q : Queue) (trace mine : List Access) → p < length before → trace ≡ trace_of before p → now ≡ set before p mine → told_service before now w p q ≡ serve w.profile.limit (own w.settings p) (told_of trace mine (function_of p w)) q
told_service_is before now w p q trace mine below begun became = ap (λ (f : Function). serve w.profile.limit (own w.settings p) f q) (told_is before now w.functions p trace mine below begun became)

-- the sender's memory was read first, and then those of others
pub told_service_later : (first mid last : List (List Access)) (w : World) (p : ℕ) (q : Queue) → trace_of last p ≡ trace_of mid p → told_service first last w p q ≡ told_service first mid w p q
told_service_later first mid last w p q same = ap (λ (t : List Access). serve w.profile.limit (own w.settings p) (told_of (trace_of first p) t (function_of p w)) q) same

pub told_in_turn : (first mid last : List (List Access)) (fs : List Function) (p : ℕ) (f : Function) → trace_of last p ≡ trace_of mid p → ((r : ℕ) → r ≢ p → trace_of mid r ≡ trace_of first r) → told_functions mid last (set fs p f) ≡ set (told_functions first last fs) p f
told_in_turn first mid last fs p f same others =
    same_each (set (told_functions first last fs) p f) (told_functions mid last (set fs p f)) (length_told mid last (set fs p f) ∙ length-set fs p f ∙ sym (length-set (told_functions first last fs) p f ∙ length_told first last fs)) each
  where
    each : (r : ℕ) → r < length (set (told_functions first last fs) p f) → get_or (told_functions mid last (set fs p f)) r (Closed 0) ≡ get_or (set (told_functions first last fs) p f) r (Closed 0)
    each r below = at (eqb_tells r p)
      where
        inside : r < length fs
        inside = subst (λ n. r < n) (length-set (told_functions first last fs) p f ∙ length_told first last fs) below

        at : ((eqb r p ≡ true) × (r ≡ p)) ⊎ ((eqb r p ≡ false) × (r ≢ p)) → get_or (told_functions mid last (set fs p f)) r (Closed 0) ≡ get_or (set (told_functions first last fs) p f) r (Closed 0)
        at (inl is) =
            let in_p : p < length fs = subst (λ (k : ℕ). k < length fs) is.1 inside in
            subst (λ (k : ℕ). get_or (told_functions mid last (set fs p f)) k (Closed 0) ≡ get_or (set (told_functions first last fs) p f) k (Closed 0)) (sym is.1)
            (get_told mid last (set fs p f) p ∙ ap (told_of (trace_of mid p) (trace_of last p)) (get_or-set_same fs p f (Closed 0) in_p) ∙ told_still (trace_of mid p) (trace_of last p) f same
            ∙ sym (get_or-set_same (told_functions first last fs) p f (Closed 0) (subst (λ n. p < n) (sym (length_told first last fs)) in_p)))
        at (inr other) =
            get_told mid last (set fs p f) r ∙ ap (told_of (trace_of mid r) (trace_of last r)) (get_or-set_other fs p r f (Closed 0) other.1)
            ∙ ap (λ (t : List Access). told_of t (trace_of last r) (get_or fs r (Closed 0))) (others r other.1)
            ∙ sym (get_or-set_other (told_functions first last fs) p r f (Closed 0) other.1 ∙ get_told first last fs r)

-- ---- a function in its place

pub unit_is : (fs : List Function) (i p : ℕ) (f : Function) → f ≡ get_or fs i f → i ≡ p → p < length fs → f ≡ get_or fs p (Closed 0)
unit_is fs i p f here place below = here ∙ ap (λ (k : ℕ). get_or fs k f) place ∙ get_or_default fs p f (Closed 0) below

pub told_service_by : (before now : List (List Access)) (w : World) (p : ℕ) (q : Queue) (trace mine : List Access) (settings : Settings) (f : Function) → p < length before → trace ≡ trace_of before p → now ≡ set before p mine → settings ≡ w.settings → f ≡ function_of p w
    → serve w.profile.limit (own settings p) (told_of trace mine f) q ≡ told_service before now w p q
told_service_by before now w p q trace mine settings f below begun became same unit =
    (λ i. serve w.profile.limit (own (same i) p) (told_of trace mine (unit i)) q) ∙ sym (told_service_is before now w p q trace mine below begun became)
