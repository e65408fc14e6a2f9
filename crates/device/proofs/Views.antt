-- What a device shows of its functions: what each is, and the accesses that were made to its memory.
use Rattle.std.proofs.Common.{◌≡◌, ◌<◌, ℕ, List, ◌∙◌, sym, ap, subst, length, map, set, get_or}
use lib.Seq.{map-set, map-set_same}
use lib.ListN.{get_or-map}
use Rattle.std.proofs.lemmas.List.{get_or_default, length-map}
use Rattle.live_memory.specs.Trace.{Access}
use Rattle.vf_unit.specs.Unit.{Function, TracedFunction, Closed, met_function}
use Rattle.device.specs.Units.{nobody}
use Rattle.device.specs.Live.{trace_of, told_at}

abbrev pub functions_of : List TracedFunction → List Function
functions_of us = map (λ (u : TracedFunction). u.function) us

abbrev pub traces_of : List TracedFunction → List (List Access)
traces_of us = map (λ (u : TracedFunction). u.accesses) us

pub lengths : (us : List TracedFunction) → length (functions_of us) ≡ length us
lengths us = length-map us (λ (u : TracedFunction). u.function)

-- ---- one of them

pub function_at : (us : List TracedFunction) (p : ℕ) → get_or (functions_of us) p (Closed 0) ≡ (get_or us p nobody).function
function_at us p = get_or-map (λ (u : TracedFunction). u.function) us p nobody

pub trace_at : (us : List TracedFunction) (p : ℕ) → trace_of (traces_of us) p ≡ (get_or us p nobody).accesses
trace_at us p = get_or-map (λ (u : TracedFunction). u.accesses) us p nobody

-- the function that was met is that of the two records
pub met_at : (us vs : List TracedFunction) (p : ℕ) → told_at (traces_of us) (traces_of vs) (functions_of us) p ≡ met_function (get_or us p nobody) (get_or vs p nobody)
met_at us vs p = λ i. met_function (record { function = function_at us p i; accesses = trace_at us p i }) (record { function = function_at vs p i; accesses = trace_at vs p i })

-- function p stands at place i
pub record IsHere (us : List TracedFunction) (i p : ℕ) (here : TracedFunction) : Type 0 where
  pub place : i ≡ p
  pub below : i < length us
  pub is : here ≡ get_or us i here

at_place : (us : List TracedFunction) (i p : ℕ) (here : TracedFunction) → IsHere us i p here → get_or us p nobody ≡ here
at_place us i p here h = subst (λ (k : ℕ). get_or us k nobody ≡ here) h.place (sym (h.is ∙ get_or_default us i here nobody h.below))

pub function_here : (us : List TracedFunction) (i p : ℕ) (here : TracedFunction) → IsHere us i p here → get_or (functions_of us) p (Closed 0) ≡ here.function
function_here us i p here h = function_at us p ∙ ap (λ (u : TracedFunction). u.function) (at_place us i p here h)

pub trace_here : (us : List TracedFunction) (i p : ℕ) (here : TracedFunction) → IsHere us i p here → here.accesses ≡ trace_of (traces_of us) p
trace_here us i p here h = sym (trace_at us p ∙ ap (λ (u : TracedFunction). u.accesses) (at_place us i p here h))

pub there : (us : List TracedFunction) (i p : ℕ) (here : TracedFunction) → IsHere us i p here → p < length (functions_of us)
there us i p here h = subst (λ (n : ℕ). p < n) (sym (length-map us (λ (u : TracedFunction). u.function))) (subst (λ (k : ℕ). k < length us) h.place h.below)

pub noted : (us : List TracedFunction) (i p : ℕ) (here : TracedFunction) → IsHere us i p here → p < length (traces_of us)
noted us i p here h = subst (λ (n : ℕ). p < n) (sym (length-map us (λ (u : TracedFunction). u.accesses))) (subst (λ (k : ℕ). k < length us) h.place h.below)

-- ---- one was changed

pub functions_now : (us : List TracedFunction) (i p : ℕ) (here new : TracedFunction) → IsHere us i p here → functions_of (set us i new) ≡ set (functions_of us) p new.function
functions_now us i p here new h = map-set (λ (v : TracedFunction). v.function) us i new ∙ ap (λ (k : ℕ). set (functions_of us) k new.function) h.place

pub traces_now : (us : List TracedFunction) (i p : ℕ) (here new : TracedFunction) → IsHere us i p here → traces_of (set us i new) ≡ set (traces_of us) p new.accesses
traces_now us i p here new h = map-set (λ (v : TracedFunction). v.accesses) us i new ∙ ap (λ (k : ℕ). set (traces_of us) k new.accesses) h.place

-- but for its memory
pub traces_kept : (us : List TracedFunction) (i p : ℕ) (here new : TracedFunction) → IsHere us i p here → new.accesses ≡ here.accesses → traces_of (set us i new) ≡ traces_of us
traces_kept us i p here new h same = map-set_same (λ (v : TracedFunction). v.accesses) us i new here (same ∙ ap (λ (u : TracedFunction). u.accesses) h.is)
