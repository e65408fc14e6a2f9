-- A frame comes to functions, one after another.
use Rattle.std.proofs.Common.{◌≡◌, ◌≢◌, ◌≤◌, ◌<◌, ◌⊎◌, inl, inr, ℕ, Bool, true, false, eqb, List, [], ◌++◌, length, map, set, get_or, append-nil, get_or-set_other, arith, refl, sym, ap, subst, ◌∙◌}
use Rattle.std.specs.Prelude.{if◌then◌else◌}
use Rattle.std.specs.Int.{bit_at}
use Rattle.std.proofs.lemmas.Bool.{cases_lt}
use Rattle.std.proofs.lemmas.Bool.Decides.{eqb_tells}
use Rattle.std.proofs.lemmas.List.{get_or_past, get_or-set_same}
use Rattle.wire_frame.specs.Bits.{has_bit}
use Rattle.wire_frame.specs.Pools.{IsLowestTaken}
use Rattle.live_memory.specs.Trace.{Access}
use Rattle.vf_unit.specs.Unit.{Function, TracedFunction, Closed, IsMet, met_function, size_of, given, given_accesses}
use Rattle.vf_unit.proofs.Told.{told_nothing, met_nothing}
use Rattle.pool_filter.specs.Settings.{Settings}
use Rattle.local_switch.specs.declared.ways.Source.{Source}
use Rattle.local_switch.specs.Switch.{receives}
use Rattle.device.specs.World.{World, is_looped, offered, all_arrived, all_raised}
use Rattle.device.specs.Units.{nobody, Offers}
use Rattle.device.specs.Live.{trace_of, told_functions, AreMet, AreListed}
use Rattle.device.specs.Accesses.{arrived_accesses}
use Rattle.device.proofs.Arrivals.{all_arrived_as, all_raised_as, none_there}
use Rattle.device.proofs.LiveLemmas.{length_told, get_told, sizes_as}
use Rattle.device.proofs.Views.{functions_of, traces_of, lengths, function_at, trace_at, met_at}

-- ---- one function

-- a function that the frame doesn't come to
pub kept_from : (shared may loopback : Bool) (frame : List ℕ) (u : TracedFunction) (raised : ℕ) → may ≡ false → raised ≡ 0 → Offers shared may loopback frame u u raised
kept_from shared may loopback frame u raised is silent = record {
  function = rw is (sym (told_nothing u.accesses u.function));
  messages = silent ∙ rw is refl;
  listed = rw is (sym (append-nil u.accesses));
  met = met_nothing shared u.function u.accesses;
  size = refl;
}

-- and one that gets it
pub gets : (shared may loopback : Bool) (frame : List ℕ) (before after : TracedFunction) (raised : ℕ) → may ≡ true → after.function ≡ (given loopback frame (met_function before after)).state → raised ≡ (given loopback frame (met_function before after)).messages
    → after.accesses ≡ before.accesses ++ given_accesses loopback frame (met_function before after) → IsMet shared before.function before.accesses after.accesses → size_of after.function ≡ size_of before.function
    → Offers shared may loopback frame before after raised
gets shared may loopback frame before after raised is function messages listed met size = record {
  function = rw is function;
  messages = rw is messages;
  listed = rw is listed;
  met = met;
  size = size;
}

-- ---- one more

-- the frame came to the function that was taken
pub one_more : (shared loopback : Bool) (frame : List ℕ) (pools : ℕ) (old units : List TracedFunction) (raised now : List ℕ) (rest p after : ℕ) (new : TracedFunction) (vectors : ℕ)
    → IsLowestTaken rest p after → p < length units → p < length raised → now ≡ set raised p vectors → Offers shared (has_bit pools p) loopback frame (get_or old p nobody) new vectors
    → ((k : ℕ) → k < length old → bit_at rest k ≡ 0 → Offers shared (has_bit pools k) loopback frame (get_or old k nobody) (get_or units k nobody) (get_or raised k 0))
    → (k : ℕ) → k < length old → bit_at after k ≡ 0 → Offers shared (has_bit pools k) loopback frame (get_or old k nobody) (get_or (set units p new) k nobody) (get_or now k 0)
one_more shared loopback frame pools old units raised now rest p after new vectors taken there told heard offers done k below clear = at (eqb_tells k p)
  where
    at : ((eqb k p ≡ true) × (k ≡ p)) ⊎ ((eqb k p ≡ false) × (k ≢ p)) → Offers shared (has_bit pools k) loopback frame (get_or old k nobody) (get_or (set units p new) k nobody) (get_or now k 0)
    at (inl same) =
        subst (λ (j : ℕ). Offers shared (has_bit pools j) loopback frame (get_or old j nobody) (get_or (set units p new) j nobody) (get_or now j 0)) (sym same.1)
        (subst (λ (u : TracedFunction). Offers shared (has_bit pools p) loopback frame (get_or old p nobody) u (get_or now p 0)) (sym (get_or-set_same units p new nobody there))
        (subst (λ (n : ℕ). Offers shared (has_bit pools p) loopback frame (get_or old p nobody) new n) (sym (ap (λ (ms : List ℕ). get_or ms p 0) heard ∙ get_or-set_same raised p vectors 0 told)) offers))
    at (inr other) =
        subst (λ (u : TracedFunction). Offers shared (has_bit pools k) loopback frame (get_or old k nobody) u (get_or now k 0)) (sym (get_or-set_other units p k new nobody other.1))
        (subst (λ (n : ℕ). Offers shared (has_bit pools k) loopback frame (get_or old k nobody) (get_or units k nobody) n) (sym (ap (λ (ms : List ℕ). get_or ms k 0) heard ∙ get_or-set_other raised p k vectors 0 other.1))
        (done k below (sym (taken.others k other.1) ∙ clear)))

-- ---- all of them

-- the frame came to each function that is in the set
pub record Delivers (shared loopback : Bool) (frame : List ℕ) (set : ℕ) (old new : List TracedFunction) (raised : List ℕ) : Type 0 where
  pub offers : (r : ℕ) → r < length old → Offers shared (has_bit set r) loopback frame (get_or old r nobody) (get_or new r nobody) (get_or raised r 0)
  pub none : (r : ℕ) → length old ≤ r → get_or raised r 0 ≡ 0
  pub same_length : length new ≡ length old
  pub pools : length raised ≡ 64
  pub few : length old ≤ 64

-- and the set is that of those that receive it
pub record Receivers (s : Settings) (from : Source) (frame : List ℕ) (loopback : Bool) (set : ℕ) : Type 0 where
  pub looped : loopback ≡ is_looped from
  pub are : (p : ℕ) → p < 64 → has_bit set p ≡ receives s from frame p

abbrev told : List TracedFunction → List TracedFunction → List Function
told us vs = told_functions (traces_of us) (traces_of vs) (functions_of us)

told_length : (us vs : List TracedFunction) → length (told us vs) ≡ length us
told_length us vs = length_told (traces_of us) (traces_of vs) (functions_of us) ∙ lengths us

-- what was met is what is told
met_told : (us vs : List TracedFunction) (r : ℕ) → met_function (get_or us r nobody) (get_or vs r nobody) ≡ get_or (told us vs) r (Closed 0)
met_told us vs r = sym (get_told (traces_of us) (traces_of vs) (functions_of us) r ∙ met_at us vs r)

pub came : (shared loopback : Bool) (frame : List ℕ) (set : ℕ) (us vs : List TracedFunction) (raised : List ℕ) (s : Settings) (from : Source)
    → Delivers shared loopback frame set us vs raised → Receivers s from frame loopback set → functions_of vs ≡ all_arrived s (told us vs) from frame
came shared loopback frame set us vs raised s from d receivers =
    all_arrived_as s (told us vs) (functions_of vs) from frame set loopback (subst (λ (n : ℕ). n ≤ 64) (sym (told_length us vs)) d.few) receivers.looped receivers.are
    (lengths vs ∙ d.same_length ∙ sym (told_length us vs))
    (λ r below. function_at vs r ∙ (d.offers r (subst (λ (n : ℕ). r < n) (told_length us vs) below)).function ∙ ap (λ (f : Function). (offered (has_bit set r) loopback frame f).state) (met_told us vs r))

pub heard : (shared loopback : Bool) (frame : List ℕ) (set : ℕ) (us vs : List TracedFunction) (raised : List ℕ) (s : Settings) (from : Source)
    → Delivers shared loopback frame set us vs raised → Receivers s from frame loopback set → raised ≡ all_raised s (told us vs) from frame
heard shared loopback frame set us vs raised s from d receivers =
    all_raised_as s (told us vs) raised from frame set loopback receivers.looped receivers.are d.pools (λ r below. at r (cases_lt r (length us)))
  where
    at : (r : ℕ) → (r < length us) ⊎ (length us ≤ r) → get_or raised r 0 ≡ (offered (has_bit set r) loopback frame (get_or (told us vs) r (Closed 0))).messages
    at r (inl inside) = (d.offers r inside).messages ∙ ap (λ (f : Function). (offered (has_bit set r) loopback frame f).messages) (met_told us vs r)
    at r (inr past) = d.none r past ∙ sym (none_there (has_bit set r) loopback frame (told us vs) r (subst (λ (n : ℕ). n ≤ r) (sym (told_length us vs)) past))

-- a function that isn't there has no memory
nobody_there : (us : List TracedFunction) (r : ℕ) → length us ≤ r → get_or us r nobody ≡ nobody
nobody_there us r past = get_or_past us r nobody past

abbrev none_made : List Access
none_made = []

either_none : (b : Bool) → (if b then none_made else []) ≡ []
either_none true = refl
either_none false = refl

pub listed : (shared loopback : Bool) (frame : List ℕ) (set : ℕ) (us vs : List TracedFunction) (raised : List ℕ) (s : Settings) (from : Source)
    → Delivers shared loopback frame set us vs raised → Receivers s from frame loopback set → AreListed (arrived_accesses s (told us vs) from frame) (traces_of us) (traces_of vs)
listed shared loopback frame set us vs raised s from d receivers = λ r. at r (cases_lt r (length us))
  where
    at : (r : ℕ) → (r < length us) ⊎ (length us ≤ r) → trace_of (traces_of vs) r ≡ trace_of (traces_of us) r ++ arrived_accesses s (told us vs) from frame r
    at r (inl inside) =
        trace_at vs r ∙ (d.offers r inside).listed
        ∙ (λ i. sym (trace_at us r) i ++ (if receivers.are r (omega (arith, inside, d.few)) i then given_accesses (receivers.looped i) frame (met_told us vs r i) else []))
    at r (inr past) =
        trace_at vs r ∙ ap (λ (u : TracedFunction). u.accesses) (nobody_there vs r (subst (λ (n : ℕ). n ≤ r) (sym d.same_length) past))
        ∙ sym ((λ i. (trace_at us r ∙ ap (λ (u : TracedFunction). u.accesses) (nobody_there us r past)) i
        ++ (if receives s from frame r then given_accesses (is_looped from) frame (get_or_past (told us vs) r (Closed 0) (subst (λ (n : ℕ). n ≤ r) (sym (told_length us vs)) past) i) else []))
        ∙ either_none (receives s from frame r))

pub met : (shared loopback : Bool) (frame : List ℕ) (set : ℕ) (us vs : List TracedFunction) (raised : List ℕ) (w : World) → w.functions ≡ functions_of us
    → Delivers shared loopback frame set us vs raised → AreMet shared (traces_of us) (traces_of vs) w
met shared loopback frame set us vs raised w are d = λ r. subst (λ (fs : List Function). IsMet shared (get_or fs r (Closed 0)) (trace_of (traces_of us) r) (trace_of (traces_of vs) r)) (sym are) (at r (cases_lt r (length us)))
  where
    by : (r : ℕ) → IsMet shared (get_or us r nobody).function (get_or us r nobody).accesses (get_or vs r nobody).accesses → IsMet shared (get_or (functions_of us) r (Closed 0)) (trace_of (traces_of us) r) (trace_of (traces_of vs) r)
    by r h = subst (λ (f : Function). IsMet shared f (trace_of (traces_of us) r) (trace_of (traces_of vs) r)) (sym (function_at us r))
        (subst (λ (t : List Access). IsMet shared (get_or us r nobody).function t (trace_of (traces_of vs) r)) (sym (trace_at us r))
        (subst (IsMet shared (get_or us r nobody).function (get_or us r nobody).accesses) (sym (trace_at vs r)) h))

    at : (r : ℕ) → (r < length us) ⊎ (length us ≤ r) → IsMet shared (get_or (functions_of us) r (Closed 0)) (trace_of (traces_of us) r) (trace_of (traces_of vs) r)
    at r (inl inside) = by r (d.offers r inside).met
    at r (inr past) = by r (subst (λ (u : TracedFunction). IsMet shared u.function u.accesses (get_or vs r nobody).accesses) (sym (nobody_there us r past))
        (subst (λ (u : TracedFunction). IsMet shared (Closed 0) [] u.accesses) (sym (nobody_there vs r (subst (λ (n : ℕ). n ≤ r) (sym d.same_length) past))) (met_nothing shared (Closed 0) [])))

pub sizes : (shared loopback : Bool) (frame : List ℕ) (set : ℕ) (us vs : List TracedFunction) (raised : List ℕ) → Delivers shared loopback frame set us vs raised → map size_of (functions_of vs) ≡ map size_of (functions_of us)
sizes shared loopback frame set us vs raised d =
    sizes_as (functions_of us) (functions_of vs) (lengths vs ∙ d.same_length ∙ sym (lengths us)) (λ r. ap size_of (function_at vs r) ∙ at r (cases_lt r (length us)) ∙ sym (ap size_of (function_at us r)))
  where
    at : (r : ℕ) → (r < length us) ⊎ (length us ≤ r) → size_of (get_or vs r nobody).function ≡ size_of (get_or us r nobody).function
    at r (inl inside) = (d.offers r inside).size
    at r (inr past) = ap (λ (u : TracedFunction). size_of u.function) (nobody_there vs r (subst (λ (n : ℕ). n ≤ r) (sym d.same_length) past) ∙ sym (nobody_there us r past))
