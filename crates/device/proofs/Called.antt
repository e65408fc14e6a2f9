-- One function of a device was called: what this is in the device's world.
use Rattle.std.proofs.Common.{◌≡◌, ◌≢◌, ◌≤◌, ◌<◌, ◌⊎◌, inl, inr, ℕ, Bool, true, false, eqb, nat_lt, List, [], ◌∷◌, ◌++◌, length, map, set, arith, refl, sym, ap, subst, ◌∙◌}
use Rattle.std.specs.Prelude.{if◌then◌else◌, slice_set, Result, Ok, Err}
use Rattle.std.specs.Result.{is_ok}
use Rattle.std.proofs.lemmas.List.{get_or_past}
use Rattle.wire_frame.specs.Bits.{with_bit}
use Rattle.wire_frame.specs.declared.fault.Fault.{Fault}
use Rattle.wire_frame.specs.declared.fault.Fault.TheVariants.{NoSuchVf}
use Rattle.std.proofs.lemmas.Bool.Decides.{eqb_tells}
use Rattle.irq_causes.specs.Messages.{no_messages}
use Rattle.live_memory.specs.Trace.{Access}
use Rattle.pool_filter.specs.Settings.{Settings, initial_settings}
use Rattle.pool_filter.specs.Own.{own}
use Rattle.vf_unit.specs.declared.registers.Queue.{Queue}
use Rattle.vf_unit.specs.Unit.{Function, TracedFunction, Closed, IsMet, size_of, ended, met_function, other_raised, told_of}
use Rattle.device.specs.declared.profile.Profile.{Profile}
use Rattle.device.specs.Events.{Event}
use Rattle.device.specs.declared.event.Event.TheVariants.{Flr}
use Rattle.device.specs.Units.{closed}
use Rattle.device.specs.Replies.{Reply, is_done}
use Rattle.device.specs.declared.event.Answer.{Answer}
use Rattle.device.specs.Outcome.{Outcome, reply_of, done_or_refused}
use Rattle.device.specs.Act.{act, serve}
use Rattle.device.specs.Guests.{prompted, prompt_messages}
use Rattle.device.specs.World.{World, Stepped, function_of, with_function, own_step, acted, refused, silently, flagged, all_reset, sizes_of}
use Rattle.device.specs.Live.{TracedWorld, told_functions, told_world, told_service, AreMet, AreListed}
use Rattle.device.proofs.Arrivals.{raised_nothing}
use Rattle.device.proofs.Loads.{there_step, answer_is}
use Rattle.device.proofs.LiveLemmas.{get_told, length_told, none_listed}
use Rattle.device.proofs.LiveSteps.{all_met, all_listed, told_is, told_service_by}
use Rattle.device.proofs.SizesStay.{size_set, sizes_ended}
use Rattle.device.proofs.Views.{functions_of, traces_of, IsHere, function_here, trace_here, there, noted, functions_now, traces_now, traces_kept}

-- what a device is beside its functions
pub record Base : Type 0 where
  pub profile : Profile
  pub settings : Settings
  pub resets : ℕ
  pub wire : List (List ℕ)
  pub unclaimed : List ℕ

abbrev pub world_with : Base → List TracedFunction → World
world_with b us = record { profile = b.profile; settings = b.settings; resets = b.resets; functions = functions_of us; wire = b.wire; unclaimed = b.unclaimed }

abbrev pub device_with : Base → List TracedFunction → TracedWorld
device_with b us = record { world = world_with b us; accesses = traces_of us }

-- ---- an event of the function's own, but for a read of its memory

own_there : (w : World) (p : ℕ) (e : Event) → p < length w.functions → own_step w p e ≡ acted w p (act (function_of p w) e)
own_there w p e below = let inside : nat_lt p (length w.functions) ≡ true = grind (arith, below) in rw inside refl

-- of a function that isn't there an event is refused
pub own_absent : (w : World) (p : ℕ) (e : Event) → length w.functions ≤ p → own_step w p e ≡ refused w NoSuchVf
own_absent w p e past = let outside : nat_lt p (length w.functions) ≡ false = grind (arith, past) in rw outside refl

pub own_world : (b : Base) (us : List TracedFunction) (t : TracedWorld) (i p : ℕ) (here new : TracedFunction) (e : Event) → device_with b us ≡ t → IsHere us i p here → new.function ≡ (act here.function e).function
    → world_with b (set us i new) ≡ (own_step t.world p e).world
own_world b us t i p here new e view h is =
    subst (λ (d : TracedWorld). world_with b (set us i new) ≡ (own_step d.world p e).world) view
    (ap (λ (fs : List Function). record { profile = b.profile; settings = b.settings; resets = b.resets; functions = fs; wire = b.wire; unclaimed = b.unclaimed })
    (functions_now us i p here new h ∙ ap (set (functions_of us) p) (is ∙ ap (λ (f : Function). (act f e).function) (sym (function_here us i p here h))))
    ∙ sym (ap (λ (s : Stepped). s.world) (own_there (world_with b us) p e (there us i p here h))))

abbrev pub answered : ℕ → Reply → ℕ → Answer
answered p reply messages = record { reply = reply; raised = slice_set no_messages p messages }

pub own_answer : (b : Base) (us : List TracedFunction) (t : TracedWorld) (i p : ℕ) (here : TracedFunction) (e : Event) (reply : Reply) (messages : ℕ) → device_with b us ≡ t → IsHere us i p here
    → (act here.function e).reply ≡ reply → (act here.function e).messages ≡ messages → answered p reply messages ≡ (own_step t.world p e).answer
own_answer b us t i p here e reply messages view h reply_is messages_are =
    subst (λ (d : TracedWorld). answered p reply messages ≡ (own_step d.world p e).answer) view
    ((λ k. answered p (sym reply_is k) (sym messages_are k))
    ∙ ap (λ (f : Function). answered p (act f e).reply (act f e).messages) (sym (function_here us i p here h))
    ∙ sym (ap (λ (s : Stepped). s.answer) (own_there (world_with b us) p e (there us i p here h))))

pub own_silent : (b : Base) (us : List TracedFunction) (t : TracedWorld) (i p : ℕ) (here : TracedFunction) (e : Event) (reply : Reply) → device_with b us ≡ t → IsHere us i p here
    → (act here.function e).reply ≡ reply → (act here.function e).messages ≡ 0 → silently reply ≡ (own_step t.world p e).answer
own_silent b us t i p here e reply view h reply_is silent =
    ap (λ (ms : List ℕ). record { reply = reply; raised = ms }) (sym (raised_nothing p)) ∙ own_answer b us t i p here e reply 0 view h reply_is silent

pub own_sizes : (b : Base) (us : List TracedFunction) (t : TracedWorld) (i p : ℕ) (here new : TracedFunction) → device_with b us ≡ t → IsHere us i p here → size_of new.function ≡ size_of here.function
    → map size_of (functions_of (set us i new)) ≡ sizes_of t.world
own_sizes b us t i p here new view h size =
    subst (λ (d : TracedWorld). map size_of (functions_of (set us i new)) ≡ sizes_of d.world) view
    (ap (map size_of) (functions_now us i p here new h) ∙ size_set (functions_of us) p new.function (Closed 0) (size ∙ ap size_of (sym (function_here us i p here h))))

pub own_kept : (b : Base) (us : List TracedFunction) (t : TracedWorld) (i p : ℕ) (here new : TracedFunction) → device_with b us ≡ t → IsHere us i p here → new.accesses ≡ here.accesses → traces_of (set us i new) ≡ t.accesses
own_kept b us t i p here new view h same = traces_kept us i p here new h same ∙ ap (λ (d : TracedWorld). d.accesses) view

-- ---- the accesses to its memory

pub only_here : (p r : ℕ) (list : List Access) → r ≢ p → (if eqb r p then list else []) ≡ []
only_here p r list differ = at (eqb_tells r p)
  where
    at : ((eqb r p ≡ true) × (r ≡ p)) ⊎ ((eqb r p ≡ false) × (r ≢ p)) → (if eqb r p then list else []) ≡ []
    at (inl same) = absurd (differ same.1)
    at (inr other) = rw other.0 refl

pub just_here : (p : ℕ) (list : List Access) → (if eqb p p then list else []) ≡ list
just_here p list = at (eqb_tells p p)
  where
    at : ((eqb p p ≡ true) × (p ≡ p)) ⊎ ((eqb p p ≡ false) × (p ≢ p)) → (if eqb p p then list else []) ≡ list
    at (inl same) = rw same.0 refl
    at (inr other) = absurd (other.1 refl)

pub own_met : (shared : Bool) (b : Base) (us : List TracedFunction) (t : TracedWorld) (i p : ℕ) (here new : TracedFunction) → device_with b us ≡ t → IsHere us i p here → IsMet shared here.function here.accesses new.accesses
    → AreMet shared t.accesses (traces_of (set us i new)) t.world
own_met shared b us t i p here new view h met =
    subst (λ (d : TracedWorld). AreMet shared d.accesses (traces_of (set us i new)) d.world) view
    (all_met shared (traces_of us) (traces_of (set us i new)) (world_with b us) p here.accesses new.accesses (noted us i p here h) (trace_here us i p here h) (traces_now us i p here new h)
    (subst (λ (f : Function). IsMet shared f here.accesses new.accesses) (sym (function_here us i p here h)) met))

-- those of a call, by what they are of the function that was met
pub own_listed : (b : Base) (us : List TracedFunction) (t : TracedWorld) (i p : ℕ) (here new : TracedFunction) (made : ℕ → Function → List Access) → device_with b us ≡ t → IsHere us i p here
    → new.accesses ≡ here.accesses ++ made p (met_function here new)
    → AreListed (λ r. if eqb r p then made r (function_of r (told_world t.accesses (traces_of (set us i new)) t.world)) else []) t.accesses (traces_of (set us i new))
own_listed b us t i p here new made view h is =
    subst (λ (d : TracedWorld). AreListed (λ r. if eqb r p then made r (function_of r (told_world d.accesses (traces_of (set us i new)) d.world)) else []) d.accesses (traces_of (set us i new))) view
    (all_listed (traces_of us) (traces_of (set us i new)) p here.accesses new.accesses (made p (met_function here new)) _ (noted us i p here h) (trace_here us i p here h) (traces_now us i p here new h) is
    (sym (just_here p (made p (function_of p (told_world (traces_of us) (traces_of (set us i new)) (world_with b us)))) ∙ ap (made p) (told_here b us i p here new h)))
    (λ r other. only_here p r _ other))
  where
    told_here : (b : Base) (us : List TracedFunction) (i p : ℕ) (here new : TracedFunction) → IsHere us i p here → function_of p (told_world (traces_of us) (traces_of (set us i new)) (world_with b us)) ≡ met_function here new
    told_here b us i p here new h =
        get_told (traces_of us) (traces_of (set us i new)) (functions_of us) p
        ∙ told_is (traces_of us) (traces_of (set us i new)) (functions_of us) p here.accesses new.accesses (noted us i p here h) (trace_here us i p here h) (traces_now us i p here new h)
        ∙ ap (told_of here.accesses new.accesses) (function_here us i p here h)

-- those of a call that reads nothing
pub unread_listed : (b : Base) (us : List TracedFunction) (t : TracedWorld) (i p : ℕ) (here new : TracedFunction) (made : Function → List Access) → device_with b us ≡ t → IsHere us i p here
    → new.accesses ≡ here.accesses ++ made here.function
    → AreListed (λ r. if eqb r p then made (function_of r t.world) else []) t.accesses (traces_of (set us i new))
unread_listed b us t i p here new made view h is =
    subst (λ (d : TracedWorld). AreListed (λ r. if eqb r p then made (function_of r d.world) else []) d.accesses (traces_of (set us i new))) view
    (all_listed (traces_of us) (traces_of (set us i new)) p here.accesses new.accesses (made here.function) _ (noted us i p here h) (trace_here us i p here h) (traces_now us i p here new h) is
    (sym (just_here p (made (function_of p (world_with b us))) ∙ ap made (function_here us i p here h)))
    (λ r other. only_here p r _ other))

-- ---- a read of its memory

own_told : (b : Base) (us : List TracedFunction) (t : TracedWorld) (i p : ℕ) (here new : TracedFunction) (e : Event) → device_with b us ≡ t → IsHere us i p here
    → own_step (told_world t.accesses (traces_of (set us i new)) t.world) p e ≡ acted (world_with b us) p (act (met_function here new) e)
own_told b us t i p here new e view h =
    subst (λ (d : TracedWorld). own_step (told_world d.accesses (traces_of (set us i new)) d.world) p e ≡ acted (world_with b us) p (act (met_function here new) e)) view
    (there_step (traces_of us) (traces_of (set us i new)) (world_with b us) p e here.accesses new.accesses (there us i p here h) (noted us i p here h) (trace_here us i p here h) (traces_now us i p here new h)
    ∙ ap (λ (f : Function). acted (world_with b us) p (act (told_of here.accesses new.accesses f) e)) (function_here us i p here h))

after_is : (b : Base) (us : List TracedFunction) (i p : ℕ) (here new : TracedFunction) → IsHere us i p here → with_function (world_with b us) p new.function ≡ world_with b (set us i new)
after_is b us i p here new h = ap (λ (fs : List Function). record { profile = b.profile; settings = b.settings; resets = b.resets; functions = fs; wire = b.wire; unclaimed = b.unclaimed }) (sym (functions_now us i p here new h))

pub read_world : (b : Base) (us : List TracedFunction) (t : TracedWorld) (i p : ℕ) (here new : TracedFunction) (e : Event) → device_with b us ≡ t → IsHere us i p here → new.function ≡ (act (met_function here new) e).function
    → world_with b (set us i new) ≡ (own_step (told_world t.accesses (traces_of (set us i new)) t.world) p e).world
read_world b us t i p here new e view h is =
    sym (after_is b us i p here new h) ∙ ap (with_function (world_with b us) p) is ∙ sym (ap (λ (s : Stepped). s.world) (own_told b us t i p here new e view h))

pub read_answer : (b : Base) (us : List TracedFunction) (t : TracedWorld) (i p : ℕ) (here new : TracedFunction) (e : Event) (reply : Reply) → device_with b us ≡ t → IsHere us i p here
    → (act (met_function here new) e).reply ≡ reply → (act (met_function here new) e).messages ≡ 0
    → silently reply ≡ (own_step (told_world t.accesses (traces_of (set us i new)) t.world) p e).answer
read_answer b us t i p here new e reply view h replied silent =
    answer_is (world_with b us) p reply (act (met_function here new) e) replied silent
    ∙ sym (ap (λ (s : Stepped). s.answer) (own_told b us t i p here new e view h))

-- ---- a service of its queue

pub serve_told : (b : Base) (us : List TracedFunction) (t : TracedWorld) (i p : ℕ) (q : Queue) (here new : TracedFunction) → device_with b us ≡ t → IsHere us i p here
    → serve b.profile.limit (own b.settings p) (met_function here new) q ≡ told_service t.accesses (traces_of (set us i new)) t.world p q
serve_told b us t i p q here new view h =
    subst (λ (d : TracedWorld). serve b.profile.limit (own b.settings p) (met_function here new) q ≡ told_service d.accesses (traces_of (set us i new)) d.world p q) view
    (told_service_by (traces_of us) (traces_of (set us i new)) (world_with b us) p q here.accesses new.accesses b.settings here.function (noted us i p here h) (trace_here us i p here h) (traces_now us i p here new h) refl (sym (function_here us i p here h)))

pub served_world : (b : Base) (us : List TracedFunction) (t : TracedWorld) (i p : ℕ) (here new : TracedFunction) (f : Function) → device_with b us ≡ t → IsHere us i p here → new.function ≡ f → world_with b (set us i new) ≡ with_function t.world p f
served_world b us t i p here new f view h is = sym (after_is b us i p here new h) ∙ ap (with_function (world_with b us) p) is ∙ ap (λ (d : TracedWorld). with_function d.world p f) view

-- ---- the cause "other" of a function

function_then : (b : Base) (us : List TracedFunction) (t : TracedWorld) (i p : ℕ) (here : TracedFunction) → device_with b us ≡ t → IsHere us i p here → here.function ≡ function_of p t.world
function_then b us t i p here view h = sym (function_here us i p here h) ∙ ap (λ (d : TracedWorld). function_of p d.world) view

is_there : (b : Base) (us : List TracedFunction) (t : TracedWorld) (i p : ℕ) (here : TracedFunction) → device_with b us ≡ t → IsHere us i p here → nat_lt p (length t.world.functions) ≡ true
is_there b us t i p here view h =
    let below : p < length t.world.functions = subst (λ (d : TracedWorld). p < length d.world.functions) view (there us i p here h) in
    grind (arith, below)

pub prompted_world : (b : Base) (us : List TracedFunction) (t : TracedWorld) (i p : ℕ) (here new : TracedFunction) → device_with b us ≡ t → IsHere us i p here → new.function ≡ (other_raised here.function).state
    → world_with b (set us i new) ≡ prompted t.world p
prompted_world b us t i p here new view h is =
    served_world b us t i p here new (other_raised here.function).state view h is
    ∙ ap (λ (f : Function). with_function t.world p (other_raised f).state) (function_then b us t i p here view h)
    ∙ ap (λ (inside : Bool). if inside then with_function t.world p (other_raised (function_of p t.world)).state else t.world) (sym (is_there b us t i p here view h))

pub prompted_vectors : (b : Base) (us : List TracedFunction) (t : TracedWorld) (i p : ℕ) (here : TracedFunction) → device_with b us ≡ t → IsHere us i p here → (other_raised here.function).messages ≡ prompt_messages t.world p
prompted_vectors b us t i p here view h =
    ap (λ (f : Function). (other_raised f).messages) (function_then b us t i p here view h)
    ∙ ap (λ (inside : Bool). if inside then (other_raised (function_of p t.world)).messages else 0) (sym (is_there b us t i p here view h))

-- ---- the reset of a function

flagged_done : (p : ℕ) (s : Stepped) → is_done s.answer.reply ≡ true → (flagged p s).world ≡ record s.world { resets = with_bit s.world.resets p }
flagged_done p s done = rw done refl

flagged_still : (p : ℕ) (s : Stepped) → is_done s.answer.reply ≡ false → (flagged p s).world ≡ s.world
flagged_still p s not = rw not refl

flagged_answer : (p : ℕ) (s : Stepped) → (flagged p s).answer ≡ s.answer
flagged_answer p s = at (is_done s.answer.reply)
  where
    at : (b : Bool) → (if b then record { world = record s.world { resets = with_bit s.world.resets p }; answer = s.answer } else s).answer ≡ s.answer
    at true = refl
    at false = refl

pub is_done_of : {X : Type 0} (r : Result X Fault) (ok : Bool) → is_ok r ≡ ok → is_done (done_or_refused r) ≡ ok
is_done_of (Ok x) ok is = is
is_done_of (Err fault) ok is = is

pub reset_done : (b : Base) (us : List TracedFunction) (t : TracedWorld) (i p resets : ℕ) (here new : TracedFunction) (reply : Reply) → device_with b us ≡ t → IsHere us i p here → new.function ≡ (act here.function (Flr p)).function
    → (act here.function (Flr p)).reply ≡ reply → (act here.function (Flr p)).messages ≡ 0 → is_done reply ≡ true → resets ≡ with_bit b.resets p
    → record { profile = b.profile; settings = b.settings; resets = resets; functions = functions_of (set us i new); wire = b.wire; unclaimed = b.unclaimed } ≡ (flagged p (own_step t.world p (Flr p))).world
reset_done b us t i p resets here new reply view h is reply_is silent done flag =
    ap (λ (n : ℕ). record { profile = b.profile; settings = b.settings; resets = n; functions = functions_of (set us i new); wire = b.wire; unclaimed = b.unclaimed }) flag
    ∙ ap (λ (w : World). record w { resets = with_bit w.resets p }) (own_world b us t i p here new (Flr p) view h is)
    ∙ sym (flagged_done p (own_step t.world p (Flr p)) (sym (ap (λ (a : Answer). is_done a.reply) (own_answer b us t i p here (Flr p) reply 0 view h reply_is silent)) ∙ done))

pub reset_refused : (b : Base) (us : List TracedFunction) (t : TracedWorld) (i p : ℕ) (here new : TracedFunction) (reply : Reply) → device_with b us ≡ t → IsHere us i p here → new.function ≡ (act here.function (Flr p)).function
    → (act here.function (Flr p)).reply ≡ reply → (act here.function (Flr p)).messages ≡ 0 → is_done reply ≡ false → world_with b (set us i new) ≡ (flagged p (own_step t.world p (Flr p))).world
reset_refused b us t i p here new reply view h is reply_is silent not =
    own_world b us t i p here new (Flr p) view h is
    ∙ sym (flagged_still p (own_step t.world p (Flr p)) (sym (ap (λ (a : Answer). is_done a.reply) (own_answer b us t i p here (Flr p) reply 0 view h reply_is silent)) ∙ not))

pub reset_answer : (b : Base) (us : List TracedFunction) (t : TracedWorld) (i p : ℕ) (here : TracedFunction) (reply : Reply) → device_with b us ≡ t → IsHere us i p here
    → (act here.function (Flr p)).reply ≡ reply → (act here.function (Flr p)).messages ≡ 0 → silently reply ≡ (flagged p (own_step t.world p (Flr p))).answer
reset_answer b us t i p here reply view h reply_is silent = own_silent b us t i p here (Flr p) reply view h reply_is silent ∙ sym (flagged_answer p (own_step t.world p (Flr p)))

-- ---- all are closed

functions_closed : (us : List TracedFunction) → functions_of (map closed us) ≡ map ended (functions_of us)
functions_closed [] = refl
functions_closed (u ∷ us) = ap (λ (fs : List Function). ended u.function ∷ fs) (functions_closed us)

traces_closed : (us : List TracedFunction) → traces_of (map closed us) ≡ traces_of us
traces_closed [] = refl
traces_closed (u ∷ us) = ap (λ (ts : List (List Access)). u.accesses ∷ ts) (traces_closed us)

pub all_closed : (b : Base) (us vs : List TracedFunction) (t : TracedWorld) (settings : Settings) → device_with b us ≡ t → vs ≡ map closed us → settings ≡ initial_settings
    → record { profile = b.profile; settings = settings; resets = 0; functions = functions_of vs; wire = b.wire; unclaimed = b.unclaimed } ≡ all_reset t.world
all_closed b us vs t settings view is initial =
    (λ i. record { profile = b.profile; settings = initial i; resets = 0; functions = (ap functions_of is ∙ functions_closed us) i; wire = b.wire; unclaimed = b.unclaimed }) ∙ ap (λ (d : TracedWorld). all_reset d.world) view

pub closed_kept : (b : Base) (us vs : List TracedFunction) (t : TracedWorld) → device_with b us ≡ t → vs ≡ map closed us → traces_of vs ≡ t.accesses
closed_kept b us vs t view is = ap traces_of is ∙ traces_closed us ∙ ap (λ (d : TracedWorld). d.accesses) view

pub closed_sizes : (b : Base) (us vs : List TracedFunction) (t : TracedWorld) → device_with b us ≡ t → vs ≡ map closed us → map size_of (functions_of vs) ≡ sizes_of t.world
closed_sizes b us vs t view is = ap (λ (ws : List TracedFunction). map size_of (functions_of ws)) is ∙ ap (map size_of) (functions_closed us) ∙ sizes_ended (functions_of us) ∙ ap (λ (d : TracedWorld). sizes_of d.world) view

-- ---- the function isn't there

absent_none : (t : TracedWorld) (p : ℕ) (made : ℕ → Function → List Access) → length t.world.functions ≤ p → made p (Closed 0) ≡ [] → (r : ℕ) → (if eqb r p then made r (function_of r (told_world t.accesses t.accesses t.world)) else []) ≡ []
absent_none t p made past none r = at (eqb_tells r p)
  where
    gone : function_of p (told_world t.accesses t.accesses t.world) ≡ Closed 0
    gone = get_or_past (told_functions t.accesses t.accesses t.world.functions) p (Closed 0) (subst (λ (n : ℕ). n ≤ p) (sym (length_told t.accesses t.accesses t.world.functions)) past)

    at : ((eqb r p ≡ true) × (r ≡ p)) ⊎ ((eqb r p ≡ false) × (r ≢ p)) → (if eqb r p then made r (function_of r (told_world t.accesses t.accesses t.world)) else []) ≡ []
    at (inl same) = subst (λ (k : ℕ). (if eqb k p then made k (function_of k (told_world t.accesses t.accesses t.world)) else []) ≡ []) (sym same.1) (just_here p _ ∙ ap (made p) gone ∙ none)
    at (inr other) = only_here p r _ other.1

pub absent_listed : (t : TracedWorld) (p : ℕ) (made : ℕ → Function → List Access) → length t.world.functions ≤ p → made p (Closed 0) ≡ []
    → AreListed (λ r. if eqb r p then made r (function_of r (told_world t.accesses t.accesses t.world)) else []) t.accesses t.accesses
absent_listed t p made past none = none_listed t.accesses t.accesses _ refl (absent_none t p made past none)

-- the same of a call that reads nothing
pub unread_absent : (t : TracedWorld) (p : ℕ) (made : Function → List Access) → length t.world.functions ≤ p → made (Closed 0) ≡ []
    → AreListed (λ r. if eqb r p then made (function_of r t.world) else []) t.accesses t.accesses
unread_absent t p made past none = none_listed t.accesses t.accesses _ refl none_there
  where
    none_there : (r : ℕ) → (if eqb r p then made (function_of r t.world) else []) ≡ []
    none_there r = at (eqb_tells r p)
      where
        at : ((eqb r p ≡ true) × (r ≡ p)) ⊎ ((eqb r p ≡ false) × (r ≢ p)) → (if eqb r p then made (function_of r t.world) else []) ≡ []
        at (inl same) = rw same.0 (ap (λ (k : ℕ). made (function_of k t.world)) same.1 ∙ ap made (get_or_past t.world.functions p (Closed 0) past) ∙ none)
        at (inr other) = only_here p r _ other.1

-- ---- it is over another memory

pub own_exchanged : (us : List TracedFunction) (t : TracedWorld) (b : Base) (i p : ℕ) (here new : TracedFunction) (noted : List Access) → device_with b us ≡ t → IsHere us i p here → new.accesses ≡ noted
    → traces_of (set us i new) ≡ set t.accesses p noted
own_exchanged us t b i p here new noted view h is =
    traces_now us i p here new h ∙ ap (set (traces_of us) p) is ∙ ap (λ (d : TracedWorld). set d.accesses p noted) view
