-- What a caller's own events are: those that it may make, and what comes of them all.
use Rattle.std.proofs.Common.{◌≡◌, ◌≢◌, ℕ, ◌<◌, ◌≤◌, Bool, true, false, not, ◌&&◌, List, [], ◌∷◌, ◌++◌, ◌+◌, length, take, drop, if◌then◌else◌, refl, sym, ap, ◌∙◌, subst}
use Rattle.std.specs.Prelude.{slice_index_or}
use Rattle.std.proofs.lemmas.Bool.{eq-eqb, eqb-true, false≢true}
use Rattle.std.proofs.lemmas.List.{get_or_past, take_more}
use Rattle.std.proofs.lemmas.List.Elements.{filter_passes}
use Rattle.device.specs.Events.{Event}
use Rattle.device.specs.declared.event.Event.TheVariants.{PfReset}
use Rattle.device.specs.declared.event.Whose.{Whose}
use Rattle.device.specs.declared.event.Whose.TheVariants.{Function, Physical, Wire as TheWire}
use Rattle.device.specs.Whose.{whose_of}
use Rattle.history.specs.declared.caller.Caller.{Caller}
use Rattle.history.specs.declared.caller.Caller.TheVariants.{Port, Driver, Pump, Service}
use Rattle.recorder.specs.Callers.{is_functions, is_of_service, is_of_wire, is_physical, may}
use Rattle.workers.specs.Callers.{caller_among, caller_before, caller_of, first_caller, is_end, is_of_host, is_port, is_same, port_or_service}
use Rattle.guest_port.specs.Calls.{CallingPort}
use Rattle.guest_port.specs.Port.{ended, Port as GuestsPort}
use Rattle.workers.specs.Calls.{HasDone, HasDoneAll, HasMade, IsPortEvent}
use Rattle.workers.specs.Plans.{Planned, own_events, start_of}

-- ---- events before `go`

pub may_before : (e : Event) → may (caller_before e) e ≡ true
may_before e = go (whose_of e) refl
  where
    go : (whose : Whose) → whose_of e ≡ whose → may (first_caller whose) e ≡ true
    go (Function p) is = refl
    go Physical is = ap is_physical is
    go TheWire is = refl

-- ---- callers among each other

pub same_refl : (c : Caller) → is_same c c ≡ true
same_refl (Port p) = eq-eqb p p refl
same_refl Driver = refl
same_refl Pump = refl
same_refl Service = refl

pub same_is : (a b : Caller) → is_same a b ≡ true → a ≡ b
same_is (Port p) (Port q) is = ap Port (eqb-true p q is)
same_is (Port p) Driver is = absurd (false≢true is)
same_is (Port p) Pump is = absurd (false≢true is)
same_is (Port p) Service is = absurd (false≢true is)
same_is Driver (Port q) is = absurd (false≢true is)
same_is Driver Driver is = refl
same_is Driver Pump is = absurd (false≢true is)
same_is Driver Service is = absurd (false≢true is)
same_is Pump (Port q) is = absurd (false≢true is)
same_is Pump Driver is = absurd (false≢true is)
same_is Pump Pump is = refl
same_is Pump Service is = absurd (false≢true is)
same_is Service (Port q) is = absurd (false≢true is)
same_is Service Driver is = absurd (false≢true is)
same_is Service Pump is = absurd (false≢true is)
same_is Service Service is = refl

pub apart : (a b : Caller) → is_same a b ≡ false → a ≢ b
apart a b other is = false≢true (sym other ∙ (ap (is_same a) (sym is) ∙ same_refl a))

pub differ : (a b : Caller) → a ≢ b → is_same a b ≡ false
differ a b other = go (is_same a b) refl
  where
    go : (same : Bool) → is_same a b ≡ same → is_same a b ≡ false
    go true is = absurd (other (same_is a b is))
    go false is = is

-- ---- events after `go`

-- a pool of which none is a port is done by the service
pub no_pool : (ports : List Bool) (p : ℕ) → length ports ≤ p → port_or_service ports p ≡ Service
no_pool ports p past = ap (λ (has : Bool). if has then Port p else Service) (get_or_past ports p false past)

-- the pool of a port
abbrev pool_in : Caller → ℕ
pool_in (Port p) = p
pool_in _ = 0

-- a pool whose caller is a port is that port's
own_pool : (ports : List Bool) (q p : ℕ) → port_or_service ports q ≡ Port p → q ≡ p
own_pool ports q p is = go (slice_index_or ports q false) refl
  where
    go : (has : Bool) → slice_index_or ports q false ≡ has → q ≡ p
    go true is-true = let same : Port q ≡ Port p = rw is-true at is in ap pool_in same
    go false is-false = let same : Service ≡ Port p = rw is-false at is in absurd (apart Service (Port p) refl same)

pub port_event : (ports : List Bool) (e : Event) (p : ℕ) → caller_of ports e ≡ Port p → IsPortEvent p e
port_event ports e p is = go (is_of_host e) (whose_of e) refl refl is
  where
    go : (of_host : Bool) (whose : Whose) → is_of_host e ≡ of_host → whose_of e ≡ whose → caller_among ports of_host whose ≡ Port p → IsPortEvent p e
    go false (Function q) guests own by = record { own = own ∙ ap Function (own_pool ports q p by); guests = guests }
    go true (Function q) guests own by = absurd (apart Service (Port p) refl by)
    go of_host Physical guests own by = absurd (apart Driver (Port p) refl by)
    go of_host TheWire guests own by = absurd (apart Pump (Port p) refl by)

-- a caller's own event is the caller's
pub own_at : (plan : Planned) (c : Caller) (k : ℕ) → k < length (own_events plan c) → caller_of plan.ports (slice_index_or (own_events plan c) k PfReset) ≡ c
unfolding own_events
own_at plan c k inside =
    same_is (caller_of plan.ports (slice_index_or (own_events plan c) k PfReset)) c (filter_passes (λ e. is_same (caller_of plan.ports e) c) (drop (start_of plan) plan.events) k PfReset inside)

pub own_port_event : (plan : Planned) (turn p : ℕ) (c : Caller) (e : Event) → c ≡ Port p → turn < length (own_events plan c) → e ≡ slice_index_or (own_events plan c) turn PfReset → IsPortEvent p e
own_port_event plan turn p c e port inside is = subst (IsPortEvent p) (sym is) (port_event plan.ports _ p (own_at plan c turn inside ∙ port))

-- what a guest may do is another's only where it is the service's
pub not_port : (ports : List Bool) (q : ℕ) (c : Caller) → is_port c ≡ false → port_or_service ports q ≡ c → c ≡ Service
not_port ports q c other is = go (slice_index_or ports q false) refl
  where
    go : (has : Bool) → slice_index_or ports q false ≡ has → c ≡ Service
    go true is-true = let same : Port q ≡ c = rw is-true at is in absurd (false≢true (sym other ∙ ap is_port (sym same)))
    go false is-false = let same : Service ≡ c = rw is-false at is in sym same

other_may : (ports : List Bool) (e : Event) (c : Caller) → is_port c ≡ false → caller_of ports e ≡ c → may c e ≡ true
other_may ports e c other is = go (is_of_host e) (whose_of e) refl is
  where
    by : (n : Caller) → c ≡ n → may n e ≡ true → may c e ≡ true
    by n same can = ap (λ (x : Caller). may x e) same ∙ can

    go : (of_host : Bool) (whose : Whose) → whose_of e ≡ whose → caller_among ports of_host whose ≡ c → may c e ≡ true
    go true (Function q) own made = by Service (sym made) refl
    go false (Function q) own made = by Service (not_port ports q c other made) refl
    go of_host Physical own made = by Driver (sym made) (ap is_physical own)
    go of_host TheWire own made = by Pump (sym made) (ap is_of_wire own)

pub own_may : (plan : Planned) (turn : ℕ) (c : Caller) (e : Event) → is_port c ≡ false → turn < length (own_events plan c) → e ≡ slice_index_or (own_events plan c) turn PfReset → may c e ≡ true
own_may plan turn c e other inside is = subst (λ (x : Event). may c x ≡ true) (sym is) (other_may plan.ports _ c other (own_at plan c turn inside))

pub may_first : (c : Caller) (e : Event) → c ≡ caller_before e → may c e ≡ true
may_first c e is = ap (λ (n : Caller). may n e) is ∙ may_before e

-- ---- whose a port is

-- the pool of a port, and whether it is closed
abbrev Seat : Type 0
Seat = ℕ × Bool

seat_of : CallingPort → Seat
seat_of c = (c.port.pool, c.port.is_closed)

made_port : (e : Event) (old new : CallingPort) → HasMade e old new → new.port ≡ old.port
made_port e old new made = go old.port.is_open refl
  where
    go : (is_open : Bool) → old.port.is_open ≡ is_open → new.port ≡ old.port
    go true is = ap (λ (c : CallingPort). c.port) (made.asked is).1.kept
    go false is = ap (λ (c : CallingPort). c.port) (made.ended is)

made_seat : (e : Event) (old new : CallingPort) → HasMade e old new → seat_of new ≡ seat_of old
unfolding seat_of
made_seat e old new made = ap (λ (p : GuestsPort). (p.pool, p.is_closed)) (made_port e old new made)

done_port : (e : Event) (old new : CallingPort) → HasDone e old new → seat_of new ≡ seat_of old
unfolding seat_of
done_port e old new done = go (is_end e) refl
  where
    go : (end : Bool) → is_end e ≡ end → seat_of new ≡ seat_of old
    go true is = ap (λ (c : CallingPort). (c.port.pool, c.port.is_closed)) (done.end is)
    go false is = made_seat e old new (done.call is)

pub same_pool : (e : Event) (old new : CallingPort) (p : ℕ) → HasDone e old new → old.port.pool ≡ p → new.port.pool ≡ p
unfolding seat_of
same_pool e old new p done before = ap (λ (s : Seat). s.0) (done_port e old new done) ∙ before

pub same_close : (e : Event) (old new : CallingPort) (closed : Bool) → HasDone e old new → old.port.is_closed ≡ closed → new.port.is_closed ≡ closed
unfolding seat_of
same_close e old new closed done before = ap (λ (s : Seat). s.1) (done_port e old new done) ∙ before

-- ---- the events so far

done_last : (es : List Event) (e : Event) (c old new : CallingPort) → HasDoneAll es c old → HasDone e old new → HasDoneAll (es ++ e ∷ []) c new
done_last [] e c old new none done = (new, subst (λ (x : CallingPort). HasDone e x new) none done, refl)
done_last (x ∷ es) e c old new all done = (all.0, all.1, done_last es e all.0 old new all.2 done)

pub done_more : (es : List Event) (k : ℕ) (e : Event) (c old new : CallingPort) → k < length es → e ≡ slice_index_or es k PfReset → HasDoneAll (take k es) c old → HasDone e old new
    → HasDoneAll (take (k + 1) es) c new
done_more es k e c old new less is before done =
    subst (λ (xs : List Event). HasDoneAll xs c new) (ap (λ (x : Event). take k es ++ x ∷ []) is ∙ sym (take_more es k PfReset less)) (done_last (take k es) e c old new before done)

-- the same of the event at a turn
pub done_turn : (es : List Event) (k : ℕ) (c old new : CallingPort) → k < length es → HasDoneAll (take k es) c old → HasDone (slice_index_or es k PfReset) old new → HasDoneAll (take (k + 1) es) c new
done_turn es k c old new less before done = done_more es k (slice_index_or es k PfReset) c old new less refl before done

-- ---- one event of a port

pub may_call : (p : ℕ) (e : Event) → IsPortEvent p e → is_end e ≡ false → may (Port p) e ≡ true
may_call p e own goes_on = go (is_of_service e) refl
  where
    go : (of_service : Bool) → is_of_service e ≡ of_service → may (Port p) e ≡ true
    go true is = absurd (false≢true (sym own.guests ∙ (λ i. is i && not (goes_on i))))
    go false is = (λ i. not (is i) && is_functions p (own.own i)) ∙ eq-eqb p p refl

pub has_ended : (e : Event) (old new : CallingPort) → is_end e ≡ true → new ≡ record old { port = ended old.port } → HasDone e old new
has_ended e old new is end = record { end = λ _. end; call = λ goes_on. absurd (false≢true (sym goes_on ∙ is)) }

pub has_made : (e : Event) (old new : CallingPort) → is_end e ≡ false → HasMade e old new → HasDone e old new
has_made e old new is made = record { end = λ end. absurd (false≢true (sym is ∙ end)); call = λ _. made }
