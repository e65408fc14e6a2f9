-- The places of each caller's events, found in one pass.
use Rattle.std.proofs.Common.{◌≡◌, ◌≢◌, ⊎_elim, ℕ, zero, suc, ◌<◌, ◌≤◌, ◌==◌, ◌+◌, Bool, true, false, List, [], ◌∷◌, ◌++◌, length, map, drop, replicate, refl, sym, ap, ◌∙◌, subst, arith}
use Rattle.std.specs.Prelude.{cond, filter, if◌then◌else◌, nat_lt, slice_index_or, slice_set}
use Rattle.std.specs.List.{All}
use Rattle.std.proofs.lemmas.Bool.{eqb-true}
use Rattle.std.proofs.lemmas.Bool.Decides.{eqb_tells, nat_tests}
use Rattle.std.proofs.lemmas.List.{append_assoc, append-nil, drop_all, drop_more, get_or-map, get_or-set_same, get_or-set_other, length-map, length-set, map-append}
use Rattle.std.proofs.lemmas.List.Elements.{All-nil, All-push}
use Rattle.device.specs.Events.{Event}
use Rattle.device.specs.declared.event.Event.TheVariants.{PfReset}
use Rattle.history.specs.Callers.{caller_number, caller_of as caller_at}
use Rattle.history.specs.declared.caller.Caller.{Caller}
use Rattle.history.specs.declared.caller.Caller.TheVariants.{Port, Driver, Pump, Service}
use Rattle.workers.specs.Callers.{caller_of, is_same}
use Rattle.workers.specs.Plans.{Planned, own_events, start_of}
use Rattle.workers.specs.Turns.{AreTurns, event_at}
use Rattle.workers.proofs.Turns.{differ, same_refl}

-- those of some events that a caller does after `go`
abbrev passing : Planned → Caller → List Event → List Event
passing plan c = filter (λ e. is_same (caller_of plan.ports e) c)

-- the events at the places so far, and the caller's among those that are to come, are its own ones
pub record IsSoFar (plan : Planned) (place : ℕ) (c : Caller) (places : List ℕ) : Type 0 where
  pub own : map (event_at plan.events) places ++ passing plan c (drop place plan.events) ≡ own_events plan c
  pub inside : All (λ at. at < length plan.events) places

-- and so for each caller, by its number
pub record AreSoFar (plan : Planned) (place : ℕ) (turns : List (List ℕ)) : Type 0 where
  pub many : length turns ≡ 67
  pub each : (n : ℕ) → n < 67 → IsSoFar plan place (caller_at n) (slice_index_or turns n [])

abbrev no_places : List ℕ
no_places = []

none_at : (n c : ℕ) → slice_index_or (replicate n no_places) c no_places ≡ no_places
none_at zero c = refl
none_at (suc n) zero = refl
none_at (suc n) (suc c) = none_at n c

no_place : (plan : Planned) (c : Caller) → IsSoFar plan (start_of plan) c []
unfolding own_events
no_place plan c = record { own = refl; inside = All-nil (λ at. at < length plan.events) }

pub begun : (plan : Planned) (place : ℕ) (turns : List (List ℕ)) → place ≡ start_of plan → turns ≡ replicate 67 [] → AreSoFar plan place turns
begun plan place turns start none = record {
  many = ap length none;
  each = λ n below. subst (λ (at : ℕ). IsSoFar plan at (caller_at n) (slice_index_or turns n [])) (sym start)
      (subst (IsSoFar plan (start_of plan) (caller_at n)) (sym (ap (λ (ts : List (List ℕ)). slice_index_or ts n []) none ∙ none_at 67 n)) (no_place plan (caller_at n)));
}

pub found_all : (plan : Planned) (place : ℕ) (turns : List (List ℕ)) → length plan.events ≤ place → AreSoFar plan place turns → AreTurns plan turns
found_all plan place turns end so_far = record {
  many = so_far.many;
  own = λ n below.
      sym (append-nil _) ∙ ap (λ (rest : List Event). map (event_at plan.events) (slice_index_or turns n []) ++ passing plan (caller_at n) rest) (sym (drop_all place plan.events end))
      ∙ (so_far.each n below).own;
  inside = λ n below. (so_far.each n below).inside;
}

-- ---- one more place

own_place : (plan : Planned) (place : ℕ) (c : Caller) (places : List ℕ) → place < length plan.events → is_same (caller_of plan.ports (event_at plan.events place)) c ≡ true
    → IsSoFar plan place c places → IsSoFar plan (place + 1) c (places ++ place ∷ [])
own_place plan place c places less is so_far =
    let es = plan.events in
    let e = event_at es place in
    let front = map (event_at es) places in
    let rest = drop (place + 1) es in
    record {
      own = ap (λ (xs : List Event). xs ++ passing plan c rest) (map-append (event_at es) places (place ∷ []))
          ∙ append_assoc front (e ∷ []) (passing plan c rest)
          ∙ ap (λ (b : Bool). front ++ cond b (e ∷ passing plan c rest) (passing plan c rest)) (sym is)
          ∙ ap (λ (xs : List Event). front ++ passing plan c xs) (sym (drop_more es place PfReset less))
          ∙ so_far.own;
      inside = All-push (λ at. at < length es) places place so_far.inside less;
    }

other_place : (plan : Planned) (place : ℕ) (c : Caller) (places : List ℕ) → place < length plan.events → is_same (caller_of plan.ports (event_at plan.events place)) c ≡ false
    → IsSoFar plan place c places → IsSoFar plan (place + 1) c places
other_place plan place c places less is so_far =
    let es = plan.events in
    let e = event_at es place in
    let front = map (event_at es) places in
    let rest = drop (place + 1) es in
    record {
      own = ap (λ (b : Bool). front ++ cond b (e ∷ passing plan c rest) (passing plan c rest)) (sym is)
          ∙ ap (λ (xs : List Event). front ++ passing plan c xs) (sym (drop_more es place PfReset less))
          ∙ so_far.own;
      inside = so_far.inside;
    }

-- the caller of a number has that number
pub number_at : (n : ℕ) → n < 67 → caller_number (caller_at n) ≡ n
number_at n below = port (nat_lt n 64) refl
  where
    pump : (is : Bool) → (n == 65) ≡ is → nat_lt n 64 ≡ false → (n == 64) ≡ false → caller_number (if n == 65 then Pump else Service) ≡ n
    pump true is no_port no_driver = rw is (sym (eqb-true n 65 is))
    pump false is no_port no_driver = rw is (grind (arith, nat_tests, below))

    driver : (is : Bool) → (n == 64) ≡ is → nat_lt n 64 ≡ false → caller_number (if n == 64 then Driver else (if n == 65 then Pump else Service)) ≡ n
    driver true is no_port = rw is (sym (eqb-true n 64 is))
    driver false is no_port = rw is (pump (n == 65) refl no_port is)

    port : (is : Bool) → nat_lt n 64 ≡ is → caller_number (if nat_lt n 64 then Port n else (if n == 64 then Driver else (if n == 65 then Pump else Service))) ≡ n
    port true is = rw is refl
    port false is = rw is (driver (n == 64) refl is)

pub found_more : (plan : Planned) (place n : ℕ) (caller : Caller) (e : Event) (old new : List (List ℕ)) → place < length plan.events → e ≡ slice_index_or plan.events place PfReset → caller ≡ caller_of plan.ports e
    → n < 67 → caller_at n ≡ caller → new ≡ slice_set old n (slice_index_or old n [] ++ place ∷ []) → AreSoFar plan place old → AreSoFar plan (place + 1) new
found_more plan place n caller e old new less is by below back more so_far = record {
  many = ap length more ∙ length-set old n (slice_index_or old n [] ++ place ∷ []) ∙ so_far.many;
  each = λ m low. ⊎_elim
      (λ (t : ((n == m) ≡ true) × (n ≡ m)). subst (λ (k : ℕ). IsSoFar plan (place + 1) (caller_at k) (slice_index_or new k [])) t.1 mine)
      (λ (t : ((n == m) ≡ false) × (n ≢ m)). others m low t.1)
      (eqb_tells n m);
}
  where
    by_place : caller_of plan.ports (event_at plan.events place) ≡ caller_at n
    by_place = sym (back ∙ (by ∙ ap (caller_of plan.ports) is))

    mine : IsSoFar plan (place + 1) (caller_at n) (slice_index_or new n [])
    mine = subst (IsSoFar plan (place + 1) (caller_at n))
        (sym (ap (λ (ts : List (List ℕ)). slice_index_or ts n []) more ∙ get_or-set_same old n (slice_index_or old n [] ++ place ∷ []) [] (subst (λ (k : ℕ). n < k) (sym so_far.many) below)))
        (own_place plan place (caller_at n) (slice_index_or old n []) less (ap (λ (c : Caller). is_same c (caller_at n)) by_place ∙ same_refl (caller_at n)) (so_far.each n below))

    others : (m : ℕ) → m < 67 → n ≢ m → IsSoFar plan (place + 1) (caller_at m) (slice_index_or new m [])
    others m low other = subst (IsSoFar plan (place + 1) (caller_at m))
        (sym (ap (λ (ts : List (List ℕ)). slice_index_or ts m []) more ∙ get_or-set_other old n m (slice_index_or old n [] ++ place ∷ []) [] (λ (same : m ≡ n). other (sym same))))
        (other_place plan place (caller_at m) (slice_index_or old m []) less
        (differ (caller_of plan.ports (event_at plan.events place)) (caller_at m) (λ (same : caller_of plan.ports (event_at plan.events place) ≡ caller_at m).
        other (sym (number_at n below) ∙ (ap caller_number (sym by_place ∙ same) ∙ number_at m low)))) (so_far.each m low))

-- ---- a turn's place

pub turn_number : (plan : Planned) (turns : List (List ℕ)) (n : ℕ) → AreTurns plan turns → n < 67 → n < length turns
turn_number plan turns n are below = subst (λ (k : ℕ). n < k) (sym are.many) below

pub turns_count : (plan : Planned) (turns : List (List ℕ)) (n : ℕ) (c : Caller) → AreTurns plan turns → n < 67 → caller_at n ≡ c → length (slice_index_or turns n []) ≡ length (own_events plan c)
turns_count plan turns n c are below is = sym (length-map (slice_index_or turns n []) (event_at plan.events)) ∙ ap length (are.own n below) ∙ ap (λ (x : Caller). length (own_events plan x)) is

turn_below : (plan : Planned) (turns : List (List ℕ)) (n turn : ℕ) (c : Caller) → AreTurns plan turns → n < 67 → caller_at n ≡ c → turn < length (own_events plan c) → turn < length (slice_index_or turns n [])
turn_below plan turns n turn c are below is less = subst (λ (k : ℕ). turn < k) (sym (turns_count plan turns n c are below is)) less

pub turn_inside : (plan : Planned) (turns : List (List ℕ)) (n turn : ℕ) (c : Caller) → AreTurns plan turns → n < 67 → caller_at n ≡ c → turn < length (own_events plan c)
    → slice_index_or (slice_index_or turns n []) turn 0 < length plan.events
turn_inside plan turns n turn c are below is less = are.inside n below turn 0 (turn_below plan turns n turn c are below is less)

pub turn_event : (plan : Planned) (turns : List (List ℕ)) (n turn place : ℕ) (c : Caller) (e : Event) → AreTurns plan turns → n < 67 → caller_at n ≡ c → turn < length (own_events plan c)
    → place ≡ slice_index_or (slice_index_or turns n []) turn 0 → e ≡ slice_index_or plan.events place PfReset → e ≡ slice_index_or (own_events plan c) turn PfReset
turn_event plan turns n turn place c e are below back less at is =
    is ∙ ap (event_at plan.events) at
    ∙ sym (get_or-map (event_at plan.events) (slice_index_or turns n []) turn 0 PfReset (turn_below plan turns n turn c are below back less))
    ∙ ap (λ (es : List Event). slice_index_or es turn PfReset) (are.own n below ∙ ap (own_events plan) back)
