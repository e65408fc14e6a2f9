-- The calls of a history, compared with a script one after another.
use Rattle.std.proofs.Common.{◌≡◌, ◌≢◌, ⊎_elim, ℕ, zero, suc, ◌+◌, ◌-◌, ◌<◌, ◌≤◌, ◌==◌, Bool, true, false, List, [], ◌∷◌, ◌++◌, length, length-append, take, drop, map, filter, replicate, refl, sym, ap, ◌∙◌, subst, arith}
use Rattle.std.specs.Prelude.{cond, Option, Some, None, if◌then◌else◌, slice_index, slice_index_or, slice_set, unwrap_or}
use Rattle.std.specs.List.{All}
use Rattle.std.proofs.lemmas.Bool.Decides.{eqb_tells}
use Rattle.std.proofs.Math.ListN.{get_or-append}
use Rattle.std.proofs.lemmas.List.{append-nil, drop_all, drop-append-le, get_or-set_same, get_or-append_right, get_or-map, get_or-set_other, length-map, length-set, length-take, length-take-le, map-append, take-append-drop, take_all, take_more}
use Rattle.std.proofs.lemmas.List.Elements.{All-nil, All-push, filter-append}
use Rattle.device.specs.Events.{Event}
use Rattle.device.specs.Replies.{Reply}
use Rattle.device.specs.declared.event.Event.TheVariants.{End, PfReset}
use Rattle.device.specs.declared.event.Reply.TheVariants.{Done, Value, Bytes, Idle, More, Sent, Dropped, Faulted, Refused}
use Rattle.history.specs.Callers.{caller_number, caller_of}
use Rattle.history.specs.declared.caller.Caller.{Caller}
use Rattle.history.specs.Entries.{Entry, events, no_entry}
use Rattle.script.specs.Reading.{Meaning}
use Rattle.workers.specs.Callers.{caller_before, is_same}
use Rattle.workers.specs.Counts.{made_by}
use Rattle.workers.specs.Opens.{all_closed, opened, opened_after, opened_by}
use Rattle.workers.specs.Plans.{Planned, events_before, planned}
use Rattle.workers.proofs.First.{opened_last}
use Rattle.workers.proofs.Places.{number_at}
use Rattle.workers.proofs.Turns.{differ, same_refl}
use Rattle.modes.specs.Matches.{AreFirst, AreOwn, AreTaken, AreWithin, HaveOpened, TakesTurn}
use Rattle.modes.specs.Threads.{AreOfScript, IsOfCaller, asks_after, is_end, ports_after, ports_at, until_end}

-- ---- the pools that calls leave open

pub opened_done : (e : Event) (reply : Reply) (pools : List Bool) → reply ≡ Done → opened_by e pools ≡ opened e reply pools
opened_done e reply pools is = ap (λ (r : Reply). opened e r pools) (sym is)

pub opened_not : (e : Event) (reply : Reply) (pools : List Bool) → (reply ≡ Done → ⊥) → pools ≡ opened e reply pools
opened_not e Done pools differs = absurd (differs refl)
opened_not e (Value x) pools differs = refl
opened_not e (Bytes bytes) pools differs = refl
opened_not e Idle pools differs = refl
opened_not e More pools differs = refl
opened_not e Sent pools differs = refl
opened_not e Dropped pools differs = refl
opened_not e Faulted pools differs = refl
opened_not e (Refused n) pools differs = refl

pub opened_next : (es : List Event) (calls : List Entry) (k : ℕ) (e : Event) (ports new : List Bool) → k < length es → k < length calls → HaveOpened (take k es) (take k calls) ports → e ≡ slice_index_or es k PfReset
    → (slice_index_or calls k no_entry).caller ≡ caller_before e → e ≡ (slice_index_or calls k no_entry).event → new ≡ opened e (slice_index_or calls k no_entry).answer.reply ports
    → HaveOpened (take (k + 1) es) (take (k + 1) calls) new
opened_next es calls k e ports new inside there before asked caller event by =
    subst (λ (xs : List Event). HaveOpened xs (take (k + 1) calls) new) (ap (λ (x : Event). take k es ++ x ∷ []) (sym event ∙ asked) ∙ sym (take_more es k PfReset inside))
    (subst (λ (cs : List Entry). HaveOpened (take k es ++ call.event ∷ []) cs new) (sym (take_more calls k no_entry there)) one_more)
  where
    call : Entry
    call = slice_index_or calls k no_entry

    one_more : HaveOpened (take k es ++ call.event ∷ []) (take k calls ++ call ∷ []) new
    one_more = record {
      first = record {
        before = map-append (λ (c : Entry). c.event) (take k calls) (call ∷ []) ∙ ap (λ (xs : List Event). xs ++ call.event ∷ []) before.first.before;
        callers = All-push (λ (c : Entry). c.caller ≡ caller_before c.event) (take k calls) call before.first.callers (caller ∙ ap caller_before event);
      };
      left =
          by ∙ ap (opened e call.answer.reply) before.left ∙ ap (λ (x : Event). opened x call.answer.reply (opened_after (take k calls) all_closed)) event
          ∙ sym (opened_last (take k calls) call all_closed);
    }

pub opened_none : (ports : List Bool) → ports ≡ all_closed → HaveOpened [] [] ports
opened_none ports closed = record { first = record { before = refl; callers = All-nil (λ (c : Entry). c.caller ≡ caller_before c.event) }; left = closed }

-- ---- the first calls

pub first_of : (script : Meaning) (count : ℕ) (calls : List Entry) (ports : List Bool) → count ≡ unwrap_or script.go (length script.events) → HaveOpened (take count script.events) calls ports
    → AreFirst (events_before script) calls
first_of script count calls ports is have = subst (λ (k : ℕ). AreFirst (take k script.events) calls) is have.first

pub no_ports : (script : Meaning) (first : List Entry) (ports : List Bool) → script.go ≡ None → ports ≡ all_closed → ports ≡ ports_after script first
no_ports script first ports none closed = closed ∙ ap (λ (go : Option ℕ). ports_at go first) (sym none)

pub some_ports : (script : Meaning) (go : ℕ) (asked : List Event) (first : List Entry) (ports : List Bool) → script.go ≡ Some go → HaveOpened asked first ports → ports ≡ ports_after script first
some_ports script go asked first ports is have = have.left ∙ ap (λ (x : Option ℕ). ports_at x first) (sym is)

-- ---- one turn more

-- what a caller asks in the turns so far, and in the next one
turn_more : (plan : Planned) (c : Caller) (calls : List Entry) (call : Entry) (turn : ℕ) → is_same call.caller c ≡ true → turn < length (asks_after plan c) → call.event ≡ slice_index_or (asks_after plan c) turn PfReset
    → events (made_by c calls) ≡ take turn (asks_after plan c) → events (made_by c (calls ++ call ∷ [])) ≡ take (turn + 1) (asks_after plan c)
turn_more plan c calls call turn mine inside event before =
    ap events (filter-append (λ (x : Entry). is_same x.caller c) calls (call ∷ []) ∙ ap (λ (b : Bool). made_by c calls ++ cond b (call ∷ []) []) mine)
    ∙ map-append (λ (x : Entry). x.event) (made_by c calls) (call ∷ [])
    ∙ (λ i. before i ++ event i ∷ [])
    ∙ sym (take_more (asks_after plan c) turn PfReset inside)

-- a call of another adds nothing
turn_other : (c : Caller) (calls : List Entry) (call : Entry) → is_same call.caller c ≡ false → events (made_by c (calls ++ call ∷ [])) ≡ events (made_by c calls)
turn_other c calls call other =
    ap events (filter-append (λ (x : Entry). is_same x.caller c) calls (call ∷ []) ∙ ap (λ (b : Bool). made_by c calls ++ cond b (call ∷ []) []) other ∙ append-nil (made_by c calls))

-- a caller by its number: how many turns are behind it
record IsAt (plan : Planned) (calls : List Entry) (turns : List ℕ) (n : ℕ) : Type 0 where
  inside : slice_index turns n ≤ length (asks_after plan (caller_of n))
  each : events (made_by (caller_of n) calls) ≡ take (slice_index turns n) (asks_after plan (caller_of n))

pub taken_more : (plan : Planned) (turns new : List ℕ) (calls : List Entry) (call : Entry) → AreTaken plan turns calls → TakesTurn plan call turns new → AreTaken plan new (calls ++ call ∷ [])
taken_more plan turns new calls call are t = record {
  within = record { many = ap length t.counted ∙ length-set turns t.n (slice_index turns t.n + 1) ∙ are.within.many; inside = λ n below. (at n below).inside };
  known = All-push IsOfCaller calls call are.known (t.n, t.below, t.caller);
  each = λ n below. (at n below).each;
}
  where
    counted : slice_index new t.n ≡ slice_index turns t.n + 1
    counted = ap (λ (ts : List ℕ). slice_index ts t.n) t.counted ∙ get_or-set_same turns t.n (slice_index turns t.n + 1) 0 (subst (λ (k : ℕ). t.n < k) (sym are.within.many) t.below)

    mine : IsAt plan (calls ++ call ∷ []) new t.n
    mine = record {
      inside = let less = t.inside in omega (arith, counted, less);
      each =
          turn_more plan (caller_of t.n) calls call (slice_index turns t.n) (ap (λ (c : Caller). is_same c (caller_of t.n)) t.caller ∙ same_refl (caller_of t.n)) t.inside t.event (are.each t.n t.below)
          ∙ ap (λ (k : ℕ). take k (asks_after plan (caller_of t.n))) (sym counted);
    }

    others : (n : ℕ) → n < 67 → t.n ≢ n → IsAt plan (calls ++ call ∷ []) new n
    others n below other =
        let stays : slice_index new n ≡ slice_index turns n = ap (λ (ts : List ℕ). slice_index ts n) t.counted ∙ get_or-set_other turns t.n n (slice_index turns t.n + 1) 0 (λ (same : n ≡ t.n). other (sym same)) in
        record {
          inside = let within = are.within.inside n below in omega (arith, stays, within);
          each =
              turn_other (caller_of n) calls call
              (differ call.caller (caller_of n) (λ (same : call.caller ≡ caller_of n). other (sym (number_at t.n t.below) ∙ (ap caller_number (sym t.caller ∙ same) ∙ number_at n below))))
              ∙ are.each n below ∙ ap (λ (k : ℕ). take k (asks_after plan (caller_of n))) (sym stays);
        }

    at : (n : ℕ) → n < 67 → IsAt plan (calls ++ call ∷ []) new n
    at n below = ⊎_elim
        (λ (s : ((t.n == n) ≡ true) × (t.n ≡ n)). subst (IsAt plan (calls ++ call ∷ []) new) s.1 mine)
        (λ (s : ((t.n == n) ≡ false) × (t.n ≢ n)). others n below s.1)
        (eqb_tells t.n n)

-- the same of the calls of a history from one on
pub taken_next : (plan : Planned) (turns new : List ℕ) (calls : List Entry) (start k : ℕ) → start ≤ k → k < length calls → AreTaken plan turns (drop start (take k calls))
    → TakesTurn plan (slice_index_or calls k no_entry) turns new → AreTaken plan new (drop start (take (k + 1) calls))
taken_next plan turns new calls start k before there are t =
    subst (AreTaken plan new) (sym longer) (taken_more plan turns new (drop start (take k calls)) (slice_index_or calls k no_entry) are t)
  where
    long : length (take k calls) ≡ k
    long = length-take-le k calls (omega (arith, there))

    longer : drop start (take (k + 1) calls) ≡ drop start (take k calls) ++ slice_index_or calls k no_entry ∷ []
    longer = ap (drop start) (take_more calls k no_entry there) ∙ drop-append-le start (take k calls) (slice_index_or calls k no_entry ∷ []) (subst (λ (n : ℕ). start ≤ n) (sym long) before)

none_at : (n k : ℕ) → slice_index (replicate n 0) k ≡ 0
none_at zero k = refl
none_at (suc n) zero = refl
none_at (suc n) (suc k) = none_at n k

pub taken_none : (plan : Planned) (turns : List ℕ) (calls : List Entry) (start : ℕ) → turns ≡ replicate 67 0 → AreTaken plan turns (drop start (take start calls))
taken_none plan turns calls start none = record {
  within = record { many = ap length none; inside = λ n below. let zero = no_turn n in omega (arith, zero) };
  known = subst (All IsOfCaller) (sym empty) (All-nil IsOfCaller);
  each = λ n below. ap (λ (cs : List Entry). events (made_by (caller_of n) cs)) empty ∙ ap (λ (k : ℕ). take k (asks_after plan (caller_of n))) (sym (no_turn n));
}
  where
    empty : drop start (take start calls) ≡ []
    empty = drop_all start (take start calls) (let n = length-take start calls in grind (arith, n))

    no_turn : (n : ℕ) → slice_index turns n ≡ 0
    no_turn n = ap (λ (ts : List ℕ). slice_index ts n) none ∙ none_at 67 n

-- and of all of them
pub taken_end : (plan : Planned) (turns : List ℕ) (calls : List Entry) (start k : ℕ) → length calls ≤ k → AreTaken plan turns (drop start (take k calls)) → AreTaken plan turns (drop start calls)
taken_end plan turns calls start k end are = subst (λ (cs : List Entry). AreTaken plan turns (drop start cs)) (take_all k calls end) are

pub taken_all : (plan : Planned) (turns : List ℕ) (calls : List Entry) → AreTaken plan turns calls → ((n : ℕ) → n < 67 → slice_index turns n ≡ length (asks_after plan (caller_of n))) → AreOwn plan calls
taken_all plan turns calls are all = record {
  known = are.known;
  each = λ n below.
      are.each n below ∙ ap (λ (k : ℕ). take k (asks_after plan (caller_of n))) (all n below) ∙ take_all (length (asks_after plan (caller_of n))) (asks_after plan (caller_of n)) (omega arith);
}

-- ---- what is asked in a turn

-- one event more or less in front
until_more : (e : Event) (es : List Event) → is_end e ≡ false → until_end (e ∷ es) ≡ e ∷ until_end es
until_more e es is = ap (λ (b : Bool). if b then [] else e ∷ until_end es) is

until_none : (e : Event) (es : List Event) → is_end e ≡ true → until_end (e ∷ es) ≡ []
until_none e es is = ap (λ (b : Bool). if b then [] else e ∷ until_end es) is

short : (es : List Event) → length (until_end es) ≤ length es
short [] = omega arith
short (e ∷ es) = go (is_end e) refl (short es)
  where
    go : (b : Bool) → is_end e ≡ b → length (until_end es) ≤ length es → length (until_end (e ∷ es)) ≤ length (e ∷ es)
    go true is rest = subst (λ (xs : List Event). length xs ≤ suc (length es)) (sym (until_none e es is)) (omega arith)
    go false is rest = subst (λ (xs : List Event). length xs ≤ suc (length es)) (sym (until_more e es is)) (omega (arith, rest))

pub through : (es : List Event) (k : ℕ) → k ≤ length (until_end es) → length es ≤ k → k ≡ length (until_end es)
through es k within past = let rest = short es in omega (arith, rest, within, past)

-- an event before the end is there
pub until_here : (es : List Event) (k : ℕ) → k < length (until_end es) → (k < length es) × (slice_index_or (until_end es) k PfReset ≡ slice_index_or es k PfReset)
until_here [] k inside = absurd (omega (arith, inside))
until_here (e ∷ es) zero inside = go (is_end e) refl
  where
    go : (b : Bool) → is_end e ≡ b → (0 < length (e ∷ es)) × (slice_index_or (until_end (e ∷ es)) 0 PfReset ≡ e)
    go true is = absurd (let none : 0 < 0 = subst (λ (xs : List Event). 0 < length xs) (until_none e es is) inside in omega (arith, none))
    go false is = (omega arith, ap (λ (xs : List Event). slice_index_or xs 0 PfReset) (until_more e es is))
until_here (e ∷ es) (suc k) inside = go (is_end e) refl (until_here es k)
  where
    go : (b : Bool) → is_end e ≡ b → (k < length (until_end es) → (k < length es) × (slice_index_or (until_end es) k PfReset ≡ slice_index_or es k PfReset))
        → (suc k < length (e ∷ es)) × (slice_index_or (until_end (e ∷ es)) (suc k) PfReset ≡ slice_index_or es k PfReset)
    go true is rest = absurd (let none : suc k < 0 = subst (λ (xs : List Event). suc k < length xs) (until_none e es is) inside in omega (arith, none))
    go false is rest =
        let here = rest (let less : suc k < suc (length (until_end es)) = subst (λ (xs : List Event). suc k < length xs) (until_more e es is) inside in omega (arith, less)) in
        (let less = here.0 in omega (arith, less), ap (λ (xs : List Event). slice_index_or xs (suc k) PfReset) (until_more e es is) ∙ here.1)

-- the next event is an end, or it isn't
pub goes_on : (es : List Event) (k : ℕ) → k ≤ length (until_end es) → k < length es → is_end (slice_index_or es k PfReset) ≡ false → k < length (until_end es)
goes_on [] k within inside live = absurd (omega (arith, inside))
goes_on (e ∷ es) zero within inside live = subst (λ (xs : List Event). 0 < length xs) (sym (until_more e es live)) (omega arith)
goes_on (e ∷ es) (suc k) within inside live = go (is_end e) refl (goes_on es k)
  where
    go : (b : Bool) → is_end e ≡ b → (k ≤ length (until_end es) → k < length es → is_end (slice_index_or es k PfReset) ≡ false → k < length (until_end es)) → suc k < length (until_end (e ∷ es))
    go true is rest = absurd (let none : suc k ≤ 0 = subst (λ (xs : List Event). suc k ≤ length xs) (until_none e es is) within in omega (arith, none))
    go false is rest =
        let fits : suc k ≤ suc (length (until_end es)) = subst (λ (xs : List Event). suc k ≤ length xs) (until_more e es is) within in
        let less = rest (omega (arith, fits)) (omega (arith, inside)) live in
        subst (λ (xs : List Event). suc k < length xs) (sym (until_more e es is)) (omega (arith, less))

pub ended_here : (es : List Event) (k : ℕ) → k ≤ length (until_end es) → k < length es → is_end (slice_index_or es k PfReset) ≡ true → k ≡ length (until_end es)
ended_here [] k within inside is = absurd (omega (arith, inside))
ended_here (e ∷ es) zero within inside is = ap length (sym (until_none e es is))
ended_here (e ∷ es) (suc k) within inside is = go (is_end e) refl (ended_here es k)
  where
    go : (b : Bool) → is_end e ≡ b → (k ≤ length (until_end es) → k < length es → is_end (slice_index_or es k PfReset) ≡ true → k ≡ length (until_end es)) → suc k ≡ length (until_end (e ∷ es))
    go true here rest = absurd (let none : suc k ≤ 0 = subst (λ (xs : List Event). suc k ≤ length xs) (until_none e es here) within in omega (arith, none))
    go false here rest =
        let fits : suc k ≤ suc (length (until_end es)) = subst (λ (xs : List Event). suc k ≤ length xs) (until_more e es here) within in
        let same = rest (omega (arith, fits)) (omega (arith, inside)) is in
        subst (λ (xs : List Event). suc k ≡ length xs) (sym (until_more e es here)) (omega (arith, same))

-- the service's own events, and the ends behind them
pub service_count : (own : List Event) (pools : List ℕ) → length (own ++ map End pools) ≡ length own + length pools
service_count own pools = length-append own (map End pools) ∙ ap (λ (n : ℕ). length own + n) (length-map pools End)

pub among_own : (own : List Event) (pools : List ℕ) (k : ℕ) → k < length own → slice_index_or own k PfReset ≡ slice_index_or (own ++ map End pools) k PfReset
among_own own pools k inside = sym (get_or-append own (map End pools) PfReset k inside)

pub among_ends : (own : List Event) (pools : List ℕ) (k n p : ℕ) → n ≡ length own → n ≤ k → k - n < length pools → p ≡ slice_index_or pools (k - n) 0 → End p ≡ slice_index_or (own ++ map End pools) k PfReset
among_ends own pools k n p long past inside is =
    ap End is ∙ sym (get_or-map End pools (k - n) 0 PfReset inside) ∙ sym (get_or-append_right own (map End pools) n k PfReset (sym long) past)

-- ---- the whole

pub are_of_script : (script : Meaning) (calls : List Entry) (count : ℕ) (ports : List Bool) → AreFirst (events_before script) (take count calls) → ports ≡ ports_after script (take count calls)
    → AreOwn (planned script ports) (drop count calls) → AreOfScript script calls
are_of_script script calls count ports first is own = record {
  first = take count calls;
  rest = drop count calls;
  all = sym (take-append-drop count calls);
  before = first.before;
  callers = first.callers;
  known = own.known;
  each = λ n below. subst (λ (ps : List Bool). events (made_by (caller_of n) (drop count calls)) ≡ asks_after (planned script ps) (caller_of n)) is (own.each n below);
}
