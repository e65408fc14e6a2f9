-- What is found so far where a history is compared with a script.
use Rattle.std.specs.Prelude.{◌≡◌, ℕ, ◌+◌, ◌<◌, ◌≤◌, Bool, List, length, take, slice_index, slice_index_or, slice_set}
use Rattle.std.specs.List.{All}
use Rattle.device.specs.Events.{Event}
use Rattle.device.specs.declared.event.Event.TheVariants.{PfReset}
use Rattle.history.specs.Callers.{caller_of}
use Rattle.history.specs.Entries.{Entry, events}
use Rattle.workers.specs.Callers.{caller_before}
use Rattle.workers.specs.Counts.{made_by}
use Rattle.workers.specs.Opens.{all_closed, opened_after}
use Rattle.workers.specs.Plans.{Planned}
use Rattle.modes.specs.Threads.{IsOfCaller, asks_after}

-- the calls asked these events, in order, each by its caller
pub record AreFirst (asked : List Event) (calls : List Entry) : Type 0 where
  pub before : events calls ≡ asked
  pub callers : All (λ (call : Entry). call.caller ≡ caller_before call.event) calls

-- the same, and the pools that they leave open by their answers
pub record HaveOpened (asked : List Event) (calls : List Entry) (ports : List Bool) : Type 0 where
  pub first : AreFirst asked calls
  pub left : ports ≡ opened_after calls all_closed

-- the calls are of callers, and of each caller all that it is to ask, in order
pub record AreOwn (plan : Planned) (calls : List Entry) : Type 0 where
  pub known : All IsOfCaller calls
  pub each : (n : ℕ) → n < 67 → events (made_by (caller_of n) calls) ≡ asks_after plan (caller_of n)

-- each caller has so many turns behind it, by its number, and not more than it is to ask
pub record AreWithin (plan : Planned) (turns : List ℕ) : Type 0 where
  pub many : length turns ≡ 67
  pub inside : (n : ℕ) → n < 67 → slice_index turns n ≤ length (asks_after plan (caller_of n))

-- the calls are of callers, and of each caller its turns so far, in order
pub record AreTaken (plan : Planned) (turns : List ℕ) (calls : List Entry) : Type 0 where
  pub within : AreWithin plan turns
  pub known : All IsOfCaller calls
  pub each : (n : ℕ) → n < 67 → events (made_by (caller_of n) calls) ≡ take (slice_index turns n) (asks_after plan (caller_of n))

-- a call is the next turn of its caller, which is counted
pub record TakesTurn (plan : Planned) (call : Entry) (old new : List ℕ) : Type 0 where
  pub n : ℕ
  pub below : n < 67
  pub caller : call.caller ≡ caller_of n
  pub inside : slice_index old n < length (asks_after plan (caller_of n))
  pub event : call.event ≡ slice_index_or (asks_after plan (caller_of n)) (slice_index old n) PfReset
  pub counted : new ≡ slice_set old n (slice_index old n + 1)
