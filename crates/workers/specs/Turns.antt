-- The places of each caller's events.
use Rattle.std.specs.Prelude.{◌≡◌, ℕ, ◌<◌, List, [], length, map, slice_index_or}
use Rattle.std.specs.List.{All}
use Rattle.device.specs.Events.{Event}
use Rattle.device.specs.declared.event.Event.TheVariants.{PfReset}
use Rattle.history.specs.Callers.{caller_of as caller_at}
use Rattle.workers.specs.Plans.{Planned, own_events}

-- the event at a place
abbrev pub event_at : List Event → ℕ → Event
event_at events place = slice_index_or events place PfReset

-- each caller's own events are those at its places, which stand by the caller's number
pub record AreTurns (plan : Planned) (turns : List (List ℕ)) : Type 0 where
  pub many : length turns ≡ 67
  pub own : (n : ℕ) → n < 67 → map (event_at plan.events) (slice_index_or turns n []) ≡ own_events plan (caller_at n)
  pub inside : (n : ℕ) → n < 67 → All (λ place. place < length plan.events) (slice_index_or turns n [])
