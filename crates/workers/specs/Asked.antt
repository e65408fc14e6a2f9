-- The calls of a share, with what came of them.
use Rattle.std.specs.Prelude.{◌≡◌, List, Option, Some}
use Rattle.device.specs.Events.{Event}
use Rattle.device.specs.declared.event.Answer.{Answer}
use Rattle.recorder.specs.Held.{HasAsked, CallerLog, having_asked}
use Rattle.device_lock.specs.Answers.{MayAnswer}

-- a share asked one more event, and this is the answer that was kept, which some device gives
pub record HasTold (event : Event) (answer : Answer) (old new : CallerLog) : Type 0 where
  pub kept : new ≡ having_asked event answer old
  pub given : MayAnswer event answer

-- the share that is left once a share asked events
abbrev pub HasLeft : List Event → CallerLog → Option CallerLog → Type 0
HasLeft events old left = (new : CallerLog) × (left ≡ Some new) × HasAsked events old new
