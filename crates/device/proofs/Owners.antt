-- The function whose own event it is. A lemma over all events names those for which it says something of its own, such as services, resets and what is
-- no function's own; one last arm `e` says the rest of `owner e`, so an event that a function takes as it takes most wants no line there. The last arm
-- is checked for each event by itself, where some arm before it names an event.
use Rattle.std.proofs.Common.{◌≡◌, refl}
use Rattle.std.specs.Prelude.{ℕ}
use Rattle.std.specs.Option.{unwrap_or}
use Rattle.device.specs.declared.event.Event.{Event as EventOf}
use Rattle.device.specs.declared.event.Event.TheVariants.{Open}
use Rattle.device.specs.Lone.{pool_of}
use Rattle.device.specs.Request.{Request, event_of}
use Rattle.device.specs.Whose.{whose_of}

-- its number; 0 where it is nobody's
abbrev pub owner : {B F : Type 0} → EventOf B F → ℕ
owner e = unwrap_or (pool_of e) 0

-- a request is whose the event is that it stands for
pub whose_asked : (r : Request) → whose_of r ≡ whose_of (event_of r)
whose_asked (Open p) = refl
whose_asked r = refl
