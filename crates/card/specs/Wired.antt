-- What a card lives while events come one after another, as frames from the wire.
use Rattle.std.specs.Prelude.{◌≡◌, Bool, List, length}
use Rattle.device.specs.Events.{Event}
use Rattle.live_run.specs.Live.{AllMet, Noted, last_of}
use Rattle.card.specs.Card.{CardState}
use Rattle.card.specs.Life.{HasLived, live_deeds, world_of}

-- before each event, each function writes itself just what was noted as read from its memory, and then the event comes
pub record HasLivedThrough (shared : Bool) (events : List Event) (old new : CardState) : Type 0 where
  pub noted : List Noted
  pub each : length noted ≡ length events
  pub met : AllMet shared (world_of old) old.hosted.device.accesses events noted
  pub last : new.hosted.device.accesses ≡ last_of old.hosted.device.accesses noted
  pub lived : HasLived (live_deeds old events noted) old new
