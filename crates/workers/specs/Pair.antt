-- The pump and the wire's reader, which have the two ends of one channel.
use Rattle.std.specs.Prelude.{◌≡◌, ℕ, List, [], ◌++◌, map}
use Rattle.device.specs.declared.event.Event.TheVariants.{Wire}
use Rattle.history.specs.declared.caller.Caller.TheVariants.{Pump}
use Rattle.recorder.specs.Held.{HasAsked, CallerLog}
use Rattle.wire_pump.specs.declared.feeding.FeedEnd.{FeedEnd}
use Rattle.wire_pump.specs.declared.pumping.PumpEnd.TheVariants.{Last}
use Rattle.wire_pump.specs.Ends.{ReceiveEnd, SendEnd, HasReceived, HasSent, fed, pumped}
use Rattle.workers.specs.Frames.{frames_of}
use Rattle.workers.specs.Plans.{Planned, own_events}

-- two ends of one channel, through which nothing came so far
pub record AreNew (sender : SendEnd) (receiver : ReceiveEnd) : Type 0 where
  pub one : receiver.channel ≡ sender.channel
  pub sent : sender.sent ≡ []
  pub received : receiver.received ≡ []

-- the reader sent the frames of the wire, which are all of the pump's own events, and then `Last`, or a beginning of that
pub record HasRead (plan : Planned) (old new : SendEnd) : Type 0 where
  pub end : FeedEnd
  pub sent : HasSent (fed (frames_of (own_events plan Pump)) end) old new
  pub wire : map Wire (frames_of (own_events plan Pump)) ≡ own_events plan Pump

-- the pump received frames and then `Last`, and the share that is left asked these frames
pub record HasPumped (share left : CallerLog) (old new : ReceiveEnd) : Type 0 where
  pub frames : List (List ℕ)
  pub received : HasReceived (pumped frames Last) old new
  pub asked : HasAsked (map Wire frames) share left
