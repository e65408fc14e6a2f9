-- What a caller knows of an answer of a device that others ask too.
use Rattle.std.specs.Prelude.{◌≡◌}
use Rattle.device.specs.Events.{Event}
use Rattle.device.specs.declared.event.Answer.{Answer}
use Rattle.device.specs.declared.response.Response.{Response}
use Rattle.device.specs.declared.room.Room.{Room}
use Rattle.device.specs.World.{World, step, sent_by}
use Rattle.device.specs.Outcome.{answer_of, sent_of, left_of, left_by}
use Rattle.recorder.specs.Held.{CallerLog, having_asked}

-- the event may be answered so: some world's step does it
abbrev pub MayAnswer : Event → Answer → Type 0
MayAnswer event answer = (w : World) × (answer ≡ (step w event).answer)

-- the event may be answered by this response and the room that was lent, with the frame that was sent: one world's step does all of it
pub record MayRespond (event : Event) (response : Response) (room : Room) : Type 0 where
  pub world : World
  pub answer : answer_of room response ≡ (step world event).answer
  pub sent : sent_of room response ≡ sent_by world event
  pub left : left_of room response ≡ left_by world event

-- a share once it asked one more event, which was answered as it may be
pub record HasAskedOne (event : Event) (old new : CallerLog) : Type 0 where
  pub answer : Answer
  pub kept : new ≡ having_asked event answer old
  pub given : MayAnswer event answer
