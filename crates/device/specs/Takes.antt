-- What a device makes of one event.
use Rattle.std.specs.Prelude.{◌≡◌}
use Rattle.device.specs.declared.response.Response.{Response}
use Rattle.device.specs.declared.room.Room.{Room}
use Rattle.device.specs.Events.{Event}
use Rattle.device.specs.World.{World, step, sizes_of, sent_by}
use Rattle.device.specs.Outcome.{answer_of, sent_of, left_of, left_by}

-- the device went from one world to the next by this event; the response and the room that was lent are its answer, with the frame that
-- was sent
pub record Takes (old : World) (event : Event) (new : World) (response : Response) (room : Room) : Type 0 where
  pub world : new ≡ (step old event).world
  pub answer : answer_of room response ≡ (step old event).answer
  pub sent : sent_of room response ≡ sent_by old event
  pub left : left_of room response ≡ left_by old event
  pub sizes : sizes_of new ≡ sizes_of old
