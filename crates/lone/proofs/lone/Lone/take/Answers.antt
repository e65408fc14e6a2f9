-- What is seen of a frame is the same whatever stands in the room.
use Rattle.lone.proofs.lone.Lone.take.Goals as goal

pub returns-in-Offer-clause-seen : goal.returns-in-Offer-clause-seen
returns-in-Offer-clause-seen g c = rw c.in-Offer.is (c.offer.ensures.seen c.args.room.now)
