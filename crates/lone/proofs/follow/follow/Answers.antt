-- What the pool's part of the device and the lone function have in common.
use Rattle.std.specs.Option.{option_map}
use Rattle.device.specs.Request.{event_of}
use Rattle.lone.specs.Kept.{observation_of}
use Rattle.lone.proofs.Sameness.{same_state, same_sight}
use Rattle.lone.proofs.follow.follow.Goals as goal

pub returns-clause-same_state : goal.returns-clause-same_state
returns-clause-same_state g c = same_state c.args.lone.now c.args.watch.now (event_of c.args.request) c.hand_on.new.lone c.hand_on.new.watch
    c.hand_on.ensures.lone c.hand_on.ensures.world c.hand_on.ensures.pool

pub returns-clause-same_sight : goal.returns-clause-same_sight
returns-clause-same_sight g c = same_sight c.args.lone.now c.args.watch.now (event_of c.args.request) (option_map (observation_of c.hand_on.new.room) c.hand_on.result) c.hand_on.ensures.seen
