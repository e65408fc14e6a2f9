-- What stands before a port's end is one of its own events.
use Rattle.workers.specs.Plans.{own_events}
use Rattle.modes.proofs.Matches.{until_here}
use Rattle.modes.proofs.of_script.port_ask.Goals as goal

pub request-requires : goal.request-requires
request-requires c = (until_here (own_events c.args.plan.now c.args.port.now) c.args.turn c.requires).0
