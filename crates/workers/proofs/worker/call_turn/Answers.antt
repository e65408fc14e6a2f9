-- A port's own event is one that the port may do.
use Rattle.std.proofs.Common.{rules}
use Rattle.device.specs.Request.{event_of}
use Rattle.workers.proofs.Turns.{own_port_event}
use Rattle.workers.proofs.worker.call_turn.Goals as goal

pub call-requires : goal.call-requires
call-requires g c =
    own_port_event c.args.plan.now c.args.turn c.args.port.now.port.pool c.caller.result (event_of c.request-request.result) c.caller.ensures (search rules) c.request-request.ensures
