-- One more of the first calls is looked at.
use Rattle.std.proofs.Common.{rules}
use Rattle.device.specs.Request.{event_of}
use Rattle.modes.proofs.Matches.{opened_next}
use Rattle.modes.proofs.of_script.opened_ports.Goals as goal

pub loop-at-preserved : goal.loop-at-preserved
loop-at-preserved c = record {
  have = opened_next c.args.script.now.events c.args.history.now.entries c.loop-at.at (event_of c.request-request.result) c.loop-at.ports c.note_call.new.ports (search rules) (search rules) c.loop-at.invariant.have (search rules)
      (search rules) (search rules) c.note_call.ensures.opened;
  long = c.note_call.ensures.len;
}
