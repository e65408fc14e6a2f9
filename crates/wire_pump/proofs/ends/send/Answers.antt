-- A frame that is sent is the last of the sequence.
use Rattle.wire_pump.proofs.Moves.{pushes, learns}
use Rattle.wire_pump.proofs.ends.send.Goals as goal

pub send_as-requires-clause-rule : goal.send_as-requires-clause-rule
send_as-requires-clause-rule g c = (pushes _ _ _ c.args.message c.requires.sender c.requires.proper, learns _ _)
