-- A frame that is received is the next of the sequence.
use Rattle.wire_pump.proofs.Moves.{pops, learns}
use Rattle.wire_pump.proofs.ends.receive.Goals as goal

pub recv_as-requires-clause-rule : goal.recv_as-requires-clause-rule
recv_as-requires-clause-rule g c = (pops _ _ c.requires.receiver, learns _ _)
