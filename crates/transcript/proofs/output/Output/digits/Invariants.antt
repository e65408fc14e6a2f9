-- What was sent and what is held, with the digits of the bytes that are left, are the whole.
use Rattle.std.proofs.Common.{◌++◌, length}
use Rattle.hex.specs.Hex.{encode_lower}
use Rattle.transcript.specs.Known.{Sent}
use Rattle.transcript.proofs.output.Output.digits.Given as goal

abbrev pub invariant-loop-rest : goal.invariant-loop-rest
invariant-loop-rest g l =
    Sent (g.W.Write.contents l.fn.writer) (g.W.Write.contents l.writer) (l.fn.self ++ encode_lower l.bytes) (l.self ++ encode_lower l.rest)

abbrev pub decreases-loop-rest : goal.decreases-loop-rest
decreases-loop-rest g l = length l.rest
