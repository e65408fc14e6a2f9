-- The table has them.
use Rattle.std.proofs.Common.{arith}
use Rattle.transcript.proofs.Tables.{byte_digits}
use Rattle.transcript.proofs.digits.pair.Goals as goal

pub returns : goal.returns
returns c = byte_digits c.args.byte c.from-at.result (omega arith) c.from-at.ensures
