-- The law, by what is so of each pool of a device as it is made.
use Rattle.std.proofs.Common.{sym}
use Rattle.device.proofs.Unwinding.{lone_of-fresh}
use Rattle.lone.proofs.laws.part_at_first.Goals as goal

pub returns : goal.returns
returns c = λ p limit sizes below. sym (lone_of-fresh p limit sizes below)
