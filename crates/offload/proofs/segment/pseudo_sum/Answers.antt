-- The rest of a pseudo header is two numbers.
use Rattle.std.proofs.Common.{ap, ◌∙◌, arith}
use Rattle.internet_checksum.specs.Sum.{folded}
use Rattle.offload.proofs.Pseudo.{pseudo-v4, pseudo-v6}
use Rattle.offload.proofs.segment.pseudo_sum.Goals as goal

pub returns-in-V4 : goal.returns-in-V4
returns-in-V4 c = c.sum.ensures ∙ ap folded (pseudo-v4 c.args.ip c.args.header.now c.args.behind c.in-V4.is c.requires.least (omega arith))

pub returns-in-V6 : goal.returns-in-V6
returns-in-V6 c = c.sum-in-V6.ensures ∙ ap folded (pseudo-v6 c.args.ip c.args.header.now c.args.behind c.in-V6.is c.requires.least (omega arith))
