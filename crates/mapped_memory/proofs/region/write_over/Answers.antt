-- The bytes of the region from the address on are the source's.
use Rattle.std.proofs.Common.{arith}
use Rattle.mapped_memory.proofs.LaidLemmas.{laid_in}
use Rattle.mapped_memory.proofs.region.write_over.Goals as goal

pub returns : goal.returns
returns c = laid_in c.args.at c.args.cells.now c.args.addr c.args.source.now c.copy_in.new.cells _ c.requires.first c.requires.last (omega arith) c.copy_in.ensures
