-- The bytes of `out` are the region's from the address on.
use Rattle.mapped_memory.proofs.LaidLemmas.{laid_over}
use Rattle.mapped_memory.proofs.region.read_over.Goals as goal

pub returns : goal.returns
returns c = laid_over c.args.addr c.args.out.now c.args.at c.args.cells.now c.copy_out.new.out c.requires.first c.requires.last c.copy_out.ensures
