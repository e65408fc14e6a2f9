-- A write to all regions leaves where they lie.
use Rattle.std.proofs.Common.{arith}
use Rattle.mapped_memory.proofs.MappedLemmas.{mapped_written}
use Rattle.mapped_memory.proofs.live_mem.LiveMem.write_elsewhere.Goals as goal

pub invariant_of-self-in-None : goal.invariant_of-self-in-None
invariant_of-self-in-None c = (c.self.invariant.0, c.self.invariant.1, omega arith, omega arith, rw c.write_all.ensures.items (mapped_written c.self.inside.size c.args.addr c.args.source.now c.self.inside.regions.items c.self.invariant.4))
