-- A frame that stands whole is read whole.
use Rattle.std.proofs.Common.{List, ◌++◌, ap, ◌∙◌}
use Rattle.live_memory.specs.Trace.{Access}
use Rattle.tx_desc.proofs.Listing.{whole_listed}
use Rattle.tx_desc.proofs.fetching.gather.Goals as goal

pub returns-then-is_whole-clause-listed : goal.returns-then-is_whole-clause-listed
returns-then-is_whole-clause-listed g c =
    c.take_whole.ensures.listed
    ∙ ap (λ (t : List Access). c.args.memory.now.accesses ++ t) (whole_listed c.args.limit c.args.pending.now c.args.descriptor (g.D.Dma.seen c.take_whole.new.memory.memory) (c.is_empty.ensures.0 c.if-is_empty.true) (c.is_whole.ensures c.if-is_whole.true).within)
