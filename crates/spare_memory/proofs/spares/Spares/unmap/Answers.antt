-- All is as it was once the memory is back.
use Rattle.std.proofs.Common.{ap, length}
use Rattle.mapped_memory.specs.Regions.{Regions}
use Rattle.spare_memory.proofs.Remapped.{back_again}
use Rattle.spare_memory.proofs.spares.Spares.unmap.Goals as goal

pub returns-in-Ok-clause-card : goal.returns-in-Ok-clause-card
returns-in-Ok-clause-card c =
    back_again c.args.pool (length c.in-Some.stand_in.seen) c.args.card.now c.taken_out.new.card c.put_back.new.card c.in-Some.stand_in.seen c.in-Ok.memory.seen c.unmap-cells.new.self.seen
    c.in-Ok.ensures.taken c.in-Ok.ensures.former (ap (λ (m : Regions). m.seen) c.unmap-cells.ensures.others) c.in-Ok.ensures.over c.put_back.ensures.over
