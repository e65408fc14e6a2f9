-- All is as it was once the memory is back.
use Rattle.std.proofs.Common.{length}
use Rattle.spare_memory.proofs.Remapped.{back_again}
use Rattle.spare_memory.proofs.spares.Spares.map.Goals as goal

pub returns-in-Ok-clause-card : goal.returns-in-Ok-clause-card
returns-in-Ok-clause-card c =
    back_again c.args.pool (length c.in-Some.stand_in.seen) c.args.card.now c.taken_out.new.card c.put_back.new.card c.in-Some.stand_in.seen c.in-Ok.memory.seen c.map_in-mapped.new.memory.seen
    c.in-Ok.ensures.taken c.in-Ok.ensures.former c.map_in-mapped.ensures.seen c.in-Ok.ensures.over c.put_back.ensures.over
