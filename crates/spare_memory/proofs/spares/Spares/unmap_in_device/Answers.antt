-- All is as it was once the memory is back.
use Rattle.std.proofs.Common.{ap, length}
use Rattle.mapped_memory.specs.Regions.{Regions}
use Rattle.spare_memory.proofs.Devices.{back_again}
use Rattle.spare_memory.proofs.spares.Spares.unmap_in_device.Goals as goal

pub returns-in-Ok-clause-device : goal.returns-in-Ok-clause-device
returns-in-Ok-clause-device c =
    back_again c.args.pool (length c.in-Some.stand_in.seen) c.args.device.now c.taken_out_of_device.new.device c.put_back_into_device.new.device c.in-Some.stand_in.seen c.in-Ok.memory.seen c.unmap-cells.new.self.seen
    c.in-Ok.ensures.taken c.in-Ok.ensures.former (ap (λ (m : Regions). m.seen) c.unmap-cells.ensures.others) c.in-Ok.ensures.over c.put_back_into_device.ensures.over
