-- The bytes that were read stand in the caller's.
use Rattle.std.proofs.Common.{◌∙◌}
use Rattle.vfdev_c.proofs.LentLemmas.{lent_from}
use Rattle.vfdev_c.proofs.WantedLemmas.{read_comes}
use Rattle.vfdev_c.proofs.lent_device.LentDevice.read.Goals as goal

pub returns : goal.returns
returns c = lent_from _ _ _ _ _ _ _ c.self.view_is (read_comes _ _ _ _ c.mem_read_live.result _ _ _ c.requires c.mem_read_live.ensures.world c.mem_read_live.ensures.answer c.mem_read_live.ensures.unchanged
    (c.none.ensures.reply ∙ c.read.ensures _) c.none.ensures.messages c.none.ensures.left) c.mem_read_live.ensures.listed c.mem_read_live.ensures.met c.isolates.ensures
