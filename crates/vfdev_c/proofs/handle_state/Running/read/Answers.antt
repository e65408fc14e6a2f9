-- The bytes that were read stand in the caller's.
use Rattle.std.proofs.Common.{◌∙◌, sym}
use Rattle.vfdev_c.proofs.HandleLemmas.{made_from}
use Rattle.vfdev_c.proofs.WantedLemmas.{read_comes}
use Rattle.vfdev_c.proofs.handle_state.Running.read.Goals as goal

pub returns : goal.returns
returns c = made_from _ _ _ _ _ _ _ c.self.view_is (read_comes _ _ _ _ c.mem_read.result _ _ _ c.requires (sym c.self.view_is ∙ c.mem_read.ensures.world) c.mem_read.ensures.answer c.mem_read.ensures.unchanged
    (c.none.ensures.reply ∙ c.read.ensures _) c.none.ensures.messages c.none.ensures.left) c.isolates.ensures
