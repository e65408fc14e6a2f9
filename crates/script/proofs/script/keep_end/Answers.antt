-- The end of the block stands at its front.
use Rattle.script.proofs.BlockLemmas.{end_moved}
use Rattle.script.proofs.script.keep_end.Goals as goal

pub returns-clause-bytes : goal.returns-clause-bytes
returns-clause-bytes c = end_moved _ _ _ _ c.requires.left c.requires.end c.copy_within.ensures.after
