-- A card that does nothing for its driver has the reasons of one without offloads.
use Rattle.std.proofs.Common.{◌∙◌}
use Rattle.tx_desc.proofs.Misused.{misused_plainly}
use Rattle.tx_desc.proofs.offloaded.fetch_plainly.Goals as goal

pub returns-clause-misuse : goal.returns-clause-misuse
returns-clause-misuse g c = c.fetch_into-served.ensures.misuse ∙ misused_plainly c.args.terms.now.offloads _ _ c.requires.plain
