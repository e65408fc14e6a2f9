-- The law, by its lemmas.
use Rattle.device.proofs.Refusals.{refused_keeps_world, refused_tells_nobody}
use Rattle.device.proofs.laws.refused.Goals as goal

pub returns-clause-world : goal.returns-clause-world
returns-clause-world c = refused_keeps_world

pub returns-clause-silent : goal.returns-clause-silent
returns-clause-silent c = refused_tells_nobody
