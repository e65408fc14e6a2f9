-- By the writes of one function.
use Rattle.card.proofs.Bounded.{few_heard, world_heard}
use Rattle.card.proofs.laws.heard_by_bounded_work.Goals as goal

pub returns-clause-world : goal.returns-clause-world
returns-clause-world c = world_heard

pub returns-clause-most : goal.returns-clause-most
returns-clause-most c = few_heard
