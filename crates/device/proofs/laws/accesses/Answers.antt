-- The law, by its lemmas.
use Rattle.device.proofs.AccessSteps.{accesses_follow}
use Rattle.device.proofs.AccessLists.{all_follow}
use Rattle.device.proofs.laws.accesses.Goals as goal

pub returns-clause-made : goal.returns-clause-made
returns-clause-made c = accesses_follow

pub returns-clause-all : goal.returns-clause-all
returns-clause-all c = all_follow
