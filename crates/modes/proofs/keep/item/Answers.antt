-- Nothing is written where nothing is left.
use Rattle.modes.proofs.keep.item.Goals as goal

pub returns-in-Some-clause-err : goal.returns-in-Some-clause-err
returns-in-Some-clause-err g c = rw c.in-Some.is c.item.ensures.err
