-- Nothing is written where nothing is seen.
use Rattle.modes.proofs.alone.observation.Goals as goal

pub returns-in-Some-clause-err : goal.returns-in-Some-clause-err
returns-in-Some-clause-err g c = rw c.in-Some.is c.seen.ensures.err
