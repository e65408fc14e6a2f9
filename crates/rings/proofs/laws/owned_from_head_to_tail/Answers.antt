-- The law, by its lemmas.
use Rattle.rings.proofs.Places.{owned-off, length-owned-on, owned-place, owned-before_tail, owned-ends}
use Rattle.rings.proofs.laws.owned_from_head_to_tail.Goals as goal

pub returns-clause-none : goal.returns-clause-none
returns-clause-none c = owned-off

pub returns-clause-count : goal.returns-clause-count
returns-clause-count c = λ r v on. length-owned-on r on

pub returns-clause-places : goal.returns-clause-places
returns-clause-places c = owned-place

pub returns-clause-before : goal.returns-clause-before
returns-clause-before c = owned-before_tail

pub returns-clause-tail : goal.returns-clause-tail
returns-clause-tail c = owned-ends
