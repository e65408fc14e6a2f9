-- The laws, by their lemmas.
use Rattle.transmit_page.proofs.Few.{at_most_ten, none_unchanged}
use Rattle.transmit_page.proofs.laws.changes_are_few.Goals as goal

pub returns-clause-most : goal.returns-clause-most
returns-clause-most c = at_most_ten

pub returns-clause-none : goal.returns-clause-none
returns-clause-none c = none_unchanged
