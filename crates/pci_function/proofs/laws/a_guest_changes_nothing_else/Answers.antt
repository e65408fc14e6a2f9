-- The law, by its lemma.
use Rattle.pci_function.proofs.Fixed.{fixed_after, fixed_at_first}
use Rattle.pci_function.proofs.laws.a_guest_changes_nothing_else.Goals as goal

pub returns : goal.returns
returns c = λ writes. fixed_after writes _ fixed_at_first
