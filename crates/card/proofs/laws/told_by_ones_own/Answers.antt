-- By what is the same of the function.
use Rattle.card.proofs.Parts.{told_alike}
use Rattle.card.proofs.laws.told_by_ones_own.Goals as goal

pub returns : goal.returns
returns c = λ p one two message files. told_alike p one two message files
