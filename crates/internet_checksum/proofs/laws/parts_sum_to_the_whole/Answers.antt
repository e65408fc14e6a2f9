-- The laws, by their lemmas.
use Rattle.internet_checksum.proofs.Adding.{folded-part, word_sum-append}
use Rattle.internet_checksum.proofs.laws.parts_sum_to_the_whole.Goals as goal

pub returns-clause-words : goal.returns-clause-words
returns-clause-words c = word_sum-append

pub returns-clause-folded : goal.returns-clause-folded
returns-clause-folded c = folded-part
