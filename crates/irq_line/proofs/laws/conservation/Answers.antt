-- Takes that answered a vector are no more than the raises that landed, which are no more than those made; a peek answered what a raise
-- before it in the story left; and a raise stands in the story of the word until a take after it.
use Rattle.std.proofs.Common.{arith}
use Rattle.std.specs.Prelude.{slice_index}
use Rattle.irq_line.specs.Line.{guest_of}
use Rattle.irq_line.proofs.Story.{stands_or_taken, unseen_stand, peeked_raised}
use Rattle.irq_line.proofs.laws.conservation.Goals as goal

pub returns-clause-none_invented : goal.returns-clause-none_invented
returns-clause-none_invented c = λ line rule p v low. let word = rule.words p low in let b = word.balance v in let a = word.at_most v in omega arith

pub returns-clause-none_made_up : goal.returns-clause-none_made_up
returns-clause-none_made_up c = λ line rule p v low some. let word = rule.words p low in peeked_raised p (slice_index line.words p) v rule.raises (guest_of rule.guests p) word.story word.told some

pub returns-clause-last_stands : goal.returns-clause-last_stands
returns-clause-last_stands c = λ line rule p v low. let word = rule.words p low in stands_or_taken word.story (slice_index line.words p) v word.told.ends

pub returns-clause-later_stands : goal.returns-clause-later_stands
returns-clause-later_stands c = λ line rule p v later low is some.
    let word = rule.words p low in
    unseen_stand p (slice_index line.words p) v rule.raises later (guest_of rule.guests p) word.story word.told is some
