-- The ids of all numbers are the numbers.
use Rattle.std.proofs.Common.{rules}
use Rattle.vfdev_c.proofs.CardLemmas.{ids_given}
use Rattle.vfdev_c.proofs.card_held.ids_of.Goals as goal

pub returns-clause-ok : goal.returns-clause-ok
returns-clause-ok c = ids_given c.loop-number.ids.items c.args.numbers.now c.loop-number.number-index c.requires c.loop-number.invariant (search rules)
