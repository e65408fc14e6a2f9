-- What both ends know of the sequence of frames may be put together.
use Rattle.std.proofs.Common.{rules}
use Rattle.wire_pump.proofs.Moves.{merges, compares, forks}
use Rattle.wire_pump.proofs.ends.compare_forth.Goals as goal

pub absorb-requires-clause-rule : goal.absorb-requires-clause-rule
absorb-requires-clause-rule c = merges _ _ _ _ c.requires.sender c.requires.receiver

pub learn_as-requires-clause-rule : goal.learn_as-requires-clause-rule
learn_as-requires-clause-rule c = compares _ _ (search rules)

pub another-requires-clause-rule : goal.another-requires-clause-rule
another-requires-clause-rule c = forks _ _ (search rules)
