-- What both ends of the way back know may be put together.
use Rattle.wire_pump.proofs.Moves.{merges_back, compares, forks_back}
use Rattle.std.proofs.Common.{rules}
use Rattle.wire_pump.proofs.ends.compare_back.Goals as goal

pub absorb-requires-clause-rule : goal.absorb-requires-clause-rule
absorb-requires-clause-rule c = merges_back _ _ _ _ c.requires.receiver c.requires.sender

pub learn_as-requires-clause-rule : goal.learn_as-requires-clause-rule
learn_as-requires-clause-rule c = compares _ _ (search rules)

pub another-requires-clause-rule : goal.another-requires-clause-rule
another-requires-clause-rule c = forks_back _ _ (search rules)
