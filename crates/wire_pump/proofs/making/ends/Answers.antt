-- The rule of the sequence holds where nothing was sent, and of each end.
use Rattle.std.proofs.Common.{rules}
use Rattle.wire_pump.proofs.Moves.{begins, forks}
use Rattle.wire_pump.proofs.making.ends.Goals as goal

pub bounded_with-requires-clause-rule : goal.bounded_with-requires-clause-rule
bounded_with-requires-clause-rule c = begins

pub another-other-requires-clause-rule : goal.another-other-requires-clause-rule
another-other-requires-clause-rule c = forks _ _ (search rules)

-- and so of the way back
pub bounded_with-requires-2-clause-rule : goal.bounded_with-requires-2-clause-rule
bounded_with-requires-2-clause-rule c = begins

pub another-used_pass-requires-clause-rule : goal.another-used_pass-requires-clause-rule
another-used_pass-requires-clause-rule c = forks _ _ (search rules)
