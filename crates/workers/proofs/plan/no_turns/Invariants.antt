-- So many lists so far, all of them empty.
use Rattle.std.proofs.Common.{◌≡◌, [], replicate}
use Rattle.workers.proofs.plan.no_turns.Given as goal

abbrev pub invariant-loop : goal.invariant-loop
invariant-loop l = l.turns.items ≡ replicate l.counter []
