-- The ends so far are quiet.
use Rattle.std.proofs.Common.{◌≡◌, replicate}
use Rattle.card.specs.Card.{quiet}
use Rattle.card.proofs.card.quiet_ends.Given as goal

abbrev pub invariant-loop : goal.invariant-loop
invariant-loop l = l.ends.items ≡ replicate l.counter quiet
