-- The ids from here on have the place that all have.
use Rattle.std.proofs.Common.{◌≡◌, drop}
use Rattle.mailbox.specs.Policy.{place_from}
use Rattle.mailbox.proofs.policy.place_of.Given as goal

abbrev pub invariant-loop-k : goal.invariant-loop-k
invariant-loop-k l = place_from l.k (drop l.k l.ids) l.id ≡ place_from 0 l.ids l.id
