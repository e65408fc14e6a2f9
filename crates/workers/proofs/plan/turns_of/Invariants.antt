-- The places so far are those of the events so far.
use Rattle.workers.specs.Plans.{planned}
use Rattle.workers.proofs.Places.{AreSoFar}
use Rattle.workers.proofs.plan.turns_of.Given as goal

abbrev pub invariant-loop-place : goal.invariant-loop-place
invariant-loop-place l = AreSoFar (planned l.script l.ports) l.place l.turns.items
