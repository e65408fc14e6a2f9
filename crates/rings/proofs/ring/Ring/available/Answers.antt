-- The number of places from the head to the tail is the length of the list of them.
use Rattle.std.proofs.Common.{arith}
use Rattle.std.proofs.lemmas.Grind.{common_steps}
use Rattle.rings.proofs.Places.{length-owned}
use Rattle.rings.proofs.ring.Ring.available.Goals as goal

pub returns-then-not-self : goal.returns-then-not-self
returns-then-not-self c = rw (← c.self.view_is, length-owned) (grind (arith, common_steps))

pub returns : goal.returns
returns c = rw (← c.self.view_is, length-owned) (grind (arith, common_steps))
