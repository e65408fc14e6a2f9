-- An owned descriptor lies inside the memory, and its place in the ring is found by one turn.
use Rattle.std.proofs.Common.{arith}
use Rattle.std.proofs.lemmas.Grind.{common_steps}
use Rattle.rings.proofs.Places.{owned_at}
use Rattle.rings.proofs.ring.Ring.slot.Goals as goal

pub overflow_add-self-inside : goal.overflow_add-self-inside
overflow_add-self-inside c =
    let a = owned_at _ _ c.self.invariant (rw (← c.self.view_is) at c.requires) in
    omega (arith, a.in_round, a.valid.most)

pub wrap-place-requires : goal.wrap-place-requires
wrap-place-requires c =
    let a = owned_at _ _ c.self.invariant (rw (← c.self.view_is) at c.requires) in
    omega (arith, a.in_round, a.valid.most)

pub returns-clause-value : goal.returns-clause-value
returns-clause-value c =
    let a = owned_at _ _ c.self.invariant (rw (← c.self.view_is) at c.requires) in
    rw (← c.self.view_is, a.place) (grind (arith, common_steps))

pub overflow_add-result : goal.overflow_add-result
overflow_add-result c =
    let a = owned_at _ _ c.self.invariant (rw (← c.self.view_is) at c.requires) in
    omega (arith, a.valid.fits, a.valid.least, c.wrap-place.ensures)

pub returns-clause-inside : goal.returns-clause-inside
returns-clause-inside c =
    let a = owned_at _ _ c.self.invariant (rw (← c.self.view_is) at c.requires) in
    rw (← c.self.view_is) (omega (arith, a.valid.fits, a.valid.least, c.wrap-place.ensures))

pub returns-clause-on : goal.returns-clause-on
returns-clause-on c =
    let a = owned_at _ _ c.self.invariant (rw (← c.self.view_is) at c.requires) in
    rw (← c.self.view_is) a.on
