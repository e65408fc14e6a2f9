-- Head and what it is moved by stay below twice the count.
use Rattle.std.proofs.Common.{arith}
use Rattle.rings.proofs.Places.{length-owned, owned_count-lt}
use Rattle.rings.proofs.ring.Ring.advance.Goals as goal

pub overflow_add-self-inside : goal.overflow_add-self-inside
overflow_add-self-inside c =
    let v = c.self.invariant c.if-self.true in
    let k = rw (← c.self.view_is, length-owned, c.if-self.true) at c.requires in
    let b = owned_count-lt _ v in
    omega (arith, v.most, v.head_below)

pub wrap-self-inside-requires : goal.wrap-self-inside-requires
wrap-self-inside-requires c =
    let v = c.self.invariant c.if-self.true in
    let k = rw (← c.self.view_is, length-owned, c.if-self.true) at c.requires in
    let b = owned_count-lt _ v in
    omega (arith, v.most, v.head_below)
