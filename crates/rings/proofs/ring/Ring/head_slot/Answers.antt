-- Where head and tail differ, the device owns a descriptor, the first of which is at the head; else it owns none.
use Rattle.std.proofs.Common.{◌≡◌, ◌≤◌, length, slice_index, sym, ap, ◌∙◌, refl}
use Rattle.rings.specs.Ring.{owned}
use Rattle.rings.proofs.Places.{length-owned, owned_count-some, owned-off, owned-first, length-owned-equal}
use Rattle.rings.proofs.ring.Ring.head_slot.Goals as goal
use Rattle.rings.proofs.ring.Ring.head_slot.Goals.{then-not-self-via-then-not-self, then-not-self-via-else-not-self+then-self}

pub returns-then-not-self-clause-none : goal.returns-then-not-self-clause-none
returns-then-not-self-clause-none c =
    elim c.then-not-self.branch [
      | then-not-self-via-then-not-self w ↦ rw (← c.self.view_is) (ap length (owned-off _ w.if-not-self.true))
      | then-not-self-via-else-not-self+then-self w ↦ rw (← c.self.view_is) (length-owned-equal _ c.self.invariant w.if-self.true)
    ]

pub returns-clause-owned : goal.returns-clause-owned
returns-clause-owned c =
    let v = c.self.invariant c.if-not-self.false in
    rw (← c.self.view_is, length-owned, c.if-not-self.false) (owned_count-some _ v c.if-self.false)

pub returns-clause-first : goal.returns-clause-first
returns-clause-first c =
    let v = c.self.invariant c.if-not-self.false in
    let some : 1 ≤ length (owned c.args.self.now) = rw (← c.self.view_is, length-owned, c.if-not-self.false) (owned_count-some _ v c.if-self.false) in
    let first : slice_index (owned c.args.self.now) 0 ≡ c.from.result = owned-first c.args.self.now (rw (← c.self.view_is) c.self.invariant) some ∙ rw (← c.self.view_is) (sym c.from.ensures) in
    rw (first, ← c.self.view_is) refl
