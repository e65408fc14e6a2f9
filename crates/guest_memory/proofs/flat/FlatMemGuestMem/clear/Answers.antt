-- No page is stored, and the room stays.
use Rattle.std.proofs.Common.{arith, rules}
use Rattle.guest_memory.proofs.PagesLemmas.{is_paged_none}
use Rattle.guest_memory.proofs.flat.FlatMemGuestMem.clear.Goals as goal

pub invariant_of-self : goal.invariant_of-self
invariant_of-self c =
    is_paged_none _ _ _ _ _ _ c.clear.ensures c.self.invariant.reach (search rules) (search rules)
    (omega (arith, c.self.invariant.few, c.self.invariant.reach)) (omega (arith, c.self.invariant.fits, c.self.invariant.reach))
