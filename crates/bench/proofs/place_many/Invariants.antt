-- The ring stays inside the memory.
use Rattle.std.proofs.Common.{length}
use Rattle.rings.specs.Ring.{LiesInside}
use Rattle.bench.proofs.place_many.Given as goal

abbrev pub invariant-loop-turn : goal.invariant-loop-turn
invariant-loop-turn g l = LiesInside (length (g.M.GuestMem.bytes l.memory.memory)) l.ring
