-- The memories so far have the size that was asked for.
use Rattle.std.proofs.Common.{◌≡◌, replicate, map, length}
use Rattle.vfdev_c.proofs.making.memories.Given as goal

abbrev pub invariant-loop : goal.invariant-loop
invariant-loop l = map length l.all.items ≡ replicate l.counter l.size
