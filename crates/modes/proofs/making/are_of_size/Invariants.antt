-- The memories so far have the size.
use Rattle.std.proofs.Common.{◌≡◌, length, map, take, replicate}
use Rattle.modes.proofs.making.are_of_size.Given as goal

abbrev pub invariant-loop-memory : goal.invariant-loop-memory
invariant-loop-memory g l = map (λ m. length (g.M.GuestMem.bytes m)) (take l.memory-index l.memories) ≡ replicate l.memory-index l.size
