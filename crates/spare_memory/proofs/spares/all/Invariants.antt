-- So many are made so far.
use Rattle.std.proofs.Common.{◌≡◌, replicate}
use Rattle.spare_memory.specs.Spares.{SPACE, unmapped}
use Rattle.spare_memory.proofs.spares.all.Given as goal

abbrev pub invariant-loop : goal.invariant-loop
invariant-loop l = l.memories.items ≡ replicate l.counter (unmapped SPACE)
