-- So many are made so far.
use Rattle.std.proofs.Common.{◌≡◌, replicate}
use Rattle.spare_memory.specs.Spares.{unmapped}
use Rattle.vfdev_c.proofs.card_held.vacancies.Given as goal

abbrev pub invariant-loop : goal.invariant-loop
invariant-loop l = l.memories.items ≡ replicate l.counter (unmapped 0)
