-- The ids so far are those of the numbers so far.
use Rattle.std.proofs.Common.{◌≡◌, map}
use Rattle.std.specs.Prelude.{take, ◌%◌}
use Rattle.vfdev_c.proofs.card_held.ids_of.Given as goal

abbrev pub invariant-loop-number : goal.invariant-loop-number
invariant-loop-number l = l.ids.items ≡ map (λ n. n % 4096) (take l.number-index l.numbers)
