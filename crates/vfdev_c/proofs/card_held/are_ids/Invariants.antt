-- The numbers that are left decide.
use Rattle.std.proofs.Common.{◌≡◌, drop, nat_lt}
use Rattle.std.specs.List.{list_all}
use Rattle.vfdev_c.proofs.card_held.are_ids.Given as goal

abbrev pub invariant-loop-number : goal.invariant-loop-number
invariant-loop-number l = list_all (λ n. nat_lt n 4096) (drop l.number-index l.numbers) ≡ list_all (λ n. nat_lt n 4096) l.numbers
