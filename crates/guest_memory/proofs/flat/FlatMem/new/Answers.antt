-- A memory that was made has room for all its pages, and none is stored.
use Rattle.std.proofs.Common.{◌+◌, ◌/◌, rules, arith}
use Rattle.std.proofs.lemmas.Grind.{common_steps}
use Rattle.guest_memory.proofs.PagesLemmas.{is_paged_none}
use Rattle.guest_memory.proofs.flat.FlatMem.new.Goals as goal

pub invariant_of-result : goal.invariant_of-result
invariant_of-result c =
    is_paged_none c.args.size _ (c.args.size / 2048 + 1) _ _ _ (search rules) (search rules) (search rules) (search rules)
    (grind (arith, common_steps)) (grind (arith, common_steps))
