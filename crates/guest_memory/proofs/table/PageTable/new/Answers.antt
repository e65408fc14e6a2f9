-- A table that was made has room for all leaves, and none is there.
use Rattle.std.proofs.Common.{◌+◌, ◌/◌, rules, arith}
use Rattle.std.proofs.lemmas.Grind.{common_steps}
use Rattle.guest_memory.proofs.TableLemmas.{is_leafed_none}
use Rattle.guest_memory.proofs.table.PageTable.new.Goals as goal

pub invariant_of-result : goal.invariant_of-result
invariant_of-result c =
    is_leafed_none c.args.pages _ _ (c.args.pages / 128 + 1) _ _ (search rules) (omega (arith, c.requires)) (omega arith) (grind (arith, common_steps)) (search rules) (search rules)
