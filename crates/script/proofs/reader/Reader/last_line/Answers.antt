-- The last line is the only one of its text.
use Rattle.std.proofs.Common.{◌≤◌, length, arith}
use Rattle.std.proofs.lemmas.Bool.Decides.{nat_tests}
use Rattle.std.proofs.lemmas.Result.{on_ok_weaker, IfErr-weaker}
use Rattle.script.proofs.LineLemmas.{last_bad, last_taken}
use Rattle.script.proofs.reader.Reader.last_line.Goals as goal

pub returns-clause-ok : goal.returns-clause-ok
returns-clause-ok c =
    let some : 1 ≤ length c.args.line.now = grind (arith, nat_tests) in
    on_ok_weaker c.line.result (λ taken. last_taken _ _ _ c.requires some taken) c.line.ensures.ok

pub returns-clause-bad : goal.returns-clause-bad
returns-clause-bad c =
    let some : 1 ≤ length c.args.line.now = grind (arith, nat_tests) in
    IfErr-weaker c.line.result _ _ (λ e bad n is. let why = bad n is in last_bad _ _ _ c.requires some why.0 why.1) c.line.ensures.bad
