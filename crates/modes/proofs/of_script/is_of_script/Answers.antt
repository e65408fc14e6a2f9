-- Both parts are the script's.
use Rattle.std.proofs.Common.{rules, drop, subst}
use Rattle.std.specs.Arc.{arc_value}
use Rattle.workers.specs.Plans.{Planned}
use Rattle.modes.specs.Matches.{AreOwn}
use Rattle.modes.proofs.Matches.{are_of_script}
use Rattle.modes.proofs.of_script.is_of_script.Goals as goal

pub returns : goal.returns
returns c = λ all.
    are_of_script (arc_value c.args.script) c.args.history.now.entries c.first_count-count.result c.in-Some.ports (search rules) (search rules)
    (subst (λ (plan : Planned). AreOwn plan (drop c.first_count-count.result c.args.history.now.entries)) c.in_ok-plan.ensures (c.are_own.ensures all))
