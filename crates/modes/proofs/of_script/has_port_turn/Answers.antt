-- A port that has no event of its own left is through.
use Rattle.std.proofs.Common.{◌≤◌, ℕ, arith, subst}
use Rattle.std.proofs.lemmas.Bool.Decides.{nat_tests}
use Rattle.workers.specs.Plans.{own_events}
use Rattle.modes.proofs.Matches.{through}
use Rattle.modes.proofs.of_script.has_port_turn.Goals as goal

pub returns-else-turn-turns-clause-done : goal.returns-else-turn-turns-clause-done
returns-else-turn-turns-clause-done c = λ none.
    through (own_events c.args.plan.now c.args.port.now) c.args.turn c.requires (subst (λ (n : ℕ). n ≤ c.args.turn) c.turns.ensures (grind (arith, nat_tests, none)))
