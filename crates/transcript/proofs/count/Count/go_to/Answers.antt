-- The next number differs in its last digit alone.
use Rattle.std.proofs.Common.{rules, arith}
use Rattle.transcript.proofs.Counts.{counted_on}
use Rattle.transcript.proofs.count.Count.go_to.Goals as goal

pub invariant_of-self : goal.invariant_of-self
invariant_of-self c =
    let kept = c.self.invariant in
    (kept.0, counted_on c.self.inside.digits c.self.inside.first c.self.inside.number c.args.number (search rules) kept.0 (search rules) (search rules) kept.1 (omega arith) (omega arith))
