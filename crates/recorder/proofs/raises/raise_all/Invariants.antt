-- The pools that are not left have their raises.
use Rattle.std.proofs.Common.{◌≡◌}
use Rattle.recorder.proofs.RaiseLemmas.{Done}
use Rattle.recorder.proofs.raises.raise_all.Given as goal

abbrev pub invariant-loop-pool : goal.invariant-loop-pool
invariant-loop-pool l = (l.line.line ≡ l.initial.line.line) × Done l.messages l.initial.line.raises l.pool-iterator l.line.raises
