-- Each pool so far has its share, and the other parts are left.
use Rattle.std.proofs.Common.{◌≡◌, ℕ, ◌+◌, ◌<◌, length, Some, slice_get}
use Rattle.history.specs.declared.caller.Caller.TheVariants.{Port}
use Rattle.recorder.specs.Held.{unused}
use Rattle.recorder.proofs.shares.Shares.new.Given as goal

abbrev pub invariant-loop-pool : goal.invariant-loop-pool
invariant-loop-pool g l = record {
  parts : l.all.parts + l.pool ≡ 67;
  amount : l.all.amount ≡ 0;
  long : length l.ports.items ≡ l.pool;
  each : (p : ℕ) → p < l.pool → slice_get l.ports.items p ≡ Some (Some (unused l.line.line (Port p)));
}
