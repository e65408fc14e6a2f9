-- The keys before `low` are lower and those from `high` on are higher; each comparison halves what is left.
use Rattle.std.proofs.Common.{ℕ, ◌-◌, ◌<◌, ◌≤◌, ◌^◌, length}
use Rattle.pool_index.specs.Index.{IsBetween}
use Rattle.pool_index.proofs.index.find.Given as goal

abbrev pub invariant-loop-low : goal.invariant-loop-low
invariant-loop-low l = record {
  within : (l.low ≤ l.high) × (l.high ≤ length l.kept);
  between : IsBetween l.kept l.key l.low l.high;
  halved : (digits : ℕ) → length l.kept < 2 ^ digits → (l.compared ≤ digits) × (l.high - l.low < 2 ^ (digits - l.compared));
}

abbrev pub decreases-loop-low : goal.decreases-loop-low
decreases-loop-low l = l.high - l.low
