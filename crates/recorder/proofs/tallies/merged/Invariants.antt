-- The parts so far, with those of the shares that are left, are those of all shares.
use Rattle.std.proofs.Common.{◌≡◌, ◌+◌, length}
use Rattle.std.specs.List.{sum_by}
use Rattle.recorder.specs.Held.{count_of}
use Rattle.recorder.proofs.tallies.merged.Given as goal

abbrev pub invariant-loop-share : goal.invariant-loop-share
invariant-loop-share g l = record {
  parts : l.all.parts + length l.shares.items ≡ length l.fn.shares.items;
  amount : l.all.amount + sum_by count_of l.shares.items ≡ sum_by count_of l.fn.shares.items;
}

abbrev pub decreases-loop-share : goal.decreases-loop-share
decreases-loop-share g l = goal.left-loop-share g l
