-- So far the sizes are the same.
use Rattle.std.proofs.Common.{◌≡◌, ℕ, ◌<◌, get_or, length}
use Rattle.vf_unit.specs.Unit.{Closed, size_of}
use Rattle.recorder.proofs.makes.have_same_sizes.Given as goal

abbrev pub invariant-loop-pool : goal.invariant-loop-pool
invariant-loop-pool g l = record {
  same : (k : ℕ) → k < l.pool → size_of (get_or l.one.world.functions k (Closed 0)) ≡ size_of (get_or l.other.world.functions k (Closed 0));
  long : length l.one.world.functions ≡ length l.other.world.functions;
}
