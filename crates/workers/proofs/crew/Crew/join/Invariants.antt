-- The workers so far did what they promised, unless something was refused or the history was full.
use Rattle.std.proofs.Common.{◌≡◌, false, map}
use Rattle.workers.specs.Duties.{HaveDone}
use Rattle.workers.specs.Crew.{duty_in}
use Rattle.workers.proofs.crew.Crew.join.Given as goal

abbrev pub invariant-loop-worker : goal.invariant-loop-worker
invariant-loop-worker g l = record {
  refused : l.ends.was_refused ≡ false → l.was_refused ≡ false;
  done : l.ends.was_refused ≡ false → l.ends.was_full ≡ false → HaveDone (map (λ one. duty_in one.1) l.yielded) l.fn.shares.items l.shares.items;
}
