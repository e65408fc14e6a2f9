-- Those so far stand behind the others.
use Rattle.std.proofs.Common.{◌≡◌, ◌++◌}
use Rattle.recorder.specs.Held.{left_of}
use Rattle.recorder.proofs.shares.push_left.Given as goal

abbrev pub invariant-loop-port : goal.invariant-loop-port
invariant-loop-port g l = l.others.items ≡ l.initial.others.items ++ left_of l.yielded
