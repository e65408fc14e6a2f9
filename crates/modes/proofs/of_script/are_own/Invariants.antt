-- The calls so far are turns of their callers, each the next one.
use Rattle.std.proofs.Common.{drop, take}
use Rattle.modes.specs.Matches.{AreTaken}
use Rattle.modes.proofs.of_script.are_own.Given as goal

abbrev pub invariant-loop-index : goal.invariant-loop-index
invariant-loop-index l = AreTaken l.plan l.turns (drop l.start (take l.index l.history.entries))
