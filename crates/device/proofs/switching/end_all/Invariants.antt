-- The functions so far are closed, and the others as they were.
use Rattle.std.proofs.Common.{◌≡◌, ◌++◌, map, take, drop}
use Rattle.device.specs.Units.{closed}
use Rattle.device.proofs.switching.end_all.Given as goal

abbrev pub invariant-loop-unit : goal.invariant-loop-unit
invariant-loop-unit g l = l.units ≡ map closed (take l.unit-index l.initial.units) ++ drop l.unit-index l.initial.units
