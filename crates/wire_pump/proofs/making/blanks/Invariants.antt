-- So many boxes were made, and there is room for all.
use Rattle.std.proofs.Common.{◌≡◌, ◌≤◌, length}
use Rattle.std.specs.Prelude.{vec_capacity}
use Rattle.wire_pump.proofs.making.blanks.Given as goal

abbrev pub invariant-loop : goal.invariant-loop
invariant-loop l = (length l.blanks.items ≡ l.counter) × (66 ≤ vec_capacity l.blanks)
