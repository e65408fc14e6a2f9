-- The digits that are left lead from the number now to the number of all.
use Rattle.std.proofs.Common.{◌≡◌, drop}
use Rattle.script.specs.Numbers.{number_on}
use Rattle.script.proofs.numbers.to_base.Given as goal

abbrev pub invariant-loop-byte : goal.invariant-loop-byte
invariant-loop-byte l = number_on l.base l.number (drop l.byte-index l.digits) ≡ number_on l.base 0 l.digits
