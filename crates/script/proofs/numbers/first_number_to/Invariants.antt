-- The digits so far write the number, and none is a space.
use Rattle.std.proofs.Common.{◌≡◌, Some, take}
use Rattle.memchr.specs.Find.{Nowhere, Passes, is_byte}
use Rattle.script.specs.Numbers.{number_on}
use Rattle.script.proofs.numbers.first_number_to.Given as goal

abbrev pub invariant-loop-at : goal.invariant-loop-at
invariant-loop-at l = record {
  number : number_on l.base 0 (take l.at l.digits) ≡ Some l.number;
  before : Nowhere (Passes (is_byte 32) l.digits) 0 l.at;
}
