-- What is written stands before what the digits that are left write, as long as all of them were digits.
use Rattle.std.proofs.Common.{◌≡◌, ◌+◌, ◌*◌, length, take}
use Rattle.script.specs.Bytes.{pairs_of}
use Rattle.script.proofs.Pairs.{so_far}
use Rattle.script.proofs.hexadecimal.decode_by.Given as goal

abbrev pub invariant-loop-byte : goal.invariant-loop-byte
invariant-loop-byte l = record {
  left : length l.rest + 2 * l.byte-index ≡ 2 * length l.out;
  bytes : so_far l.greatest (take l.byte-index l.out) (pairs_of l.rest) ≡ pairs_of l.digits;
}
