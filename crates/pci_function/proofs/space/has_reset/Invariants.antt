-- What is left resets the function where the whole write does.
use Rattle.std.proofs.Common.{◌≡◌, ◌+◌, drop}
use Rattle.pci_function.specs.Space.{resets}
use Rattle.pci_function.proofs.space.has_reset.Given as goal

abbrev pub invariant-loop-x : goal.invariant-loop-x
invariant-loop-x l = record {
  rest : resets l.k (drop l.x-index l.bytes) ≡ resets l.initial.k l.bytes;
  place : l.k ≡ l.initial.k + l.x-index;
}
