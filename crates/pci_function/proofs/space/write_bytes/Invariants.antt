-- What is left to write gives what the whole write gives.
use Rattle.std.proofs.Common.{◌≡◌, ◌+◌, drop}
use Rattle.pci_function.specs.Space.{with_bytes}
use Rattle.pci_function.proofs.space.write_bytes.Given as goal

abbrev pub invariant-loop-x : goal.invariant-loop-x
invariant-loop-x l = record {
  space : with_bytes l.k (drop l.x-index l.bytes) l.space ≡ with_bytes l.initial.k l.bytes l.initial.space;
  place : l.k ≡ l.initial.k + l.x-index;
}
