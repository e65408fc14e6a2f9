-- The bytes so far are as at first.
use Rattle.std.proofs.Common.{◌≡◌, ℕ, ◌<◌, get_or, length}
use Rattle.pci_function.specs.Registers.{registers}
use Rattle.pci_function.specs.Rows.{initial_in}
use Rattle.pci_function.proofs.space.lay_initial.Given as goal

abbrev pub invariant-loop-k : goal.invariant-loop-k
invariant-loop-k l = record {
  whole : length l.space ≡ 256;
  first : (j : ℕ) → j < l.k → get_or l.space j 0 ≡ initial_in registers j;
}
