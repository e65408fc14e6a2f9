-- What the rows that are left give is what all give.
use Rattle.std.proofs.Common.{◌≡◌, drop}
use Rattle.pci_function.specs.Rows.{initial_in}
use Rattle.pci_function.specs.Table.{lines}
use Rattle.pci_function.proofs.table.initial_in.Given as goal

abbrev pub invariant-loop-row : goal.invariant-loop-row
invariant-loop-row l = initial_in (lines (drop l.row-index l.rows)) l.k ≡ initial_in (lines l.rows) l.k
