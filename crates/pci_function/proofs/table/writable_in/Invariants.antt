-- What the rows that are left give is what all give.
use Rattle.std.proofs.Common.{◌≡◌, drop}
use Rattle.pci_function.specs.Rows.{writable_in}
use Rattle.pci_function.specs.Table.{lines}
use Rattle.pci_function.proofs.table.writable_in.Given as goal

abbrev pub invariant-loop-row : goal.invariant-loop-row
invariant-loop-row l = writable_in (lines (drop l.row-index l.rows)) l.k ≡ writable_in (lines l.rows) l.k
