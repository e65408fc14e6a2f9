-- The rows of the code, as lines of the definitions.
use Rattle.std.specs.Prelude.{List, map}
use Rattle.pci_function.specs.Registers.{Line}
use Rattle.pci_function.specs.declared.table.Row.{Row}

abbrev pub line : Row → Line
line r = record { at = r.at; width = r.width; initial = r.initial; writable = r.writable }

abbrev pub lines : List Row → List Line
lines rows = map line rows
