-- The whole register map of the physical function, row by row.
use Rattle.std.specs.Prelude.{ℕ, List, [], ◌∷◌}
use Rattle.std.specs.List.{filter}
use Rattle.wire_frame.specs.declared.row.Row.{Row}
use Rattle.wire_frame.specs.Row.{is_in}
use Rattle.addr_tables.specs.Registers.{RAL, RAH, MPSAR, MTA, MCSTCTRL}
use Rattle.vlan_table.specs.Registers.{VLNCTRL, VFTA, VLVF, VLVFB}
use Rattle.pool_filter.specs.Registers.{PF_VT_CTL, PFVFRE, PFVFTE, VMVIR, PFVFSPOOF, PFDTXGSWC, VMOLR, PFVFLRE_LOW, PFVFLRE_HIGH, PFVFLREC_LOW, PFVFLREC_HIGH}

-- a register of one word
abbrev pub one_row : ℕ → Row
one_row first = record { first = first; count = 1; stride = 4; mask = 0xFFFFFFFF }

-- PFVFLRE, which shows the functions that were reset, and PFVFLREC, which clears its bits: two words each
abbrev pub reset_rows : List Row
reset_rows = one_row PFVFLRE_LOW ∷ one_row PFVFLRE_HIGH ∷ one_row PFVFLREC_LOW ∷ one_row PFVFLREC_HIGH ∷ []

-- every row of the map
abbrev pub all_rows : List Row
all_rows =
    RAL ∷ RAH ∷ MPSAR ∷ MTA ∷ one_row MCSTCTRL
    ∷ one_row VLNCTRL ∷ VFTA ∷ VLVF ∷ VLVFB
    ∷ one_row PF_VT_CTL ∷ PFVFRE ∷ PFVFTE ∷ VMVIR ∷ PFVFSPOOF ∷ one_row PFDTXGSWC ∷ VMOLR
    ∷ reset_rows

-- the rows that have a word at the offset
unfoldable pub rows_at : ℕ → List Row
rows_at offset = filter (λ row. is_in row offset) all_rows
