-- Rows that share no offset.
use Rattle.std.specs.Prelude.{ℕ, ◌+◌, ◌-◌, ◌*◌, ◌%◌, Bool, true, ◌&&◌, ◌||◌, not, ◌==◌, nat_lt, List, [], ◌∷◌}
use Rattle.std.specs.List.{list_all}
use Rattle.wire_frame.specs.declared.row.Row.{Row}

-- the offset of the row's last word
abbrev pub last : Row → ℕ
last row = row.first + row.stride * (row.count - 1)

-- one row ends before the other begins, or they interleave at the same stride
abbrev pub apart : Row → Row → Bool
apart a b = nat_lt (last a) b.first || (nat_lt (last b) a.first || (a.stride == b.stride && not (a.first % a.stride == b.first % a.stride)))

abbrev pub all_apart : List Row → Bool
all_apart [] = true
all_apart (row ∷ rows) = list_all (apart row) rows && all_apart rows
