-- A byte of the space, by the row that has it.
use Rattle.std.specs.Prelude.{ℕ, ◌+◌, ◌*◌, ◌-◌, ◌/◌, ◌%◌, ◌^◌, ◌&&◌, nat_le, nat_lt, Bool, List, [], ◌∷◌, if◌then◌else◌}
use Rattle.pci_function.specs.Registers.{Line}

-- the row has place k
abbrev pub has : Line → ℕ → Bool
has r k = nat_le r.at k && nat_lt k (r.at + r.width)

-- byte j of a number, the lowest first
abbrev pub byte_of : ℕ → ℕ → ℕ
byte_of x j = if nat_lt j 4 then x / 2 ^ (8 * j) % 256 else 0

-- what stands at place k at first: 0 where no row has it
unfoldable pub initial_in : List Line → ℕ → ℕ
initial_in [] k = 0
initial_in (r ∷ rs) k = if has r k then byte_of r.initial (k - r.at) else initial_in rs k

-- which bits at place k a write sets: none where no row has it
unfoldable pub writable_in : List Line → ℕ → ℕ
writable_in [] k = 0
writable_in (r ∷ rs) k = if has r k then byte_of r.writable (k - r.at) else writable_in rs k
