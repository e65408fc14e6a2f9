-- What no guest can change, whatever it writes.
use Rattle.std.specs.Prelude.{◌≡◌, ◌<◌, ℕ, List, [], ◌∷◌, length, slice_index, bit_and}
use Rattle.std.specs.Int.{bit_not, w8}
use Rattle.pci_function.specs.Registers.{registers}
use Rattle.pci_function.specs.Rows.{writable_in}
use Rattle.pci_function.specs.Space.{initial, written}

-- of byte x at place k, the bits that no write sets
abbrev pub fixed : ℕ → ℕ → ℕ
fixed k x = bit_and x (bit_not w8 (writable_in registers k))

-- there are 256 bytes, and such bits are as they were at first
pub record IsFixed (space : List ℕ) : Type 0 where
  pub whole : length space ≡ 256
  pub same : (k : ℕ) → k < 256 → fixed k (slice_index space k) ≡ fixed k (slice_index initial k)

-- the space after writes, each with its offset and its bytes
abbrev pub after : List (ℕ × List ℕ) → List ℕ → List ℕ
after [] space = space
after (w ∷ ws) space = after ws (written w.0 w.1 space)
