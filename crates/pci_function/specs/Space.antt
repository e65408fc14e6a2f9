-- The space as bytes: what a read gives, what a write leaves, whether it resets the function, and the flags that a caller asks for.
use Rattle.std.specs.Prelude.{ℕ, suc, ◌+◌, ◌*◌, ◌/◌, ◌%◌, ◌^◌, ◌-◌, Bool, false, ◌&&◌, ◌||◌, ◌==◌, List, [], ◌∷◌, ◌++◌, map, take, drop, replicate, slice_index, slice_set, bit_and, bit_or, if◌then◌else◌}
use Rattle.std.specs.List.{range_with_len}
use Rattle.std.specs.Int.{bit_not, w8}
use Rattle.pci_function.specs.Registers.{registers, COMMAND, MEMORY_SPACE, BUS_MASTER, MESSAGE_CONTROL, FUNCTION_MASK, MSIX_ENABLE, DEVICE_CONTROL, INITIATE_RESET}
use Rattle.pci_function.specs.Rows.{initial_in, writable_in}

-- the 256 bytes as they are at first, and after a reset
unfoldable pub initial : List ℕ
initial = map (initial_in registers) (range_with_len 0 256)

-- n bytes from an offset on; behind the 256 that are there all is 0
unfoldable pub bytes_at : List ℕ → ℕ → ℕ → List ℕ
bytes_at space offset n = take n (drop offset space ++ replicate n 0)

-- a byte with the bits of the mask from the new one, and the others from the old one
abbrev pub merged : ℕ → ℕ → ℕ → ℕ
merged mask old new = bit_or (bit_and old (bit_not w8 mask)) (bit_and new mask)

-- one byte is written at place k
unfoldable pub with_byte : List ℕ → ℕ → ℕ → List ℕ
with_byte space k x = slice_set space k (merged (writable_in registers k) (slice_index space k) x)

-- bytes are written from place k on
unfoldable pub with_bytes : ℕ → List ℕ → List ℕ → List ℕ
with_bytes k [] space = space
with_bytes k (x ∷ xs) space = with_bytes (suc k) xs (with_byte space k x)

-- byte x at place k sets Initiate Function Level Reset, which is a bit of the second byte of Device Control
abbrev pub resets_by : ℕ → ℕ → Bool
resets_by k x = (k == DEVICE_CONTROL + 1) && (x / 2 ^ (INITIATE_RESET - 8) % 2 == 1)

-- one of the bytes from place k on does so
unfoldable pub resets : ℕ → List ℕ → Bool
resets k [] = false
resets k (x ∷ xs) = resets_by k x || resets (suc k) xs

-- the space after a write: as at first where it resets the function
abbrev pub written : ℕ → List ℕ → List ℕ → List ℕ
written offset bytes space = if resets offset bytes then initial else with_bytes offset bytes space

-- a bit of the 16 bits at a place
unfoldable pub flag : ℕ → ℕ → List ℕ → Bool
flag at bit space = (slice_index space at + 256 * slice_index space (suc at)) / 2 ^ bit % 2 == 1

abbrev pub has_memory_space : List ℕ → Bool
has_memory_space space = flag COMMAND MEMORY_SPACE space

abbrev pub is_bus_master : List ℕ → Bool
is_bus_master space = flag COMMAND BUS_MASTER space

abbrev pub has_msix : List ℕ → Bool
has_msix space = flag MESSAGE_CONTROL MSIX_ENABLE space

abbrev pub is_masked : List ℕ → Bool
is_masked space = flag MESSAGE_CONTROL FUNCTION_MASK space

-- how many bytes a base address register stands for: BAR 0 and BAR 3 are of 16 KiB (82599 Datasheet, virtual functions configuration space)
abbrev pub size_of_bar : ℕ → ℕ
size_of_bar bar = if (bar == 0) || (bar == 3) then 0x4000 else 0
