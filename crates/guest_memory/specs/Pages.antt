-- A memory as pages of 2048 bytes, stored one behind another in the order of their first write.
use Rattle.std.specs.Prelude.{◌≡◌, ℕ, ◌+◌, ◌*◌, ◌/◌, ◌%◌, ◌<◌, ◌≤◌, ◌≢◌, List, length, get_or, map, cond, ◌==◌, sum_by}
use Rattle.std.specs.List.{range_with_len}

-- the place of a page: what the table has for it, and past the table the mark of a page that isn't stored
abbrev pub place_in : List ℕ → ℕ → ℕ
place_in table page = get_or table page 65535

-- byte k of a memory, where the table has the place among the cells of each page; a place past the cells has zeros
unfoldable pub stored_byte : List ℕ → List ℕ → ℕ → ℕ
stored_byte table cells k = get_or cells (place_in table (k / 2048) * 2048 + k % 2048) 0

-- the bytes of a memory of the size
unfoldable pub paged : ℕ → List ℕ → List ℕ → List ℕ
paged size table cells = map (stored_byte table cells) (range_with_len 0 size)

-- 1 for the mark of a page that isn't stored
unfoldable pub unstored : ℕ → ℕ
unstored place = cond (place == 65535) 1 0

-- a page that is stored has one of the places that are taken, and no other page has it
abbrev pub Apart : List ℕ → ℕ → Type 0
Apart table count = (i : ℕ) → place_in table i ≢ 65535 → (place_in table i < count) × ((j : ℕ) → place_in table i ≡ place_in table j → i ≡ j)

-- what holds of a memory of the size: its table, the number of stored pages, the number of cells, and the room for cells
pub record IsPaged (size : ℕ) (table : List ℕ) (count used room : ℕ) : Type 0 where
  pub few : size / 2048 + 1 ≤ 8193
  pub reach : length table ≡ size / 2048 + 1
  pub counted : count + sum_by unstored table ≡ length table
  pub filled : used ≡ 2048 * count
  pub fits : 2048 * (size / 2048 + 1) ≤ room
  pub apart : Apart table count
