-- Where each page of a memory is stored: entries in leaves of 128, which stand one behind another in the order of their first entry.
use Rattle.std.specs.Prelude.{◌≡◌, ℕ, ◌+◌, ◌*◌, ◌/◌, ◌%◌, ◌<◌, ◌≤◌, ◌≢◌, List, length, get_or, map, cond, ◌==◌, sum_by}
use Rattle.std.specs.List.{range_with_len}

-- the place of a leaf among the leaves, or the mark of one that isn't there
abbrev pub leaf_in : List ℕ → ℕ → ℕ
leaf_in top leaf = get_or top leaf 255

-- the entry of a page: that of its leaf, or the mark of a page that isn't stored where its leaf isn't there
unfoldable pub entry_in : List ℕ → List ℕ → ℕ → ℕ
entry_in top leaves page = get_or leaves (leaf_in top (page / 128) * 128 + page % 128) 65535

-- the entries of so many pages
unfoldable pub entries : ℕ → List ℕ → List ℕ → List ℕ
entries pages top leaves = map (entry_in top leaves) (range_with_len 0 pages)

-- 1 for the mark of a leaf that isn't there
unfoldable pub absent : ℕ → ℕ
absent place = cond (place == 255) 1 0

-- a leaf that is there has one of the places that are taken, and no other leaf has it
abbrev pub LeavesApart : List ℕ → ℕ → Type 0
LeavesApart top count = (i : ℕ) → leaf_in top i ≢ 255 → (leaf_in top i < count) × ((j : ℕ) → leaf_in top i ≡ leaf_in top j → i ≡ j)

-- what holds of a table of so many pages: its top, the number of its leaves, the number of their entries, and the room for these
pub record IsLeafed (pages : ℕ) (top : List ℕ) (count used room : ℕ) : Type 0 where
  pub few : length top ≤ 65
  pub covers : pages ≤ 128 * length top
  pub counted : count + sum_by absent top ≡ length top
  pub filled : used ≡ 128 * count
  pub fits : 128 * length top ≤ room
  pub apart : LeavesApart top count
