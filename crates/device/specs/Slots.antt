-- Frames that stand in slots, and the order in which they are read.
use Rattle.std.specs.Prelude.{◌≡◌, ◌≢◌, ℕ, ◌+◌, ◌*◌, ◌<◌, ◌≤◌, true, List, [], length, map, get_or, slice_range}
use Rattle.std.specs.List.{range_with_len}
use Rattle.wire_frame.specs.Frame.{is_frame}

-- frames that are kept, in an order, and how long each may be
pub record KeptFrames : Type 0 where
  pub frames : List (List ℕ)
  pub limit : ℕ

-- slots of so many bytes stand one behind another, and each has a frame in its first bytes: the frame in slot k
abbrev pub laid_at : ℕ → List ℕ → List ℕ → ℕ → List ℕ
laid_at limit lengths bytes k = slice_range bytes (k * limit) (k * limit + get_or lengths k 0)

-- the frames, slot by slot
unfoldable pub laid_in : ℕ → List ℕ → List ℕ → List (List ℕ)
laid_in limit lengths bytes = map (laid_at limit lengths bytes) (range_with_len 0 (length lengths))

-- the bytes are those slots, no more than 1024, and each has a frame that fits there
pub record AreSlots (limit : ℕ) (lengths bytes : List ℕ) : Type 0 where
  pub few : length lengths ≤ 1024
  pub whole : length bytes ≡ length lengths * limit
  pub short : (k : ℕ) → k < length lengths → get_or lengths k 0 ≤ limit
  pub frames : (k : ℕ) → k < length lengths → is_frame limit (laid_at limit lengths bytes k) ≡ true

-- the frame in a slot
unfoldable pub frame_in : List (List ℕ) → ℕ → List ℕ
frame_in slots slot = get_or slots slot []

-- the frames in the slots of an order
unfoldable pub frames_by : List ℕ → List (List ℕ) → List (List ℕ)
frames_by order slots = map (frame_in slots) order

-- an order has each of n slots, and none of them twice
pub record IsOrder (n : ℕ) (order : List ℕ) : Type 0 where
  pub all : length order ≡ n
  pub there : (k : ℕ) → k < length order → get_or order k 0 < n
  pub once : (i j : ℕ) → i < j → j < length order → get_or order i 0 ≢ get_or order j 0
