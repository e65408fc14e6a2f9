-- How the frames of a room are stored: their bytes behind one another, and where each frame ends.
use Rattle.std.specs.Prelude.{◌≡◌, ℕ, ◌-◌, ◌≤◌, ◌==◌, List, [], ◌∷◌, slice_index, slice_range, if◌then◌else◌}

-- the first begins at a place, and each other where the one before it ends
unfoldable pub frames_from : ℕ → List ℕ → List ℕ → List (List ℕ)
frames_from start [] bytes = []
frames_from start (end ∷ ends) bytes = slice_range bytes start end ∷ frames_from end ends bytes

-- where a frame begins, by its number
abbrev pub begin_of : List ℕ → ℕ → ℕ
begin_of ends n = if n == 0 then 0 else slice_index ends (n - 1)

-- no frame ends before it begins, and the last ends with the bytes
unfoldable pub IsCut : ℕ → List ℕ → ℕ → Type 0
IsCut start [] len = start ≡ len
IsCut start (end ∷ ends) len = (start ≤ end) × IsCut end ends len
