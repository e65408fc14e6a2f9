-- Frames that stand in a room, one behind another.
use Rattle.std.specs.Prelude.{ℕ, ◌+◌, ◌&&◌, Bool, nat_le, nat_lt, List, [], ◌∷◌, ◌++◌, length, Option, Some, None}

-- the frames, the oldest first; how many bytes they have; how many frames there may be, and how many bytes
pub record FramesState : Type 0 where
  pub frames : List (List ℕ)
  pub used : ℕ
  pub most : ℕ
  pub size : ℕ

-- there is room for one more frame, however long it is
abbrev pub has_room : FramesState → Bool
has_room r = nat_lt (length r.frames) r.most && nat_le (r.used + 9018) r.size

-- one frame more
abbrev pub with_frame : FramesState → List ℕ → FramesState
with_frame r frame = record r { frames = r.frames ++ frame ∷ []; used = r.used + length frame }

-- a frame that left, if one did
abbrev pub with_left : FramesState → Option (List ℕ) → FramesState
with_left r None = r
with_left r (Some frame) = with_frame r frame

-- more frames, in their order
abbrev pub with_frames : FramesState → List (List ℕ) → FramesState
with_frames r [] = r
with_frames r (f ∷ fs) = with_frames (with_frame r f) fs
