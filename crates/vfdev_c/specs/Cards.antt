-- A card that a handle leads to.
use Rattle.std.specs.Prelude.{◌≡◌, ℕ, ◌&&◌, ◌||◌, Bool, nat_eq, nat_le, nat_lt, List, [], length, replicate, is_some, Option, Some, None, if◌then◌else◌}
use Rattle.std.specs.List.{list_all}
use Rattle.std.specs.Option.{unwrap_or}
use Rattle.offload.specs.declared.offloads.Offloads.{Offloads}
use Rattle.offload.specs.Offloads.{no_offloads, offloads_of}
use Rattle.live_run.specs.Frames.{FramesState}
use Rattle.device.specs.World.{is_frame_limit}
use Rattle.hosted.specs.Hosted.{host_of_ids}
use Rattle.card.specs.Card.{CardState, IsMade}
use Rattle.spare_memory.specs.Spares.{SPACE}

-- the card, how many bytes the spare memory of each function has, and the frames that left at the last call that took descriptors
pub record HeldCard : Type 0 where
  pub card : CardState
  pub spares : List ℕ
  pub frames : FramesState

-- ---- as it is made

-- ids of VLANs, at most 64
abbrev pub are_ids : List ℕ → Bool
are_ids ns = nat_le (length ns) 64 && list_all (λ n. nat_lt n 4096) ns

-- the number of a function, or of none
abbrev pub is_function : ℕ → Bool
is_function n = nat_lt n 64 || nat_eq n 255

abbrev pub function_at : ℕ → Option ℕ
function_at n = if nat_lt n 64 then Some n else None

-- the offloads that the flags of a word name
abbrev pub offloads_in : ℕ → Offloads
offloads_in flags = unwrap_or (offloads_of flags) no_offloads

abbrev pub can_make_card : ℕ → List ℕ → ℕ → ℕ → ℕ → Bool
can_make_card functions ids default limit flags =
    nat_le 1 functions && (nat_le functions 64 && (are_ids ids && (is_function default && (is_frame_limit limit && is_some (offloads_of flags)))))

-- a card of so many vacant functions, with these offloads, a memory for each guest that may come, and no frames
pub record IsMadeCard (functions : ℕ) (ids : List ℕ) (default limit flags : ℕ) (c : HeldCard) : Type 0 where
  pub card : IsMade (host_of_ids ids (function_at default) limit) (offloads_in flags) (replicate functions 0) c.card
  pub untouched : c.card.hosted.device.accesses ≡ replicate functions []
  pub spares : c.spares ≡ replicate 64 SPACE
  pub frames : c.frames ≡ record { frames = []; used = 0; most = 256; size = 262144 }
