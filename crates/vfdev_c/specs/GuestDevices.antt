-- A device of guests that come and go, and the blocks that are mapped for them.
use Rattle.std.specs.Prelude.{◌≡◌, ℕ, ◌&&◌, Bool, false, not, nat_eq, nat_le, nat_lt, List, [], ◌∷◌, length, replicate, is_some}
use Rattle.std.specs.List.{filter, list_any}
use Rattle.offload.specs.Offloads.{offloads_of}
use Rattle.live_run.specs.Frames.{FramesState}
use Rattle.device.specs.Live.{TracedWorld}
use Rattle.device.specs.World.{fresh_with, is_frame_limit}
use Rattle.spare_memory.specs.Spares.{SPACE}
use Rattle.vfdev_c.specs.Cards.{offloads_in}
use Rattle.vfdev_c.specs.Spans.{overlap}
use Rattle.vfdev_c.specs.declared.blocks.MappedBlock.{MappedBlock}
use Rattle.vfdev_c.specs.declared.lending.BlockSpan.{BlockSpan}

-- ---- blocks

-- a block of another function than p, with a byte of these
abbrev pub is_anothers : ℕ → BlockSpan → MappedBlock → Bool
is_anothers p s b = not (nat_eq b.function p) && overlap s b.span

-- there are such bytes, and one of them is in a block of another function than p
abbrev pub meets_another : ℕ → BlockSpan → List MappedBlock → Bool
meets_another p s blocks = nat_lt 0 s.len && list_any (is_anothers p s) blocks

-- no byte is in blocks of two functions
unfoldable pub AreApart : List MappedBlock → Type 0
AreApart [] = Unit {0}
AreApart (b ∷ blocks) = (meets_another b.function b.span blocks ≡ false) × AreApart blocks

-- as many blocks are mapped as there may be: 64 for each of 64 functions
abbrev pub are_all_mapped : List MappedBlock → Bool
are_all_mapped blocks = nat_le 4096 (length blocks)

-- mapped for function p from the address on
abbrev pub is_mapped_at : ℕ → ℕ → MappedBlock → Bool
is_mapped_at p at b = nat_eq b.function p && nat_eq b.at at

abbrev pub without_mapped_at : ℕ → ℕ → List MappedBlock → List MappedBlock
without_mapped_at p at blocks = filter (λ b. not (is_mapped_at p at b)) blocks

abbrev pub without_function : ℕ → List MappedBlock → List MappedBlock
without_function p blocks = filter (λ b. not (nat_eq b.function p)) blocks

-- ---- the device

-- the device, how many bytes the spare memory of each function has, the frames that left at the last burst, and the blocks that are
-- mapped, the newest first
pub record HeldGuests : Type 0 where
  pub device : TracedWorld
  pub spares : List ℕ
  pub frames : FramesState
  pub blocks : List MappedBlock

-- another device under the same
abbrev pub with_device : HeldGuests → TracedWorld → HeldGuests
with_device g device = record { device = device; spares = g.spares; frames = g.frames; blocks = g.blocks }

abbrev pub can_make_guests : ℕ → ℕ → ℕ → Bool
can_make_guests functions limit flags = nat_le 1 functions && (nat_le functions 64 && (is_frame_limit limit && is_some (offloads_of flags)))

-- a device of so many vacant functions, with these offloads, a memory for each guest that may come, no frames and no blocks
pub record IsMadeGuests (functions limit flags : ℕ) (g : HeldGuests) : Type 0 where
  pub world : g.device.world ≡ fresh_with (record { limit = limit; offloads = offloads_in flags }) (replicate functions 0)
  pub untouched : g.device.accesses ≡ replicate functions []
  pub spares : g.spares ≡ replicate 64 SPACE
  pub frames : g.frames ≡ record { frames = []; used = 0; most = 256; size = 262144 }
  pub blocks : g.blocks ≡ []
