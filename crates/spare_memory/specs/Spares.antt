-- Spare memories of the guests of a card.
use Rattle.std.specs.Prelude.{◌≡◌, ◌≢◌, ℕ, List, [], length, replicate}
use Rattle.mapped_memory.specs.Regions.{Regions}
use Rattle.device.specs.Guests.{over_memory}
use Rattle.device.specs.Live.{trace_of}
use Rattle.card.specs.Card.{CardState}

-- how many addresses a guest's memory has: 2^46
unfoldable pub SPACE : ℕ
SPACE = 70368744177664

-- a memory of so many bytes, of which none is mapped, and to which no access was made
abbrev pub unmapped : ℕ → Regions
unmapped size = record { parts = []; seen = replicate size 0; accesses = [] }

abbrev pub size_in : Regions → ℕ
size_in m = length m.seen

-- as it is made, whoever had it before
abbrev pub IsSpare : Regions → Type 0
IsSpare m = m ≡ unmapped (size_in m)

-- one that stands in a guest's place for a while
abbrev pub IsStandIn : Regions → Type 0
IsStandIn m = size_in m ≡ SPACE

-- ---- cards

-- function p has another memory, and nothing else is another but what was read and written of it before
pub record IsOver (p : ℕ) (old : CardState) (memory : List ℕ) (new : CardState) : Type 0 where
  pub world : new.hosted.device.world ≡ over_memory old.hosted.device.world p memory
  pub host : new.hosted.host ≡ old.hosted.host
  pub mailboxes : new.hosted.mailboxes ≡ old.hosted.mailboxes
  pub ends : new.ends ≡ old.ends
  pub raised : new.raised ≡ old.raised
  pub elsewhere : (q : ℕ) → q ≢ p → trace_of new.hosted.device.accesses q ≡ trace_of old.hosted.device.accesses q

-- regions of function p's memory came or went, or they didn't: all that the card knows stays as it is, the bytes that it knows of the
-- memory too, and no other function's memory was accessed
pub record IsRemapped (p : ℕ) (old new : CardState) : Type 0 where
  pub world : new.hosted.device.world ≡ old.hosted.device.world
  pub host : new.hosted.host ≡ old.hosted.host
  pub mailboxes : new.hosted.mailboxes ≡ old.hosted.mailboxes
  pub ends : new.ends ≡ old.ends
  pub raised : new.raised ≡ old.raised
  pub elsewhere : (q : ℕ) → q ≢ p → trace_of new.hosted.device.accesses q ≡ trace_of old.hosted.device.accesses q
