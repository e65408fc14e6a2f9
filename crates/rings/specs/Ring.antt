-- A descriptor ring: which descriptors the device owns, when it may be on, and what its registers do.
use Rattle.std.specs.Prelude.{ℕ, zero, suc, ◌+◌, ◌-◌, ◌*◌, ◌/◌, ◌%◌, ◌^◌, ◌<◌, ◌≤◌, List, [], ◌∷◌, Bool, false, nat_lt, nat_le, not, ◌&&◌, ◌||◌, ◌==◌, if◌then◌else◌, IsTrue, bit_and, Option, Some, None}
use Rattle.rings.specs.Words.{BASE_LOW_KEPT, LENGTH_KEPT}
use Rattle.rings.specs.declared.ring.RingRegister.{RingRegister}
use Rattle.rings.specs.declared.ring.RingRegister.TheVariants.{BaseLow, BaseHigh, Length, Head, Tail}

-- a ring: where it begins, how many descriptors it has, its head and tail, and whether it is on
pub record RingState : Type 0 where
  pub base : ℕ
  pub count : ℕ
  pub head : ℕ
  pub tail : ℕ
  pub enabled : Bool

-- a ring as it is made, and after a reset
abbrev pub no_ring : RingState
no_ring = record { base = 0; count = 0; head = 0; tail = 0; enabled = false }

-- ---- the descriptors that the device owns

-- k places of a ring of n from place h on, one after the other
unfoldable pub places_from : ℕ → ℕ → ℕ → List ℕ
places_from n h zero = []
places_from n h (suc k) = h % n ∷ places_from n (h + 1) k

-- how many places there are from the head up to, not including, the tail
abbrev pub owned_count : RingState → ℕ
owned_count r = (r.tail + r.count - r.head) % r.count

-- the places from the head up to, not including, the tail; none while off
unfoldable pub owned : RingState → List ℕ
owned r = if r.enabled then places_from r.count r.head (owned_count r) else []

-- the address of the descriptor at the head, where the device owns it
abbrev pub head_slot : RingState → Option ℕ
head_slot r = if r.enabled && not (r.head == r.tail) then Some (r.base + 16 * r.head) else None

-- the head after k descriptors
abbrev pub head_after : ℕ → RingState → ℕ
head_after k r = if r.enabled then (r.head + k) % r.count else r.head

-- ---- on and off

-- a ring that may be on in a memory of n bytes
abbrev pub can_enable : ℕ → RingState → Bool
can_enable n r =
    nat_le 8 r.count && nat_le r.count 4096 && nat_lt r.head r.count && nat_lt r.tail r.count
    && nat_le (r.base + 16 * r.count) n

-- the number of descriptors, the head and the tail fit, and an address can name the end
pub record IsValidRing (r : RingState) : Type 0 where
  pub least : 8 ≤ r.count
  pub most : r.count ≤ 4096
  pub head_below : r.head < r.count
  pub tail_below : r.tail < r.count
  pub fits : r.base + 16 * r.count < 2 ^ 64

-- a ring that is on is valid
abbrev pub IsRing : RingState → Type 0
IsRing r = IsTrue r.enabled → IsValidRing r

-- a ring that is on lies inside a memory of n bytes
abbrev pub LiesInside : ℕ → RingState → Type 0
LiesInside n r = IsTrue r.enabled → r.base + 16 * r.count ≤ n

-- the ring turned on, where it is on already or can be
abbrev pub enabled_in : ℕ → RingState → RingState
enabled_in n r = record r { enabled = r.enabled || can_enable n r }

-- the ring turned on or off; one that is off goes on only where it may, and can be
abbrev pub turned : Bool → Bool → ℕ → RingState → RingState
turned on may n r = record r { enabled = on && (r.enabled || (may && can_enable n r)) }

-- ---- registers

-- what a register reads
abbrev pub ring_word : RingState → RingRegister → ℕ
ring_word r BaseLow = r.base % 2 ^ 32
ring_word r BaseHigh = r.base / 2 ^ 32
ring_word r Length = 16 * r.count
ring_word r Head = r.head
ring_word r Tail = r.tail

-- the tail, written: the low 16 bits, which have to name a descriptor while the ring is on
abbrev pub tail_written : RingState → ℕ → RingState
tail_written r x = if r.enabled && not (nat_lt (x % 2 ^ 16) r.count) then r else record r { tail = x % 2 ^ 16 }

-- a register, written: while the ring is on, all but the tail stay
unfoldable pub ring_written : RingState → RingRegister → ℕ → RingState
ring_written r BaseLow x = if r.enabled then r else record r { base = r.base / 2 ^ 32 * 2 ^ 32 + bit_and x BASE_LOW_KEPT }
ring_written r BaseHigh x = if r.enabled then r else record r { base = x * 2 ^ 32 + r.base % 2 ^ 32 }
ring_written r Length x = if r.enabled then r else record r { count = bit_and x LENGTH_KEPT / 16 }
ring_written r Head x = if r.enabled then r else record r { head = x % 2 ^ 16 }
ring_written r Tail x = tail_written r x
