-- A host: its functions, one a pool.
use Rattle.std.specs.Prelude.{ℕ, zero, suc, Bool, not, ◌&&◌, ◌==◌, List, Option, Some, None, if◌then◌else◌, slice_index_or, slice_set}
use Rattle.std.specs.List.{list_any, range_with_len}
use Rattle.mailbox.specs.declared.slot.Slot.{Slot}
use Rattle.mailbox.specs.declared.slot.Slot.TheVariants.{Absent}
use Rattle.mailbox.specs.Slot.{holds, owns}

-- 64 functions, one a pool; the ids that policies name; the pool that takes what no pool accepts, if there is one; how long a
-- frame may be, without the FCS
pub record HostState : Type 0 where
  pub slots : List Slot
  pub ids : List ℕ
  pub default_pool : Option ℕ
  pub limit : ℕ

abbrev pub slot_at : HostState → ℕ → Slot
slot_at h p = slice_index_or h.slots p Absent

abbrev pub with_slot : HostState → ℕ → Slot → HostState
with_slot h p s = record h { slots = slice_set h.slots p s }

-- function q is another than p, and holds the address
abbrev pub other_holds : HostState → ℕ → ℕ → ℕ → Bool
other_holds h p a q = not (q == p) && holds (slot_at h q) a

-- a function other than p holds the address
unfoldable pub is_taken : HostState → ℕ → ℕ → Bool
is_taken h p a = list_any (other_holds h p a) (range_with_len 0 64)

-- function q is another than p, and the address is its permanent one
abbrev pub other_owns : HostState → ℕ → ℕ → ℕ → Bool
other_owns h p a q = not (q == p) && owns (slot_at h q) a

-- the address is the permanent one of a function other than p
unfoldable pub is_owned : HostState → ℕ → ℕ → Bool
is_owned h p a = list_any (other_owns h p a) (range_with_len 0 64)

-- the first of count numbers from first on that passes the test
abbrev pub first_where : (ℕ → Bool) → ℕ → ℕ → Option ℕ
first_where t first zero = None
first_where t first (suc count) = if t first then Some first else first_where t (suc first) count

-- the first function other than p that holds the address
unfoldable pub holder : HostState → ℕ → ℕ → Option ℕ
holder h p a = first_where (other_holds h p a) 0 64
