-- What a host does to a device beside its events: guests come and go, and the cause "other" of a function is raised.
use Rattle.std.specs.Prelude.{ℕ, Bool, not, ◌&&◌, ◌||◌, ◌==◌, nat_le, nat_lt, List, length, Option, Some, None, if◌then◌else◌}
use Rattle.std.specs.List.{list_all}
use Rattle.wire_frame.specs.declared.fault.Fault.{Fault}
use Rattle.wire_frame.specs.declared.fault.Fault.TheVariants.{NoSuchVf, AlreadyOpen, BadMake}
use Rattle.vf_unit.specs.Function.{initial_with}
use Rattle.vf_unit.specs.Guests.{moved_to}
use Rattle.vf_unit.specs.Unit.{Closed, Open, other_raised, size_of}
use Rattle.device.specs.World.{World, function_of, with_function}

-- the most bytes of a guest's memory: 64 TiB, which is 2^46
abbrev pub MOST_MEMORY : ℕ
MOST_MEMORY = 70368744177664

-- a guest's memory may have so many bytes
abbrev pub is_guest_size : ℕ → Bool
is_guest_size n = nat_le 1 n && nat_le n MOST_MEMORY

-- a function may be over so many: a guest's, or none while it is vacant
abbrev pub is_in_space : ℕ → Bool
is_in_space n = nat_le n MOST_MEMORY

-- a device for guests can be made of memories of these sizes
unfoldable pub is_for_guests : List ℕ → Bool
is_for_guests sizes = nat_le 1 (length sizes) && (nat_le (length sizes) 64 && list_all is_in_space sizes)

-- there is no such function, or it is over no bytes
abbrev pub is_vacant : World → ℕ → Bool
is_vacant w p = nat_le (length w.functions) p || size_of (function_of p w) == 0

-- why a guest with so many bytes can't come to a function: the first line that fits
abbrev pub attach_refusal : World → ℕ → ℕ → Option Fault
attach_refusal w p n = if nat_le (length w.functions) p then Some NoSuchVf
    else (if not (size_of (function_of p w) == 0) then Some AlreadyOpen
    else (if not (is_guest_size n) then Some BadMake
    else None))

-- a guest came, with its memory: its function is open, with every register initial and the offloads that the device was made with
abbrev pub attached : World → ℕ → List ℕ → World
attached w p memory = with_function w p (Open (initial_with w.profile.offloads memory))

-- a guest went: its function is closed, over no bytes
abbrev pub detached : World → ℕ → World
detached w p = if is_vacant w p then w else with_function w p (Closed 0)

-- why a function can't have another memory of so many bytes: the first line that fits
abbrev pub replace_refusal : World → ℕ → ℕ → Option Fault
replace_refusal w p n = if nat_le (length w.functions) p then Some NoSuchVf
    else (if not (size_of (function_of p w) == n) then Some BadMake
    else None)

-- a function has another memory, and is else as it was
abbrev pub over_memory : World → ℕ → List ℕ → World
over_memory w p memory = with_function w p (moved_to (function_of p w) memory)

-- the cause "other" of a function is raised: where there is such a function, that function alone is changed
abbrev pub prompted : World → ℕ → World
prompted w p = if nat_lt p (length w.functions) then with_function w p (other_raised (function_of p w)).state else w

-- the vectors whose messages this issues
abbrev pub prompt_messages : World → ℕ → ℕ
prompt_messages w p = if nat_lt p (length w.functions) then (other_raised (function_of p w)).messages else 0
