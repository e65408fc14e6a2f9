-- Why a region is not mapped, or not unmapped.
use Rattle.std.specs.Prelude.{◌≡◌, ℕ, ◌+◌, ◌==◌, nat_lt, Option, Some, None, if◌then◌else◌}
use Rattle.wire_frame.specs.declared.fault.Fault.{Fault}
use Rattle.wire_frame.specs.declared.fault.Fault.TheVariants.{NoSuchVf as NoSuchVfFault}
use Rattle.device.specs.Guests.{replace_refusal}
use Rattle.device.specs.World.{World}
use Rattle.mapped_memory.specs.declared.map_error.MapError.{MapError}
use Rattle.mapped_memory.specs.declared.map_error.MapError.TheVariants.{NoBytes, PastEnd, Overlaps, TooMany}
use Rattle.spare_memory.specs.Spares.{SPACE}
use Rattle.spare_memory.specs.declared.regions.NotMapped.{NotMapped}
use Rattle.spare_memory.specs.declared.regions.NotMapped.TheVariants.{NoSuchVf, Vacant, Refused, NotThere}

-- for the reason for which a memory refuses it
abbrev pub IsRefused : Option MapError → NotMapped → Type 0
IsRefused (Some why) (Refused other) = other ≡ why
IsRefused reason why = ⊥

-- a function whose memory can't be taken out is none, or vacant
abbrev pub without_memory : Option Fault → Option NotMapped
without_memory None = None
without_memory (Some NoSuchVfFault) = Some NoSuchVf
without_memory (Some other) = Some Vacant

abbrev pub no_guest : World → ℕ → Option NotMapped
no_guest w p = without_memory (replace_refusal w p SPACE)

-- why so many bytes have no place at an address, whatever is mapped: the first that fits
abbrev pub without_place : Option NotMapped → ℕ → ℕ → Option NotMapped
without_place (Some reason) at count = Some reason
without_place None at count = if count == 0 then Some (Refused NoBytes) else (if nat_lt SPACE (at + count) then Some (Refused PastEnd) else None)

-- else it is by what is mapped already
abbrev pub IsByRegions : NotMapped → Type 0
IsByRegions (Refused Overlaps) = Unit {0}
IsByRegions (Refused TooMany) = Unit {0}
IsByRegions reason = ⊥

abbrev pub IsWhy : Option NotMapped → NotMapped → Type 0
IsWhy (Some reason) why = why ≡ reason
IsWhy None why = IsByRegions why

-- a region that isn't there can't be unmapped
abbrev pub or_not_there : Option NotMapped → NotMapped
or_not_there (Some reason) = reason
or_not_there None = NotThere
