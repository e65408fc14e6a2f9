-- What is asked lies inside the function, and each file that came has its place.
use Rattle.std.specs.Prelude.{◌≡◌, ◌<◌, ◌≤◌, ◌+◌, ◌%◌, ◌^◌, ℕ, Option, Some, None}
use Rattle.vfio_session.specs.declared.decision.Ask.{Ask}
use Rattle.vfio_session.specs.declared.decision.Ask.TheVariants.{Read, Write, Map, Unmap, Reset, Arm, Disarm}
use Rattle.vfio_session.specs.declared.decision.Fate.{Fate}
use Rattle.vfio_session.specs.declared.decision.Fate.TheVariants.{Closed}
use Rattle.vfio_session.specs.declared.decision.VectorRange.{VectorRange}
use Rattle.vfio_session.specs.Decisions.{fate_for}
use Rattle.vfio_session.specs.Sessions.{Received}

-- a register of BAR 0
abbrev pub IsRegister : ℕ → Type 0
IsRegister offset = (offset < 0x4000) × (offset % 4 ≡ 0)

-- at least one number, none past 2^64
abbrev pub IsSpan : ℕ → ℕ → Type 0
IsSpan first size = (0 < size) × (first + size ≤ 2 ^ 64)

-- at least one vector, none but 0 to 2
abbrev pub AreVectors : VectorRange → Type 0
AreVectors v = (0 < v.count) × (v.first + v.count ≤ 3)

-- with so many files beside the message: one for a mapping, and one for each vector that is armed
abbrev pub IsInside : Ask → ℕ → Type 0
IsInside (Read offset) files = IsRegister offset
IsInside (Write offset value) files = IsRegister offset
IsInside (Map m) files = IsSpan m.range.address m.range.size × IsSpan m.offset m.range.size × (files ≡ 1)
IsInside (Unmap r) files = IsSpan r.address r.size
IsInside Reset files = Unit {0}
IsInside (Arm v) files = AreVectors v × (files ≡ v.count)
IsInside (Disarm v) files = AreVectors v

abbrev pub AreInside : Option Ask → ℕ → Type 0
AreInside None files = Unit {0}
AreInside (Some ask) files = IsInside ask files

abbrev pub fate_in : Option Ask → Fate
fate_in None = Closed
fate_in (Some ask) = fate_for ask

-- so it is of what a message does, and the files that nothing asks for are closed
pub record IsFit (r : Received) (count : ℕ) : Type 0 where
  pub inside : AreInside r.asks count
  pub files : r.files ≡ fate_in r.asks
