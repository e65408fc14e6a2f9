-- A recorded device as it is made, with the shares of its callers.
use Rattle.std.specs.Prelude.{◌≡◌, ℕ, ◌<◌, Bool, [], length, replicate, Option, Some, slice_get, List, ◌∷◌}
use Rattle.device.specs.World.{World, fresh, sizes_of}
use Rattle.atomic_table.specs.Seated.{TableId}
use Rattle.irq_line.specs.Line.{DeviceEnd}
use Rattle.history.specs.declared.caller.Caller.TheVariants.{Port, Driver, Pump, Service}
use Rattle.recorder.specs.declared.shares.Shares.{Shares}
use Rattle.recorder.specs.Held.{Held, CallerLog, unused, left_of}

-- a device as it is made, for frames up to some limit, over memories of some sizes
abbrev pub IsFresh : World → Type 0
IsFresh w = (limit : ℕ) × (sizes : List ℕ) × (w ≡ fresh limit sizes)

-- two devices whose frames may be as long, and whose memories have the same sizes
abbrev pub SameMake : World → World → Type 0
SameMake w v = (w.profile.limit ≡ v.profile.limit) × (sizes_of w ≡ sizes_of v)

-- no call was made yet
abbrev pub begun : World → ℕ → Bool → DeviceEnd → Held
begun w cap twin line = record {
  base = w;
  kept = [];
  live = w;
  cap = cap;
  has_twin = twin;
  tallies = replicate 67 0;
  line = line;
}

-- the share of each caller, unused, for a device of this line; those of the ports by their pools
pub record AreUnused {L : Type 0} (line : TableId) (shares : Shares L) : Type 0 where
  pub pf : shares.pf ≡ unused line Driver
  pub pump : shares.pump ≡ unused line Pump
  pub service : shares.service ≡ unused line Service
  pub many : length shares.ports.items ≡ 64
  pub ports : (p : ℕ) → p < 64 → slice_get shares.ports.items p ≡ Some (Some (unused line (Port p)))

-- the shares of ports that are left are for a device of the line
abbrev pub AreSharesOf : TableId → List (Option CallerLog) → Type 0
AreSharesOf line ports = (p : ℕ) (m : CallerLog) → slice_get ports p ≡ Some (Some m) → m.line ≡ line

-- the shares that were not handed out
abbrev pub left_in : {L : Type 0} → Shares L → List CallerLog
left_in shares = shares.pf ∷ shares.pump ∷ shares.service ∷ left_of shares.ports.items
