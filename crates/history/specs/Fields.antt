-- What a device with its calls is seen as, and what is true of its fields.
use Rattle.std.specs.Prelude.{ℕ, List, is_some, Option, Some, None}
use Rattle.std.specs.Global.{Box}
use Rattle.device.specs.World.{World}
use Rattle.device.specs.Live.{TracedWorld}
use Rattle.history.specs.declared.recording.Recording.TheInside.{Inside}
use Rattle.history.specs.Entries.{Entry, Leads}
use Rattle.history.specs.Recording.{Logged, made_like}

-- the world that the kept calls begin at: that of the twin in its box, or of a device as it is made
abbrev pub base_of : Option (Box TracedWorld) → World → World
base_of None live = made_like live
base_of (Some twin) live = twin.value.world

abbrev pub logged : Option (Box TracedWorld) → World → List Entry → ℕ → Logged
logged twin live kept cap = record {
  base = base_of twin live;
  kept = kept;
  live = live;
  cap = cap;
  has_twin = is_some twin;
}

abbrev pub logged_of : {M : Type 0} → Inside M → Logged
logged_of s = logged s.twin s.live.value.world s.history.entries s.history.cap

abbrev pub IsLogged : {M : Type 0} → Inside M → Type 0
IsLogged s = Leads (base_of s.twin s.live.value.world) s.history.entries s.live.value.world
