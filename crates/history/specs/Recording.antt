-- A device with its calls, as contracts see it.
use Rattle.std.specs.Prelude.{ℕ, Bool, List, [], ◌∷◌, ◌++◌}
use Rattle.device.specs.Events.{Event}
use Rattle.device.specs.World.{World, fresh, sizes_of, step}
use Rattle.history.specs.declared.caller.Caller.{Caller}
use Rattle.history.specs.Entries.{Entry, entry}

pub record Logged : Type 0 where
  -- the world that the kept calls begin at
  pub base : World
  -- the calls since, the oldest first
  pub kept : List Entry
  -- the world of the live device
  pub live : World
  -- how many calls may be kept
  pub cap : ℕ
  -- whether there is a twin, which the base can be moved by
  pub has_twin : Bool

-- a device as it is made, of the live one's frame limit and sizes of memories
abbrev pub made_like : World → World
made_like live = fresh live.profile.limit (sizes_of live)

-- no call was made yet
abbrev pub begun : World → ℕ → Bool → Logged
begun w cap twin = record { base = w; kept = []; live = w; cap = cap; has_twin = twin }

-- the device takes an event, and the call is kept with its answer
abbrev pub keeping : Logged → Caller → Event → Logged
keeping r caller event = record {
  base = r.base;
  kept = r.kept ++ entry caller event (step r.live event).answer ∷ [];
  live = (step r.live event).world;
  cap = r.cap;
  has_twin = r.has_twin;
}

-- the live world becomes the base, and no calls are kept any more
abbrev pub rebased : Logged → Logged
rebased r = begun r.live r.cap r.has_twin
