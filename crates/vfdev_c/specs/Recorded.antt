-- A device whose calls are kept, and the calls that are kept of it.
use Rattle.std.specs.Prelude.{ℕ, Bool, true, false, nat_le, nat_eq, List, [], ◌∷◌, ◌++◌, length, if◌then◌else◌}
use Rattle.device.specs.Events.{Event}
use Rattle.device.specs.declared.event.Event.TheVariants.{MemRead}
use Rattle.device.specs.World.{World, step}
use Rattle.history.specs.declared.caller.Caller.TheVariants.{Driver}
use Rattle.history.specs.Entries.{Entry, entry}
use Rattle.history.specs.Recording.{Logged}

-- the device, the calls that were made on it, the oldest first, and how many may be kept
pub record Recorded : Type 0 where
  pub live : World
  pub calls : List Entry
  pub cap : ℕ

abbrev pub recorded : World → List Entry → ℕ → Recorded
recorded live calls cap = record { live = live; calls = calls; cap = cap }

-- what is seen of a device with its calls
abbrev pub recorded_of : Logged → Recorded
recorded_of r = recorded r.live r.kept r.cap

-- no more calls can be kept
abbrev pub is_full : Recorded → Bool
is_full r = nat_eq (length r.calls) r.cap

-- it reads a guest's memory for the caller
abbrev pub is_mem_read : Event → Bool
is_mem_read (MemRead p at count) = true
is_mem_read e = false

-- how many of so many bytes an entry names
abbrev pub named : ℕ → ℕ
named count = if nat_le count 65535 then count else 65535

-- the event that a call is kept as: an entry names no more than 65535 bytes, and a read of more is refused as
-- one of so many is
abbrev pub kept_as : Event → Event
kept_as (MemRead p at count) = MemRead p at (named count)
kept_as e = e

-- the device takes an event, and the call is kept with its answer
abbrev pub keeping : Recorded → Event → Recorded
keeping r e =
    recorded (step r.live e).world (r.calls ++ entry Driver (kept_as e) (step r.live e).answer ∷ []) r.cap
