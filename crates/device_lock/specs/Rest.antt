-- What is so of a recorded device whenever nobody is inside its lock.
use Rattle.std.specs.Prelude.{◌≡◌, ℕ, ◌+◌, ◌<◌, ◌≤◌, length}
use Rattle.device.specs.World.{fresh, sizes_of}
use Rattle.irq_line.specs.Line.{raised}
use Rattle.recorder.specs.Legal.{Legal, kept_raises}
use Rattle.recorder.specs.Held.{Held, folded, folded_raises}

pub record IsAtRest (held : Held) : Type 0 where
  -- each kept call is one that its caller may make, and from the base on they lead to the live device by the kept answers
  pub legal : Legal held.base held.kept held.live
  pub few : length held.kept ≤ held.cap
  -- until calls are folded away, the base is a device as it is made, of the live one's make
  pub first : folded held ≡ 0 → held.base ≡ fresh held.live.profile.limit (sizes_of held.live)
  -- each message that was raised is one of a kept answer, or of a call that was folded away
  pub raised : (p v : ℕ) → p < 64 → raised p v held.line.raises ≡ kept_raises p v held.kept + folded_raises p v held
