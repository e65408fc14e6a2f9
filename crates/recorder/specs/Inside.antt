-- What a recorded device is seen as, and what is true of its fields whenever nobody is inside a call.
use Rattle.std.specs.Prelude.{◌≡◌, ℕ, ◌+◌, ◌<◌, ◌≤◌, ◌^◌, length, sum}
use Rattle.irq_line.specs.Line.{raised}
use Rattle.history.specs.Recording.{made_like}
use Rattle.recorder.specs.declared.recorded.Recorded.TheInside.{Inside}
use Rattle.recorder.specs.Legal.{AreAllowed, kept_raises}
use Rattle.recorder.specs.Held.{Held}

abbrev pub held_of : {M L : Type 0} → Inside M L → Held
held_of s = record {
  base = s.recording.base;
  kept = s.recording.kept;
  live = s.recording.live;
  cap = s.recording.cap;
  has_twin = s.recording.has_twin;
  tallies = s.tallies;
  line = s.line;
}

-- `parts` is into how many parts the ledger is cut
pub record IsHeld {M L : Type 0} (parts : ℕ) (s : Inside M L) : Type 0 where
  pub allowed : AreAllowed s.recording.kept
  -- until calls are folded away, the base is a device as it is made
  pub first : s.folded ≡ 0 → s.recording.base ≡ made_like s.recording.live
  pub some : 1 ≤ s.recording.cap
  pub few : s.recording.cap ≤ 65536
  pub folded : s.folded ≡ sum s.tallies
  pub few_folded : s.folded ≤ 2 ^ 62
  pub callers : length s.tallies ≡ 67
  -- each message of a kept call was raised, and the others were raised by calls that were folded away
  pub raises : (p v : ℕ) → p < 64 →
      (kept_raises p v s.recording.kept ≤ raised p v s.line.raises)
      × (raised p v s.line.raises ≤ kept_raises p v s.recording.kept + s.folded)
  -- the shares have the calls that were kept and folded away
  pub counted : s.book.total ≡ sum s.tallies + length s.recording.kept
  pub shares : parts ≡ 67
