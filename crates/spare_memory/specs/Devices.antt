-- What comes of a device whose guests' memories are exchanged for spare ones.
use Rattle.std.specs.Prelude.{◌≡◌, ◌≢◌, ℕ, List}
use Rattle.device.specs.Guests.{over_memory}
use Rattle.device.specs.Live.{TracedWorld, trace_of}
use Rattle.device.specs.Lone.{lone_of}

-- every function but p's is as it was: its registers and its memory, its own settings, and what was read and written of its memory
pub record LeavesTheOthers (p : ℕ) (old new : TracedWorld) : Type 0 where
  pub functions : (q : ℕ) → q ≢ p → lone_of q new.world ≡ lone_of q old.world
  pub accesses : (q : ℕ) → q ≢ p → trace_of new.accesses q ≡ trace_of old.accesses q

-- function p has another memory, and nothing else is another but what was read and written of it before
pub record IsDeviceOver (p : ℕ) (old : TracedWorld) (memory : List ℕ) (new : TracedWorld) : Type 0 where
  pub world : new.world ≡ over_memory old.world p memory
  pub elsewhere : (q : ℕ) → q ≢ p → trace_of new.accesses q ≡ trace_of old.accesses q

-- regions of function p's memory came or went, or they didn't: all that the device knows stays as it is, the bytes that it knows of the
-- memory too, and no other function's memory was accessed
pub record IsDeviceRemapped (p : ℕ) (old new : TracedWorld) : Type 0 where
  pub world : new.world ≡ old.world
  pub elsewhere : (q : ℕ) → q ≢ p → trace_of new.accesses q ≡ trace_of old.accesses q
