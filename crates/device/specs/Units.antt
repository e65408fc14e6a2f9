-- The functions of a device, each with the accesses that were made to its memory.
use Rattle.std.specs.Prelude.{◌≡◌, ℕ, Bool, List, [], ◌++◌, if◌then◌else◌}
use Rattle.vf_unit.specs.Unit.{TracedFunction, Closed, IsMet, met_function, size_of, ended, given_accesses}
use Rattle.device.specs.World.{offered}

-- a function that isn't there
abbrev pub nobody : TracedFunction
nobody = record { function = Closed 0; accesses = [] }

-- a function that was closed
abbrev pub closed : TracedFunction → TracedFunction
closed f = record { function = ended f.function; accesses = f.accesses }

-- a frame came to a function, which got it where it may: what it was, what it is, and the messages that it got
pub record Offers (shared may loopback : Bool) (frame : List ℕ) (before after : TracedFunction) (raised : ℕ) : Type 0 where
  pub function : after.function ≡ (offered may loopback frame (met_function before after)).state
  pub messages : raised ≡ (offered may loopback frame (met_function before after)).messages
  pub listed : after.accesses ≡ before.accesses ++ (if may then given_accesses loopback frame (met_function before after) else [])
  pub met : IsMet shared before.function before.accesses after.accesses
  pub size : size_of after.function ≡ size_of before.function
