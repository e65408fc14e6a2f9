-- Whether a step stopped its queue.
use Rattle.std.specs.Prelude.{Bool, true, false}
use Rattle.tx_desc.specs.declared.outcome.Fetched.{Fetched}
use Rattle.tx_desc.specs.declared.outcome.Fetched.TheVariants.{Idle, More, Frame, Dropped, Faulted}

-- the descriptor that was taken cannot be used
abbrev pub is_fault : Fetched → Bool
is_fault Idle = false
is_fault More = false
is_fault (Frame bytes) = false
is_fault Dropped = false
is_fault Faulted = true
