-- Kept calls, and when they are legal.
use Rattle.std.specs.Prelude.{◌≡◌, ℕ, true, ◌==◌, if◌then◌else◌, List, slice_index}
use Rattle.std.specs.List.{All, sum_by}
use Rattle.std.specs.Int.{bit_at}
use Rattle.device.specs.World.{World}
use Rattle.history.specs.Callers.{caller_number}
use Rattle.history.specs.Entries.{Entry, Leads}
use Rattle.recorder.specs.Callers.{may}

-- each call is an event that its caller may make
abbrev pub AreAllowed : List Entry → Type 0
AreAllowed calls = All (λ (call : Entry). may call.caller call.event ≡ true) calls

-- the calls lead from the base to the live world, and are allowed
pub record Legal (base : World) (calls : List Entry) (live : World) : Type 0 where
  pub leads : Leads base calls live
  pub allowed : AreAllowed calls

-- how many of the calls are the caller's of that number
abbrev pub calls_of : ℕ → List Entry → ℕ
calls_of c calls = sum_by (λ (call : Entry). if caller_number call.caller == c then 1 else 0) calls

-- how many of the calls issued a message of vector v to pool p
abbrev pub kept_raises : ℕ → ℕ → List Entry → ℕ
kept_raises p v calls = sum_by (λ (call : Entry). bit_at (slice_index call.answer.raised p) v) calls
