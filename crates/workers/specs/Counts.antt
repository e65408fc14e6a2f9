-- What the shares of callers asked before `go`, and what they were answered.
use Rattle.std.specs.Prelude.{◌≡◌, List, [], ◌∷◌, filter}
use Rattle.std.specs.List.{All}
use Rattle.device.specs.Events.{Event}
use Rattle.device.specs.declared.event.Answer.{Answer}
use Rattle.history.specs.declared.caller.Caller.{Caller}
use Rattle.history.specs.declared.caller.Caller.TheVariants.{Driver, Service}
use Rattle.history.specs.Entries.{Entry, entry, events}
use Rattle.recorder.specs.declared.shares.Shares.{Shares}
use Rattle.recorder.specs.Held.{having_calls}
use Rattle.device_lock.specs.Answers.{MayAnswer}
use Rattle.workers.specs.Callers.{caller_before, is_same}

-- those of calls that a caller made
abbrev pub made_by : Caller → List Entry → List Entry
made_by c calls = filter (λ (call : Entry). is_same call.caller c) calls

-- a call before `go`: made by the caller of its event, and answered as some device does
abbrev pub IsFirst : Entry → Type 0
IsFirst call = (call.caller ≡ caller_before call.event) × MayAnswer call.event call.answer

-- the shares once these calls before `go` are kept, each in its caller's share
pub record HaveKept {L : Type 0} (calls : List Entry) (old new : Shares L) : Type 0 where
  pub first : All IsFirst calls
  pub pf : new.pf ≡ having_calls (made_by Driver calls) old.pf
  pub service : new.service ≡ having_calls (made_by Service calls) old.service
  pub pump : new.pump ≡ old.pump
  pub ports : new.ports ≡ old.ports

-- the shares once these events before `go` are recorded
pub record HaveRecorded {L : Type 0} (first : List Event) (old new : Shares L) : Type 0 where
  pub calls : List Entry
  pub asked : events calls ≡ first
  pub kept : HaveKept calls old new

-- the shares once one is, with this answer
abbrev pub HasRecorded : {L : Type 0} → Event → Answer → Shares L → Shares L → Type 0
HasRecorded event answer old new = HaveKept (entry (caller_before event) event answer ∷ []) old new
