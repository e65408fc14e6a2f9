-- What an event asks of a guest's port.
use Rattle.std.specs.Prelude.{◌≡◌, ℕ, true, false, List, [], ◌∷◌}
use Rattle.device.specs.Events.{Event}
use Rattle.device.specs.declared.event.Whose.TheVariants.{Function}
use Rattle.device.specs.Replies.{Reply}
use Rattle.device.specs.Whose.{whose_of}
use Rattle.guest_port.specs.Calls.{CallingPort, HasCalled}
use Rattle.guest_port.specs.Port.{closed, ended}
use Rattle.workers.specs.Callers.{is_end, is_of_host}

-- the events of pool p that its port may do: those of its function that are not the service's
pub record IsPortEvent (p : ℕ) (event : Event) : Type 0 where
  pub own : whose_of event ≡ Function p
  pub guests : is_of_host event ≡ false

-- a port before and after a call that asks an event: until the port ends the call is kept, with its answer
pub record HasMade (event : Event) (old new : CallingPort) : Type 0 where
  pub asked : old.port.is_open ≡ true → (reply : Reply) × HasCalled event reply old new
  pub ended : old.port.is_open ≡ false → new ≡ old

-- a port before and after an event: its end, or a call
pub record HasDone (event : Event) (old new : CallingPort) : Type 0 where
  pub end : is_end event ≡ true → new ≡ record old { port = ended old.port }
  pub call : is_end event ≡ false → HasMade event old new

-- a port before and after events, in order
abbrev pub HasDoneAll : List Event → CallingPort → CallingPort → Type 0
HasDoneAll [] old new = new ≡ old
HasDoneAll (e ∷ events) old new = (next : CallingPort) × HasDone e old next × HasDoneAll events next new

-- a port before and after events, and its close after them
abbrev pub HasClosed : List Event → CallingPort → CallingPort → Type 0
HasClosed events old new = (last : CallingPort) × HasDoneAll events old last × (new ≡ record last { port = closed last.port })
