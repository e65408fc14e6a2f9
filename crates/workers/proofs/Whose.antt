-- What is the wire's.
use Rattle.std.proofs.Common.{◌≡◌, true, false, refl}
use Rattle.std.proofs.lemmas.Bool.{false≢true}
use Rattle.device.specs.declared.event.Event.{Event as EventOf}
use Rattle.device.specs.declared.event.Event.TheVariants.{Wire}
use Rattle.device.specs.Whose.{whose_of}
use Rattle.recorder.specs.Callers.{is_of_wire}

-- what is the wire's is a frame
pub a_frame : {B F : Type 0} (e : EventOf B F) → is_of_wire (whose_of e) ≡ true → (frame : F) × (e ≡ Wire frame)
a_frame (Wire frame) is = (frame, refl)
a_frame e is = absurd (false≢true is)
