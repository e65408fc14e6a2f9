-- What a door's share asked: one event more, or none.
use Rattle.std.proofs.Common.{◌≡◌, List, [], ◌∷◌, ◌++◌, length, take, ap, ◌∙◌}
use Rattle.std.proofs.Math.Seq.{take-append_seam, take-length}
use Rattle.std.proofs.lemmas.List.{map-append}
use Rattle.device.specs.Events.{Event}
use Rattle.device.specs.declared.event.Answer.{Answer}
use Rattle.history.specs.Entries.{Entry, entry, events}
use Rattle.recorder.specs.Held.{CallerLog, having_asked}
use Rattle.wire_pump.specs.Doors.{StandFirst}

pub one_more : (old new : CallerLog) (e : Event) (a : Answer) → new ≡ having_asked e a old → events new.asked ≡ events old.asked ++ e ∷ []
one_more old new e a more = ap (λ (m : CallerLog). events m.asked) more ∙ map-append (λ (call : Entry). call.event) old.asked (entry old.caller e a ∷ [])

pub one_behind : (old new : CallerLog) (e : Event) (a : Answer) → new ≡ having_asked e a old → StandFirst old.asked new.asked
one_behind old new e a more = ap (λ (m : CallerLog). take (length old.asked) m.asked) more ∙ take-append_seam old.asked (entry old.caller e a ∷ [])

pub none_more : (old new : CallerLog) → new ≡ old → StandFirst old.asked new.asked
none_more old new same = ap (λ (m : CallerLog). take (length old.asked) m.asked) same ∙ take-length old.asked
