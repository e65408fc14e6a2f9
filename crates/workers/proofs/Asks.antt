-- What a share asked: nothing, one call, and calls behind others.
use Rattle.std.proofs.Common.{◌≡◌, ℕ, ◌+◌, ◌<◌, List, [], ◌∷◌, ◌++◌, length, take, drop, refl, sym, ap, ◌∙◌, subst, append_assoc}
use Rattle.std.specs.Prelude.{Option, Some, slice_index_or, unwrap_or}
use Rattle.std.proofs.Math.Seq.{drop-append_seam}
use Rattle.std.proofs.lemmas.List.{append-nil, map-append, take_more, take-append-drop}
use Rattle.atomic_table.specs.Seated.{TableId}
use Rattle.device.specs.Events.{Event}
use Rattle.device.specs.declared.event.Event.TheVariants.{PfReset}
use Rattle.device.specs.declared.event.Answer.{Answer}
use Rattle.device.specs.declared.response.Response.{Response}
use Rattle.device.specs.declared.room.Room.{Room}
use Rattle.device.specs.Outcome.{answer_of}
use Rattle.history.specs.declared.caller.Caller.TheVariants.{Pump}
use Rattle.history.specs.Entries.{Entry, entry, events}
use Rattle.recorder.specs.Held.{HasAsked, CallerLog, having_asked, having_calls}
use Rattle.device_lock.specs.Answers.{MayRespond}
use Rattle.wire_pump.specs.Doors.{StandFirst}
use Rattle.workers.specs.Asked.{HasTold}

pub asked_none : (m : CallerLog) → HasAsked [] m m
asked_none m = record { calls = []; events = refl; more = ap (λ (xs : List Entry). record m { asked = xs }) (sym (append-nil m.asked)) }

pub has_asked : (e : Event) (answer : Answer) (old new : CallerLog) → new ≡ having_asked e answer old → HasAsked (e ∷ []) old new
has_asked e answer old new kept = record { calls = entry old.caller e answer ∷ []; events = refl; more = kept }

pub asked_one : (e : Event) (answer : Answer) (old new : CallerLog) → HasTold e answer old new → HasAsked (e ∷ []) old new
asked_one e answer old new told = has_asked e answer old new told.kept

pub asked_behind : (first next : List Event) (old mid new : CallerLog) → HasAsked first old mid → HasAsked next mid new → HasAsked (first ++ next) old new
asked_behind first next old mid new before after = record {
  calls = before.calls ++ after.calls;
  events = map-append (λ (call : Entry). call.event) before.calls after.calls ∙ (λ i. before.events i ++ after.events i);
  more =
      after.more ∙ ap (having_calls after.calls) before.more
      ∙ ap (λ (xs : List Entry). record old { asked = xs }) (append_assoc old.asked before.calls after.calls);
}

-- the events of a list so far, and the next
pub asked_more : (es : List Event) (k : ℕ) (e : Event) (m old new : CallerLog) → k < length es → e ≡ slice_index_or es k PfReset → HasAsked (take k es) m old → HasAsked (e ∷ []) old new
    → HasAsked (take (k + 1) es) m new
asked_more es k e m old new less is before more =
    subst (λ (xs : List Event). HasAsked xs m new) (ap (λ (x : Event). take k es ++ x ∷ []) is ∙ sym (take_more es k PfReset less)) (asked_behind (take k es) (e ∷ []) m old new before more)

-- the same of the event at a turn
pub asked_turn : (es : List Event) (k : ℕ) (m old new : CallerLog) → k < length es → HasAsked (take k es) m old → HasAsked (slice_index_or es k PfReset ∷ []) old new → HasAsked (take (k + 1) es) m new
asked_turn es k m old new less before more = asked_more es k (slice_index_or es k PfReset) m old new less refl before more

pub told_one : (e at : Event) (answer : Answer) (old new : CallerLog) → e ≡ at → HasTold e answer old new → HasAsked (at ∷ []) old new
told_one e at answer old new is told = subst (λ (x : Event). HasAsked (x ∷ []) old new) is (asked_one e answer old new told)

-- the share is its caller's still
pub same_caller : (es : List Event) (old new : CallerLog) → HasAsked es old new → new.caller ≡ old.caller
same_caller es old new asked = ap (λ (m : CallerLog). m.caller) asked.more

-- ---- one call

-- the answer that a device gave is the one that was kept
pub has_told : (e : Event) (response : Response) (room : Room) (old new : CallerLog) → MayRespond e response room → new ≡ having_asked e (answer_of room response) old
    → HasTold e (answer_of room response) old new
has_told e response room old new given kept = record { kept = kept; given = (given.world, given.answer) }

-- ---- the pump's door

-- what the pump's door took, its share asked
pub door_asked : (es : List Event) (before new : CallerLog) → new.caller ≡ Pump → events new.asked ≡ events before.asked ++ es → StandFirst before.asked new.asked → Some new.line ≡ Some before.line
    → HasAsked es (record before { caller = Pump }) new
door_asked es before new is taken first line =
    let calls : List Entry = drop (length before.asked) new.asked in
    let more : new.asked ≡ before.asked ++ calls = sym (take-append-drop (length before.asked) new.asked) ∙ ap (λ (xs : List Entry). xs ++ calls) first in
    let same : events before.asked ++ events calls ≡ events before.asked ++ es = sym (map-append (λ (call : Entry). call.event) before.asked calls) ∙ (sym (ap events more) ∙ taken) in
    let same_line : new.line ≡ before.line = ap (λ (line : Option TableId). unwrap_or line before.line) line in
    record {
      calls = calls;
      events = sym (drop-append_seam (events before.asked) (events calls)) ∙ (ap (drop (length (events before.asked))) same ∙ drop-append_seam (events before.asked) es);
      more = λ i. record { caller = is i; line = same_line i; asked = more i };
    }
