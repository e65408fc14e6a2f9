-- What a door took, one event after another, and the calls that stand before.
use Rattle.std.proofs.Common.{◌≡◌, ℕ, false, List, [], ◌∷◌, ◌++◌, length, map, take, drop, sym, ap, ◌∙◌, subst, append_assoc}
use Rattle.std.proofs.Math.Seq.{take-append_seam, take-length}
use Rattle.std.proofs.lemmas.List.{map-append, take-append-drop}
use Rattle.device.specs.Events.{Event}
use Rattle.device.specs.declared.event.Answer.{Answer}
use Rattle.history.specs.Entries.{Entry, entry, events}
use Rattle.recorder.specs.Held.{CallerLog, having_asked}
use Rattle.device_lock.specs.Answers.{MayAnswer, HasAskedOne}
use Rattle.wire_pump.specs.declared.message.WireMsg.{WireMsg}
use Rattle.wire_pump.specs.declared.message.WireMsg.TheVariants.{Frame}
use Rattle.wire_pump.specs.Doors.{StandFirst}
use Rattle.wire_pump.specs.Ends.{ReceiveEnd, HasReceived, HasGivenBack}

-- ---- one call of a share

pub one_taken : (old new : CallerLog) (e : Event) (a : Answer) → new ≡ having_asked e a old → events new.asked ≡ events old.asked ++ e ∷ []
one_taken old new e a more = ap (λ (m : CallerLog). events m.asked) more ∙ map-append (λ (call : Entry). call.event) old.asked (entry old.caller e a ∷ [])

pub one_behind_it : (old new : CallerLog) (e : Event) (a : Answer) → new ≡ having_asked e a old → StandFirst old.asked new.asked
one_behind_it old new e a more = ap (λ (m : CallerLog). take (length old.asked) m.asked) more ∙ take-append_seam old.asked (entry old.caller e a ∷ [])

pub asked_one : (old new : CallerLog) (e : Event) (a : Answer) → new ≡ having_asked e a old → MayAnswer e a → HasAskedOne e old new
asked_one old new e a more may = record { answer = a; kept = more; given = may }

-- ---- calls that stand first

pub stand_first_same : (old new : List Entry) → new ≡ old → StandFirst old new
stand_first_same old new same = ap (take (length old)) same ∙ take-length old

-- what is behind
behind : (old new : List Entry) → StandFirst old new → new ≡ old ++ drop (length old) new
behind old new first = sym (take-append-drop (length old) new) ∙ ap (λ (calls : List Entry). calls ++ drop (length old) new) first

pub stand_first_then : (first mid last : List Entry) → StandFirst first mid → StandFirst mid last → StandFirst first last
stand_first_then first mid last before after =
    let a : List Entry = drop (length first) mid in let b : List Entry = drop (length mid) last in
    ap (take (length first)) (behind mid last after ∙ ap (λ (calls : List Entry). calls ++ b) (behind first mid before) ∙ append_assoc first a b)
    ∙ take-append_seam first (a ++ b)

-- ---- what was received

-- one message more stands behind the frames so far, and a box was given back behind it, or not
pub received_more : (first mid next last : ReceiveEnd) (frames : List (List ℕ)) (message : WireMsg) (frame : List ℕ) → HasReceived (map Frame frames) first mid → next ≡ record mid { received = mid.received ++ message ∷ [] }
    → message ≡ Frame frame → last ≡ record next { given = last.given; is_alone = last.is_alone } → HasReceived (map Frame frames ++ Frame frame ∷ []) first last
received_more first mid next last frames message frame before more same rest =
    rest ∙ ap (λ (r : ReceiveEnd). record r { given = last.given; is_alone = last.is_alone }) more
    ∙ ap (λ (m : WireMsg). record mid { received = mid.received ++ m ∷ []; given = last.given; is_alone = last.is_alone }) same
    ∙ ap (λ (r : ReceiveEnd). record r { received = r.received ++ Frame frame ∷ []; given = last.given; is_alone = last.is_alone }) before
    ∙ ap (λ (ms : List WireMsg). record first { received = ms; given = last.given; is_alone = last.is_alone }) (append_assoc first.received (map Frame frames) (Frame frame ∷ []))

-- ---- the boxes that were given back

pub given_more : (first mid next last : ReceiveEnd) (frames : List (List ℕ)) (message : WireMsg) (frame : List ℕ) → HasGivenBack (map Frame frames) first mid → next ≡ record mid { received = mid.received ++ message ∷ [] }
    → (last.is_alone ≡ false → last ≡ record next { given = next.given ++ Frame frame ∷ [] }) → HasGivenBack (map Frame frames ++ Frame frame ∷ []) first last
given_more first mid next last frames message frame before more went free =
    let now = went free in
    let alone : mid.is_alone ≡ false = sym (ap (λ (r : ReceiveEnd). r.is_alone) more) ∙ (sym (ap (λ (r : ReceiveEnd). r.is_alone) now) ∙ free) in
    ap (λ (r : ReceiveEnd). r.given) now
    ∙ ap (λ (ms : List WireMsg). ms ++ Frame frame ∷ []) (ap (λ (r : ReceiveEnd). r.given) more ∙ before alone)
    ∙ append_assoc first.given (map Frame frames) (Frame frame ∷ [])

-- a list of frames with one more
pub frames_more : (P : List WireMsg → Type 0) (frames : List (List ℕ)) (frame : List ℕ) → P (map Frame frames ++ Frame frame ∷ []) → P (map Frame (frames ++ frame ∷ []))
frames_more P frames frame p = subst P (sym (map-append Frame frames (frame ∷ []))) p
