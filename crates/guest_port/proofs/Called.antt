-- A port's share made one call more, and so did the port. Its seat stays one of the same line.
use Rattle.std.proofs.Common.{◌≡◌, ℕ, Bool, true, false, List, [], ◌∷◌, ◌++◌, length, drop, refl, sym, ap, ◌∙◌, append_assoc}
use Rattle.std.proofs.Math.Seq.{drop-append_seam}
use Rattle.device.specs.Events.{Event}
use Rattle.device.specs.declared.event.Answer.{Answer}
use Rattle.history.specs.Entries.{Entry, entry}
use Rattle.recorder.specs.Held.{CallerLog, having_asked, having_calls}
use Rattle.device_lock.specs.Answers.{MayAnswer}
use Rattle.guest_port.specs.Port.{Port, having_taken, having_peeked}
use Rattle.guest_port.specs.Calls.{HasCalled, asked_since}

-- the calls behind those that a share began with
more_since : (first last new : CallerLog) (e : Event) (a : Answer) → last ≡ having_calls (asked_since first last) first → new ≡ having_asked e a last
    → new.asked ≡ first.asked ++ (asked_since first last ++ entry first.caller e a ∷ [])
more_since first last new e a is more =
    ap (λ (m : CallerLog). m.asked) more ∙ ap (λ (m : CallerLog). m.asked ++ entry m.caller e a ∷ []) is
    ∙ append_assoc first.asked (asked_since first last) (entry first.caller e a ∷ [])

since : (first last new : CallerLog) (e : Event) (a : Answer) → last ≡ having_calls (asked_since first last) first → new ≡ having_asked e a last
    → asked_since first new ≡ asked_since first last ++ entry first.caller e a ∷ []
since first last new e a is more =
    ap (drop (length first.asked)) (more_since first last new e a is more)
    ∙ drop-append_seam first.asked (asked_since first last ++ entry first.caller e a ∷ [])

-- what a share asked since still stands behind what it began with
pub still_since : (first last new : CallerLog) (e : Event) (a : Answer) → last ≡ having_calls (asked_since first last) first → new ≡ having_asked e a last
    → new ≡ having_calls (asked_since first new) first
still_since first last new e a is more =
    let caller : new.caller ≡ first.caller = ap (λ (m : CallerLog). m.caller) more ∙ ap (λ (m : CallerLog). m.caller) is in
    let asked : new.asked ≡ first.asked ++ asked_since first new =
    more_since first last new e a is more ∙ ap (λ xs. first.asked ++ xs) (sym (since first last new e a is more)) in
    let line : new.line ≡ first.line = ap (λ (m : CallerLog). m.line) more ∙ ap (λ (m : CallerLog). m.line) is in
    λ i. record { caller = caller i; line = line i; asked = asked i }

pub has_called : (port : Port) (first last new : CallerLog) (before now : List ℕ) (e : Event) (a : Answer) → last ≡ having_calls (asked_since first last) first
    → new ≡ having_asked e a last → MayAnswer e a
    → HasCalled e a.reply (record { port = port; made = first; calls = asked_since first last; cells = before }) (record { port = port; made = first; calls = asked_since first new; cells = now })
has_called port first last new before now e a is more may = record {
  answer = a;
  kept = ap (λ (calls : List Entry). record { port = port; made = first; calls = calls; cells = now }) (since first last new e a is more);
  told = refl;
  given = may;
}

-- ---- the line

pub taken_line : (port : Port) (answer : ℕ) → (having_taken port answer).seat.line ≡ port.seat.line
taken_line port answer = go port.is_closed refl
  where
    go : (is_closed : Bool) → port.is_closed ≡ is_closed → (having_taken port answer).seat.line ≡ port.seat.line
    go true is = rw is refl
    go false is = rw is refl

pub peeked_line : (port : Port) (answer : ℕ) → (having_peeked port answer).seat.line ≡ port.seat.line
peeked_line port answer = go port.is_closed refl
  where
    go : (is_closed : Bool) → port.is_closed ≡ is_closed → (having_peeked port answer).seat.line ≡ port.seat.line
    go true is = rw is refl
    go false is = rw is refl
