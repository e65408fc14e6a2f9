-- Events before `go`: what they add to the shares, and what they leave open.
use Rattle.std.proofs.Common.{◌≡◌, ◌≢◌, ℕ, ◌+◌, ◌<◌, Bool, List, [], ◌∷◌, ◌++◌, length, take, refl, sym, ap, ◌∙◌, subst, append_assoc}
use Rattle.std.specs.Prelude.{MatchOption, None, Option, Some, slice_index_or, unwrap_or}
use Rattle.std.proofs.lemmas.List.{append-nil, map-append, take_more}
use Rattle.std.proofs.lemmas.List.Elements.{All-append, All-nil, All-push, filter-append}
use Rattle.device.specs.Events.{Event}
use Rattle.device.specs.declared.event.Answer.{Answer}
use Rattle.device.specs.declared.event.Event.TheVariants.{PfReset}
use Rattle.device.specs.declared.event.Whose.{Whose}
use Rattle.device.specs.declared.event.Whose.TheVariants.{Function, Physical, Wire}
use Rattle.device.specs.Whose.{whose_of}
use Rattle.history.specs.declared.caller.Caller.{Caller}
use Rattle.history.specs.declared.caller.Caller.TheVariants.{Driver, Service}
use Rattle.history.specs.Entries.{Entry, entry}
use Rattle.recorder.specs.declared.shares.Shares.{Shares}
use Rattle.recorder.specs.Held.{CallerLog, having_calls}
use Rattle.script.specs.Reading.{Meaning}
use Rattle.workers.specs.Asked.{HasTold}
use Rattle.workers.specs.Callers.{caller_before, first_caller, is_same}
use Rattle.workers.specs.Counts.{HasRecorded, HaveKept, HaveRecorded, IsFirst, made_by}
use Rattle.workers.specs.Opens.{HaveLeft, IsPrepared, all_closed, opened, opened_after, pools_from}

-- ---- calls behind others

made_none : (m : CallerLog) → having_calls [] m ≡ m
made_none m = ap (λ (xs : List Entry). record m { asked = xs }) (append-nil m.asked)

made_more : (c : Caller) (calls more : List Entry) (old mid new : CallerLog) → mid ≡ having_calls (made_by c calls) old → new ≡ having_calls (made_by c more) mid
    → new ≡ having_calls (made_by c (calls ++ more)) old
made_more c calls more old mid new before after =
    after ∙ ap (having_calls (made_by c more)) before
    ∙ ap (λ (xs : List Entry). record old { asked = xs })
    (append_assoc old.asked (made_by c calls) (made_by c more) ∙ ap (λ (xs : List Entry). old.asked ++ xs) (sym (filter-append (λ (call : Entry). is_same call.caller c) calls more)))

kept_more : {L : Type 0} (calls more : List Entry) (old mid new : Shares L) → HaveKept calls old mid → HaveKept more mid new → HaveKept (calls ++ more) old new
kept_more calls more old mid new before after = record {
  first = All-append IsFirst calls more before.first after.first;
  pf = made_more Driver calls more old.pf mid.pf new.pf before.pf after.pf;
  service = made_more Service calls more old.service mid.service new.service before.service after.service;
  pump = after.pump ∙ before.pump;
  ports = after.ports ∙ before.ports;
}

pub kept_none : {L : Type 0} (old new : Shares L) → new.pf ≡ old.pf → new.service ≡ old.service → new.pump ≡ old.pump → new.ports ≡ old.ports → HaveKept [] old new
kept_none old new pf_same service_same pump_same ports_same = record {
  first = All-nil IsFirst;
  pf = pf_same ∙ sym (made_none old.pf);
  service = service_same ∙ sym (made_none old.service);
  pump = pump_same;
  ports = ports_same;
}

-- ---- the events of a list so far

pub opened_last : (calls : List Entry) (call : Entry) (pools : List Bool) → opened_after (calls ++ call ∷ []) pools ≡ opened call.event call.answer.reply (opened_after calls pools)
opened_last [] call pools = refl
opened_last (x ∷ calls) call pools = opened_last calls call (opened x.event x.answer.reply pools)

left_more : {L : Type 0} (es : List Event) (e : Event) (answer : Answer) (pools left : List Bool) (old mid new : Shares L) → HaveLeft es pools old mid → HasRecorded e answer mid new → left ≡ opened e answer.reply pools
    → HaveLeft (es ++ e ∷ []) left old new
left_more es e answer pools left old mid new before more is =
    let call : Entry = entry (caller_before e) e answer in
    record {
      calls = before.calls ++ call ∷ [];
      asked = map-append (λ (c : Entry). c.event) before.calls (call ∷ []) ∙ ap (λ (xs : List Event). xs ++ e ∷ []) before.asked;
      kept = kept_more before.calls (call ∷ []) old mid new before.kept more;
      left = is ∙ ap (opened e answer.reply) before.left ∙ sym (opened_last before.calls call all_closed);
    }

pub left_next : {L : Type 0} (es : List Event) (k : ℕ) (e : Event) (answer : Answer) (pools left : List Bool) (old mid new : Shares L) → k < length es → e ≡ slice_index_or es k PfReset
    → HaveLeft (take k es) pools old mid → HasRecorded e answer mid new → left ≡ opened e answer.reply pools → HaveLeft (take (k + 1) es) left old new
left_next es k e answer pools left old mid new less is before more by =
    subst (λ (xs : List Event). HaveLeft xs left old new) (ap (λ (x : Event). take k es ++ x ∷ []) is ∙ sym (take_more es k PfReset less)) (left_more (take k es) e answer pools left old mid new before more by)

-- where a list begins
pub left_none : {L : Type 0} (pools : List Bool) (shares : Shares L) → pools ≡ all_closed → HaveLeft [] pools shares shares
left_none pools shares none = record { calls = []; asked = refl; kept = kept_none shares shares refl refl refl refl; left = none }

-- where it stops
pub recorded_still : {L : Type 0} (es : List Event) (pools : List Bool) (old mid new : Shares L) → HaveLeft es pools old mid → HaveKept [] mid new → HaveRecorded es old new
recorded_still es pools old mid new before none = record {
  calls = before.calls;
  asked = before.asked;
  kept = subst (λ (calls : List Entry). HaveKept calls old new) (append-nil before.calls) (kept_more before.calls [] old mid new before.kept none);
}

-- and what it is in the end
pub left_recorded : {L : Type 0} (es : List Event) (pools : List Bool) (old new : Shares L) → HaveLeft es pools old new → HaveRecorded es old new
left_recorded es pools old new left = record { calls = left.calls; asked = left.asked; kept = left.kept }

pub prepared_whole : {L : Type 0} (script : Meaning) (pools : List ℕ) (left : List Bool) (old new : Shares L) → script.go ≡ None → pools ≡ [] → HaveLeft (take (length script.events) script.events) left old new
    → IsPrepared script pools old new
prepared_whole script pools left old new whole none all = record {
  calls = all.calls;
  asked = all.asked ∙ ap (λ (go : Option ℕ). take (unwrap_or go (length script.events)) script.events) (sym whole);
  kept = all.kept;
  left = subst (λ (go : Option ℕ). MatchOption go (pools ≡ []) (λ go. pools ≡ pools_from 0 (opened_after all.calls all_closed))) (sym whole) none;
}

pub prepared_go : {L : Type 0} (script : Meaning) (go : ℕ) (pools : List ℕ) (left : List Bool) (old new : Shares L) → script.go ≡ Some go → pools ≡ pools_from 0 left → HaveLeft (take go script.events) left old new
    → IsPrepared script pools old new
prepared_go script go pools left old new is listed all = record {
  calls = all.calls;
  asked = all.asked ∙ ap (λ (go : Option ℕ). take (unwrap_or go (length script.events)) script.events) (sym is);
  kept = all.kept;
  left = subst (λ (go : Option ℕ). MatchOption go (pools ≡ []) (λ go. pools ≡ pools_from 0 (opened_after all.calls all_closed))) (sym is) (listed ∙ ap (pools_from 0) all.left);
}

-- ---- one event

-- the driver's call, or the service's
pub recorded_pf : {L : Type 0} (e : Event) (answer : Answer) (old new : Shares L) → caller_before e ≡ Driver → old.pf.caller ≡ Driver → HasTold e answer old.pf new.pf → new.service ≡ old.service → new.pump ≡ old.pump → new.ports ≡ old.ports
    → HasRecorded e answer old new
recorded_pf e answer old new is own told service_same pump_same ports_same = subst (λ (c : Caller). HaveKept (entry c e answer ∷ []) old new) (sym is) (record {
  first = All-push IsFirst [] (entry Driver e answer) (All-nil IsFirst) (sym is, told.given);
  pf = told.kept ∙ ap (λ (c : Caller). record old.pf { asked = old.pf.asked ++ entry c e answer ∷ [] }) own;
  service = service_same ∙ sym (made_none old.service);
  pump = pump_same;
  ports = ports_same;
})

by_service : {L : Type 0} (e : Event) (answer : Answer) (old new : Shares L) → caller_before e ≡ Service → old.service.caller ≡ Service → HasTold e answer old.service new.service → new.pf ≡ old.pf → new.pump ≡ old.pump
    → new.ports ≡ old.ports → HasRecorded e answer old new
by_service e answer old new is own told pf_same pump_same ports_same = subst (λ (c : Caller). HaveKept (entry c e answer ∷ []) old new) (sym is) (record {
  first = All-push IsFirst [] (entry Service e answer) (All-nil IsFirst) (sym is, told.given);
  pf = pf_same ∙ sym (made_none old.pf);
  service = told.kept ∙ ap (λ (c : Caller). record old.service { asked = old.service.asked ++ entry c e answer ∷ [] }) own;
  pump = pump_same;
  ports = ports_same;
})

-- who is not the driver is the service
driver_or_service : (whose : Whose) → first_caller whose ≢ Driver → first_caller whose ≡ Service
driver_or_service (Function p) other = refl
driver_or_service Physical other = absurd (other refl)
driver_or_service Wire other = refl

pub recorded_service : {L : Type 0} (e : Event) (answer : Answer) (old new : Shares L) → caller_before e ≢ Driver → old.service.caller ≡ Service → HasTold e answer old.service new.service → new.pf ≡ old.pf → new.pump ≡ old.pump
    → new.ports ≡ old.ports → HasRecorded e answer old new
recorded_service e answer old new other own told pf_same pump_same ports_same = by_service e answer old new (driver_or_service (whose_of e) other) own told pf_same pump_same ports_same
