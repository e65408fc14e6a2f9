-- The record that is added is the line's event, and the others stay what they are.
use Rattle.std.proofs.Common.{refl, ◌∙◌}
use Rattle.script.proofs.RecordLemmas.{all_fit, events_stay, on_err, one_more, one_more_fits}
use Rattle.script.proofs.events.Events.push.Goals as goal

pub invariant_of-self : goal.invariant_of-self
invariant_of-self c = record { fit = all_fit _ _ _ _ refl c.record_of_line.ensures.grown c.self.invariant.fit }

pub returns-in_err-record-clause-err : goal.returns-in_err-record-clause-err
returns-in_err-record-clause-err c = on_err _ (events_stay _ _ _ _ refl c.record_of_line.ensures.grown c.self.invariant.fit ∙ c.self.view_is)

pub invariant_of-self-in_err-push : goal.invariant_of-self-in_err-push
invariant_of-self-in_err-push c =
    record { fit = all_fit _ _ _ _ c.in_err-push.ensures.items c.record_of_line.ensures.grown c.self.invariant.fit }

pub returns-in_err-push-clause-err : goal.returns-in_err-push-clause-err
returns-in_err-push-clause-err c =
    on_err _ (events_stay _ _ _ _ c.in_err-push.ensures.items c.record_of_line.ensures.grown c.self.invariant.fit ∙ c.self.view_is)

pub invariant_of-self-2 : goal.invariant_of-self-2
invariant_of-self-2 c = record {
  fit = one_more_fits _ _ _ _ _ c.in_ok-push.ensures.items c.record_of_line.ensures.grown c.self.invariant.fit c.in_ok-record.ensures.fits;
}

pub returns-clause-ok : goal.returns-clause-ok
returns-clause-ok c =
    let more = one_more _ _ _ _ _ c.in_ok-push.ensures.items c.record_of_line.ensures.grown c.self.invariant.fit in
    (_, (c.in_ok-record.ensures.event, rw c.self.view_is at more))
