-- One event is one call of the driver, or of the service.
use Rattle.std.proofs.Common.{rules, refl}
use Rattle.std.proofs.lemmas.Result.{IfOk-weaker, on_err_weaker}
use Rattle.device.specs.Outcome.{answer_of}
use Rattle.device.specs.Request.{event_of}
use Rattle.workers.proofs.First.{kept_none, recorded_pf, recorded_service}
use Rattle.workers.proofs.preparing.record.Goals as goal

pub returns-in-Driver-clause-recorded : goal.returns-in-Driver-clause-recorded
returns-in-Driver-clause-recorded g c =
    IfOk-weaker c.ask.result _ _ (λ response told. recorded_pf (event_of c.args.request) (answer_of c.ask.new.room response) _ _ (search rules) c.requires.pf told refl refl refl) c.ask.ensures.told

pub returns-in-Driver-clause-unchanged : goal.returns-in-Driver-clause-unchanged
returns-in-Driver-clause-unchanged g c = on_err_weaker c.ask.result (λ same. kept_none _ _ same.0 refl refl refl) c.ask.ensures.unchanged

pub returns-in_default-clause-recorded : goal.returns-in_default-clause-recorded
returns-in_default-clause-recorded g c =
    IfOk-weaker c.ask-in_default.result _ _ (λ response told. recorded_service (event_of c.args.request) (answer_of c.ask-in_default.new.room response) _ _ (search rules) c.requires.service told refl refl refl) c.ask-in_default.ensures.told

pub returns-in_default-clause-unchanged : goal.returns-in_default-clause-unchanged
returns-in_default-clause-unchanged g c =
    on_err_weaker c.ask-in_default.result (λ same. kept_none _ _ refl same.0 refl refl) c.ask-in_default.ensures.unchanged
