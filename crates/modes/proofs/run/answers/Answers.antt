-- One answer more.
use Rattle.std.proofs.Common.{rules, ◌∙◌, ◌<◌, length}
use Rattle.transcript.proofs.Known.{began_next, on_err, sent_next}
use Rattle.modes.proofs.Left.{answers_next, world_next}
use Rattle.modes.proofs.run.answers.Goals as goal

pub returns-in_err-answer-clause-err : goal.returns-in_err-answer-clause-err
returns-in_err-answer-clause-err g c =
    let es = c.args.script.now.events in
    let i = c.loop-index.index in
    let less : i < length es = search rules in
    on_err c.from_residual.result
    (began_next _ _ _ _ _ _ _ _ (answers_next c.loop-index.device.world _ es i _ _ less c.request-request.ensures c.take-response.ensures.takes.world c.take-response.ensures.takes.answer) c.loop-index.invariant.sent c.in_err-answer.ensures.err)

pub loop-index-preserved : goal.loop-index-preserved
loop-index-preserved g c =
    let es = c.args.script.now.events in
    let i = c.loop-index.index in
    let less : i < length es = search rules in
    record {
      sent = sent_next _ _ _ _ _ _ _ _ _ (answers_next c.loop-index.device.world _ es i _ _ less c.request-request.ensures c.take-response.ensures.takes.world c.take-response.ensures.takes.answer) c.loop-index.invariant.sent c.in_ok-answer.ensures.ok;
      world = world_next c.loop-index.device.world _ es i _ less c.request-request.ensures c.take-response.ensures.takes.world ∙ c.loop-index.invariant.world;
    }
