-- One event more.
use Rattle.std.proofs.Common.{rules, ◌<◌, length}
use Rattle.transcript.proofs.Known.{began_next, on_err, sent_next}
use Rattle.modes.proofs.Left.{kept_next}
use Rattle.modes.proofs.keep.items.Goals as goal

pub returns-in_err-item-clause-err : goal.returns-in_err-item-clause-err
returns-in_err-item-clause-err g c =
    let es = c.args.script.now.events in
    let i = c.loop-index.index in
    let less : i < length es = search rules in
    let step = c.step-given.ensures in
    on_err c.from_residual.result
    (began_next _ _ _ _ _ _ _ _ (kept_next _ _ _ _ es i _ _ less c.request-request.ensures step.world step.kept step.pool) c.loop-index.invariant c.in_err-item.ensures.err)

pub loop-index-preserved : goal.loop-index-preserved
loop-index-preserved g c =
    let es = c.args.script.now.events in
    let i = c.loop-index.index in
    let less : i < length es = search rules in
    let step = c.step-given.ensures in
    sent_next _ _ _ _ _ _ _ _ _ (kept_next _ _ _ _ es i _ _ less c.request-request.ensures step.world step.kept step.pool) c.loop-index.invariant c.in_ok-item.ensures.ok
