-- One event more.
use Rattle.std.proofs.Common.{rules, ◌<◌, length}
use Rattle.transcript.proofs.Known.{began_next, on_err, sent_next}
use Rattle.modes.proofs.Left.{seen_next}
use Rattle.modes.proofs.alone.observations.Goals as goal

pub returns-in_err-observation-clause-err : goal.returns-in_err-observation-clause-err
returns-in_err-observation-clause-err g c =
    let es = c.args.script.now.events in
    let i = c.loop-index.index in
    let less : i < length es = search rules in
    let step = c.follow-seen.ensures in
    on_err c.from_residual.result
    (began_next _ _ _ _ _ _ _ _ (seen_next _ _ _ _ _ _ _ es i _ _ less c.request-request.ensures step.pool c.pool-pool.ensures step.world step.lone step.seen)
    c.loop-index.invariant c.in_err-observation.ensures.err)

pub loop-index-preserved : goal.loop-index-preserved
loop-index-preserved g c =
    let es = c.args.script.now.events in
    let i = c.loop-index.index in
    let less : i < length es = search rules in
    let step = c.follow-seen.ensures in
    sent_next _ _ _ _ _ _ _ _ _ (seen_next _ _ _ _ _ _ _ es i _ _ less c.request-request.ensures step.pool c.pool-pool.ensures step.world step.lone step.seen)
    c.loop-index.invariant c.in_ok-observation.ensures.ok
