-- Each turn of the loop finds one more place.
use Rattle.std.proofs.Common.{rules}
use Rattle.device.specs.Request.{event_of}
use Rattle.workers.specs.Plans.{planned}
use Rattle.workers.proofs.Places.{begun, found_more}
use Rattle.workers.proofs.plan.turns_of.Goals as goal

pub loop-place-init : goal.loop-place-init
loop-place-init c = begun (planned c.args.script.now c.args.ports.now) c.start_of-place.result c.in_ok-turns.turns.items c.start_of-place.ensures.start c.in_ok-turns.ensures

pub loop-place-preserved : goal.loop-place-preserved
loop-place-preserved c =
    found_more (planned c.args.script.now c.args.ports.now) c.loop-place.place c.number.result c.caller_of-caller.result (event_of c.request.result) c.loop-place.turns.items _ (search rules) c.request.ensures
    c.caller_of-caller.ensures c.number.ensures.below c.number.ensures.back c.in_ok-add_turn.ensures c.loop-place.invariant
