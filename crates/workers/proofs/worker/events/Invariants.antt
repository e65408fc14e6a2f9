-- The events so far were asked.
use Rattle.std.proofs.Common.{◌≡◌, false, take}
use Rattle.std.specs.Arc.{arc_value}
use Rattle.recorder.specs.Held.{HasAsked}
use Rattle.workers.specs.Callers.{is_port}
use Rattle.workers.specs.Plans.{own_events}
use Rattle.workers.proofs.worker.events.Given as goal

abbrev pub invariant-loop-turn : goal.invariant-loop-turn
invariant-loop-turn g l = record {
  asked : HasAsked (take l.turn (own_events (arc_value l.context.plan) l.caller)) l.fn.share l.share;
  caller : l.fn.share.caller ≡ l.caller;
  same : l.share.caller ≡ l.caller;
  other : is_port l.caller ≡ false;
}
