-- The ends of the ports of the pools so far are recorded.
use Rattle.std.proofs.Common.{◌≡◌, map, take}
use Rattle.device.specs.declared.event.Event.TheVariants.{End}
use Rattle.history.specs.declared.caller.Caller.TheVariants.{Service}
use Rattle.recorder.specs.Held.{HasAsked}
use Rattle.workers.proofs.running.record_ends.Given as goal

abbrev pub invariant-loop-pool : goal.invariant-loop-pool
invariant-loop-pool g l = record {
  asked : HasAsked (map End (take l.pool-index l.pools)) l.fn.share l.share;
  caller : l.share.caller ≡ Service;
}
