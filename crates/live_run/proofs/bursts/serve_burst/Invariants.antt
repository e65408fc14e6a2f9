-- What was served so far is that many services.
use Rattle.std.proofs.Common.{◌-◌, ◌≤◌}
use Rattle.live_run.specs.Bursts.{services}
use Rattle.live_run.proofs.BurstSteps.{BurstSoFar}
use Rattle.live_run.proofs.bursts.serve_burst.Given as goal

abbrev pub invariant-loop-goes_on : goal.invariant-loop-goes_on
invariant-loop-goes_on g l = record {
  burst : BurstSoFar g.D.Dma.shared l.fn.device l.fn.frames (services l.taken l.pool l.queue) l.device l.frames l.messages l.goes_on;
  most : l.taken ≤ l.most;
}

abbrev pub decreases-loop-goes_on : goal.decreases-loop-goes_on
decreases-loop-goes_on g l = l.most - l.taken
