-- What came so far are the frames that end at the first ends.
use Rattle.std.proofs.Common.{◌≤◌, length, take}
use Rattle.live_run.proofs.WireSteps.{WireSoFar}
use Rattle.live_run.proofs.wire_bursts.wire_burst.Given as goal

abbrev pub invariant-loop-end : goal.invariant-loop-end
invariant-loop-end g l = record {
  burst : WireSoFar g.D.Dma.shared l.fn.device (take l.end-index l.ends) l.bytes l.device l.start l.messages l.taken;
  few : l.taken ≤ l.end-index;
  within : l.end-index ≤ length l.ends;
}
