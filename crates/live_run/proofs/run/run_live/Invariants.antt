-- What was answered so far, and the device, are those of the events so far.
use Rattle.std.proofs.Common.{◌≡◌, ◌≤◌, length, take, vec_len, vec_capacity}
use Rattle.live_run.proofs.More.{SoFar}
use Rattle.live_run.proofs.run.run_live.Given as goal

abbrev pub invariant-loop-event : goal.invariant-loop-event
invariant-loop-event g l = record {
  run : SoFar g.D.Dma.shared l.fn.device (take l.event-index l.events) l.answers.items l.device;
  answered : vec_len l.answers ≡ l.event-index;
  within : l.event-index ≤ length l.events;
  room : length l.events ≤ vec_capacity l.answers;
}
