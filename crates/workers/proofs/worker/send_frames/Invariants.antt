-- The frames so far are sent.
use Rattle.std.proofs.Common.{◌≡◌, ◌++◌, take, map}
use Rattle.history.specs.declared.caller.Caller.TheVariants.{Pump}
use Rattle.wire_pump.specs.declared.message.WireMsg.TheVariants.{Frame}
use Rattle.workers.specs.Frames.{frames_of}
use Rattle.workers.specs.Plans.{own_events}
use Rattle.workers.proofs.worker.send_frames.Given as goal

abbrev pub invariant-loop-sent : goal.invariant-loop-sent
invariant-loop-sent g l = record {
  channel : l.sender.channel ≡ l.fn.sender.channel;
  capacity : l.sender.capacity ≡ l.fn.sender.capacity;
  sent : l.sender.sent ≡ l.fn.sender.sent ++ map Frame (take l.sent (frames_of (own_events l.plan Pump)));
}
