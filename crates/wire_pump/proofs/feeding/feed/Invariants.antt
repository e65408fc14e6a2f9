-- The frames so far were sent, in their order.
use Rattle.std.proofs.Common.{take, map}
use Rattle.wire_pump.specs.declared.message.WireMsg.TheVariants.{Frame}
use Rattle.wire_pump.specs.Ends.{HasSent}
use Rattle.wire_pump.proofs.feeding.feed.Given as goal

abbrev pub invariant-loop-sent : goal.invariant-loop-sent
invariant-loop-sent g l = HasSent (map Frame (take l.sent l.frames)) l.initial.sender l.sender
