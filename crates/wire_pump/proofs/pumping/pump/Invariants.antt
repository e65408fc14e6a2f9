-- The frames that were received are those that the door took, in their order, and their boxes went back; what the
-- door knew of before stands first, and it is the door of the same line.
use Rattle.std.proofs.Common.{◌≡◌, ℕ, List, ◌++◌, map}
use Rattle.device.specs.declared.event.Event.TheVariants.{Wire}
use Rattle.wire_pump.specs.declared.message.WireMsg.TheVariants.{Frame}
use Rattle.wire_pump.specs.Doors.{StandFirst}
use Rattle.wire_pump.specs.Ends.{HasReceived, HasGivenBack}
use Rattle.wire_pump.proofs.pumping.pump.Given as goal

abbrev pub invariant-loop : goal.invariant-loop
invariant-loop g l = ((frames : List (List ℕ))
    × (g.D.Door.taken l.door ≡ g.D.Door.taken l.initial.door ++ map Wire frames)
    × HasReceived (map Frame frames) l.initial.receiver l.receiver
    × HasGivenBack (map Frame frames) l.initial.receiver l.receiver)
    × StandFirst (g.D.Door.calls l.initial.door) (g.D.Door.calls l.door)
    × (g.D.Door.line l.door ≡ g.D.Door.line l.initial.door)
