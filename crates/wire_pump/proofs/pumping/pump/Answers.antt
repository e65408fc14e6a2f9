-- Each turn gives the door the frame that it received, and its box back.
use Rattle.std.proofs.Common.{rules, ◌++◌, ◌∷◌, []}
use Rattle.std.specs.Box.{box_value}
use Rattle.device.specs.declared.event.Event.TheVariants.{Wire}
use Rattle.wire_pump.specs.Ends.{HasReceived, HasGivenBack}
use Rattle.wire_pump.proofs.Moves.{one_more}
use Rattle.wire_pump.proofs.Taken.{stand_first_then, received_more, given_more, frames_more}
use Rattle.wire_pump.proofs.pumping.pump.Goals as goal

-- the frame that the door took is one more
pub loop-preserved : goal.loop-preserved
loop-preserved g c =
    let before = c.loop.invariant.0 in
    let frame = box_value c.in-Some-frame.frame in (
      (
        before.0 ++ frame ∷ [],
        search (rules, one_more Wire _ _ before.0 frame before.1),
        frames_more (λ ms. HasReceived ms c.args.receiver.now c.put_back-in-loop.new.self) before.0 frame (received_more c.args.receiver.now c.loop.receiver c.next-in-loop.new.self c.put_back-in-loop.new.self before.0 c.in-Some-next.message frame before.2 (search rules) (search rules) (search rules)),
        frames_more (λ ms. HasGivenBack ms c.args.receiver.now c.put_back-in-loop.new.self) before.0 frame (given_more c.args.receiver.now c.loop.receiver c.next-in-loop.new.self c.put_back-in-loop.new.self before.0 c.in-Some-next.message frame before.3 (search rules) (search rules)),
      ),
      stand_first_then _ _ _ c.loop.invariant.1 (search rules),
      search rules,
    )
