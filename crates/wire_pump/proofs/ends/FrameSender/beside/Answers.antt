-- What both ends say of the boxes may be put together.
use Rattle.wire_pump.specs.Ends.{hand_of}
use Rattle.wire_pump.proofs.Moves.{all_boxes}
use Rattle.wire_pump.proofs.ends.FrameSender.beside.Goals as goal

pub returns-clause-boxes : goal.returns-clause-boxes
returns-clause-boxes c =
    let forth = c.compare_forth-pass.ensures in
    let back = c.compare_back-back_pass.ensures in (
      forth.beginning.0,
      back.beginning.0,
      forth.beginning.1,
      back.beginning.1,
      all_boxes _ (hand_of c.self.inside.pass) (hand_of c.compare_forth-pass.new.pass) (hand_of c.compare_forth-pass.result) (hand_of c.self.inside.used_pass) (hand_of c.compare_back-back_pass.new.used_pass) (hand_of c.compare_back-back_pass.result) forth.beginning.0 back.beginning.0 forth.same.0 back.same.0 forth.beginning.1 back.beginning.1 c.self.invariant.6,
    )
