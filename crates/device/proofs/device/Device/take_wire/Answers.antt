-- A frame from the wire.
use Rattle.std.proofs.Common.{Some, None, Bool, sym, ap, ◌∙◌}
use Rattle.std.specs.Prelude.{if◌then◌else◌}
use Rattle.device.proofs.LiveLemmas.{sizes_told}
use Rattle.device.proofs.device.Device.take_wire.Goals as goal

pub returns-clause-takes : goal.returns-clause-takes
returns-clause-takes g c = λ room. record {
  takes = record {
    world = c.wire_live.ensures.world;
    answer = c.issued.ensures.answer room ∙ c.wire_live.ensures.answer;
    sent = ap (λ (b : Bool). if b then Some room.frame else None) c.issued.ensures.unsent;
    left = ap (λ (b : Bool). if b then Some room.frame else None) c.issued.ensures.left;
    sizes = c.wire_live.ensures.sizes ∙ sym (sizes_told g.D.Dma.shared c.args.self.now.accesses c.wire_live.new.self.accesses c.args.self.now.world c.wire_live.ensures.met);
  };
  met = c.wire_live.ensures.met;
}
