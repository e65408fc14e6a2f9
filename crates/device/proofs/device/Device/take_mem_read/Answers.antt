-- A read of a memory, into the room.
use Rattle.std.proofs.Common.{Some, None, Bool, sym, ap, ◌∙◌}
use Rattle.std.specs.Prelude.{if◌then◌else◌}
use Rattle.device.specs.Outcome.{Outcome, reply_of}
use Rattle.device.specs.Replies.{is_sent}
use Rattle.device.proofs.LiveLemmas.{sizes_told}
use Rattle.device.proofs.device.Device.take_mem_read.Goals as goal

pub returns-clause-takes : goal.returns-clause-takes
returns-clause-takes g c = record {
  takes = record {
    world = c.load.ensures.world;
    answer = (λ i. record { reply = reply_of c.load.new.cells (c.silent.ensures.outcome i); raised = c.silent.ensures.messages i }) ∙ c.load.ensures.answer;
    sent = ap (λ (b : Bool). if b then Some c.args.room.now.frame else None) (ap (λ (o : Outcome). is_sent o) c.silent.ensures.outcome ∙ c.load.ensures.unsent);
    left = ap (λ (b : Bool). if b then Some c.args.room.now.frame else None) c.silent.ensures.left;
    sizes = c.load.ensures.sizes ∙ sym (sizes_told g.D.Dma.shared c.args.self.now.accesses c.load.new.self.accesses c.args.self.now.world c.load.ensures.met);
  };
  met = c.load.ensures.met;
}
