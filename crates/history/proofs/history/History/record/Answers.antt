-- An event that brings bytes reads none, whatever the memories hold.
use Rattle.std.proofs.Common.{ap}
use Rattle.device.specs.declared.event.Answer.{Answer}
use Rattle.device.specs.Live.{told_world}
use Rattle.device.specs.Request.{event_of}
use Rattle.history.proofs.BroughtLemmas.{brought_alone}
use Rattle.history.proofs.history.History.record.Goals as goal

pub push-requires : goal.push-requires
push-requires g c = record {
  room = c.requires;
  alone = brought_alone (told_world c.args.device.now.accesses c.take_live-response.new.self.accesses c.args.device.now.world) (event_of c.args.request) c.take_live-response.new.room.bytes c.take_live-response.result.outcome
      (ap (λ (a : Answer). a.reply) c.take_live-response.ensures.takes.takes.answer);
}
