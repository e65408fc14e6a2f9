-- The function whose register is written is the one of its pool, and the messages are to it.
use Rattle.std.proofs.Common.{◌∙◌, ap, arith}
use Rattle.wire_frame.specs.Fault.{number_of}
use Rattle.device.specs.declared.event.Event.TheVariants.{VfWrite}
use Rattle.device.specs.declared.event.Reply.TheVariants.{Done, Refused}
use Rattle.device.specs.Outcome.{done_or_refused, issued, messages_or_refused}
use Rattle.device.proofs.Called.{own_world, own_answer, own_silent, own_kept, own_sizes}
use Rattle.device.proofs.device.Device.vf_write.Goals as goal
use Rattle.device.proofs.device.Device.vf_write.Goals.{in-Ok, in-Err}

pub returns-clause-world : goal.returns-clause-world
returns-clause-world g c = own_world (record { profile = c.self.inside.profile; settings = c.self.inside.tables.value; resets = c.self.inside.resets; wire = c.self.inside.wire.frames; unclaimed = c.self.inside.unclaimed }) c.self.inside.units.items c.args.self.now c.from-index.result c.args.pool c.index_mut.result.now c.vf_write.new.unit (VfWrite c.args.pool c.args.offset c.args.value) c.self.view_is (record { place = c.from-index.ensures; below = omega (arith, c.if-index-len.false, c.len.ensures); is = c.index_mut.ensures.value }) (c.vf_write.ensures.function c.args.pool)

pub returns-clause-answer : goal.returns-clause-answer
returns-clause-answer g c =
    elim c.match-vf_write.branch [
      | in-Ok w ↦
          ap messages_or_refused w.result-is ∙ ap (λ ms. record { reply = Done; raised = ms }) w.messages_to.ensures
          ∙ own_answer (record { profile = c.self.inside.profile; settings = c.self.inside.tables.value; resets = c.self.inside.resets; wire = c.self.inside.wire.frames; unclaimed = c.self.inside.unclaimed }) c.self.inside.units.items c.args.self.now c.from-index.result c.args.pool c.index_mut.result.now (VfWrite c.args.pool c.args.offset c.args.value) Done w.in-Ok.vectors c.self.view_is (record { place = c.from-index.ensures; below = omega (arith, c.if-index-len.false, c.len.ensures); is = c.index_mut.ensures.value }) (c.vf_write.ensures.reply c.args.pool ∙ ap done_or_refused w.in-Ok.is) (c.vf_write.ensures.messages c.args.pool ∙ ap issued w.in-Ok.is)
      | in-Err w ↦
          ap messages_or_refused w.result-is
          ∙ own_silent (record { profile = c.self.inside.profile; settings = c.self.inside.tables.value; resets = c.self.inside.resets; wire = c.self.inside.wire.frames; unclaimed = c.self.inside.unclaimed }) c.self.inside.units.items c.args.self.now c.from-index.result c.args.pool c.index_mut.result.now (VfWrite c.args.pool c.args.offset c.args.value) (Refused (number_of w.in-Err.fault)) c.self.view_is (record { place = c.from-index.ensures; below = omega (arith, c.if-index-len.false, c.len.ensures); is = c.index_mut.ensures.value }) (c.vf_write.ensures.reply c.args.pool ∙ ap done_or_refused w.in-Err.is) (c.vf_write.ensures.messages c.args.pool ∙ ap issued w.in-Err.is)
    ]

pub returns-clause-accesses : goal.returns-clause-accesses
returns-clause-accesses g c = own_kept (record { profile = c.self.inside.profile; settings = c.self.inside.tables.value; resets = c.self.inside.resets; wire = c.self.inside.wire.frames; unclaimed = c.self.inside.unclaimed }) c.self.inside.units.items c.args.self.now c.from-index.result c.args.pool c.index_mut.result.now c.vf_write.new.unit c.self.view_is (record { place = c.from-index.ensures; below = omega (arith, c.if-index-len.false, c.len.ensures); is = c.index_mut.ensures.value }) c.vf_write.ensures.accesses

pub returns-clause-sizes : goal.returns-clause-sizes
returns-clause-sizes g c = own_sizes (record { profile = c.self.inside.profile; settings = c.self.inside.tables.value; resets = c.self.inside.resets; wire = c.self.inside.wire.frames; unclaimed = c.self.inside.unclaimed }) c.self.inside.units.items c.args.self.now c.from-index.result c.args.pool c.index_mut.result.now c.vf_write.new.unit c.self.view_is (record { place = c.from-index.ensures; below = omega (arith, c.if-index-len.false, c.len.ensures); is = c.index_mut.ensures.value }) c.vf_write.ensures.size
