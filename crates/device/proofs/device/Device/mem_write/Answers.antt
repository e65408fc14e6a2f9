-- The function whose memory is written is the one of its pool, and the write is the only access.
use Rattle.std.proofs.Common.{◌≤◌, arith, ap, length, refl, sym}
use Rattle.device.specs.declared.event.Event.TheVariants.{MemWrite}
use Rattle.device.specs.Act.{act_accesses}
use Rattle.device.specs.Outcome.{done_or_refused}
use Rattle.vf_unit.proofs.Told.{met_stored}
use Rattle.device.proofs.LiveLemmas.{untouched}
use Rattle.device.proofs.Called.{own_world, own_silent, own_met, own_absent, unread_listed, unread_absent, own_sizes}
use Rattle.device.proofs.Views.{lengths}
use Rattle.device.specs.Live.{TracedWorld}
use Rattle.device.specs.World.{Stepped}
use Rattle.device.proofs.device.Device.mem_write.Goals as goal
use Rattle.device.proofs.device.Device.mem_write.Given as given

absent : (g : given.Over) (c : goal.Then-index-len g) → length c.args.self.now.world.functions ≤ c.args.pool
absent g c = let few = ap (λ (t : TracedWorld). length t.world.functions) c.self.view_is in omega (arith, few, lengths c.self.inside.units.items, c.len.ensures, c.from-index.ensures, c.if-index-len.true)

pub returns-then-index-len-clause-world : goal.returns-then-index-len-clause-world
returns-then-index-len-clause-world g c = sym (ap (λ (s : Stepped). s.world) (own_absent c.args.self.now.world c.args.pool (MemWrite c.args.pool c.args.at c.args.written.bytes.now) (absent g c)))

pub returns-then-index-len-clause-answer : goal.returns-then-index-len-clause-answer
returns-then-index-len-clause-answer g c = sym (ap (λ (s : Stepped). s.answer) (own_absent c.args.self.now.world c.args.pool (MemWrite c.args.pool c.args.at c.args.written.bytes.now) (absent g c)))

pub returns-then-index-len-clause-met : goal.returns-then-index-len-clause-met
returns-then-index-len-clause-met g c = untouched g.D.Dma.shared c.args.self.now.accesses c.args.self.now.world

pub returns-clause-world : goal.returns-clause-world
returns-clause-world g c = own_world (record { profile = c.self.inside.profile; settings = c.self.inside.tables.value; resets = c.self.inside.resets; wire = c.self.inside.wire.frames; unclaimed = c.self.inside.unclaimed }) c.self.inside.units.items c.args.self.now c.from-index.result c.args.pool c.index_mut.result.now c.mem_write.new.unit (MemWrite c.args.pool c.args.at c.args.written.bytes.now) c.self.view_is (record { place = c.from-index.ensures; below = omega (arith, c.if-index-len.false, c.len.ensures); is = c.index_mut.ensures.value }) (c.mem_write.ensures.function c.args.pool)

pub returns-clause-answer : goal.returns-clause-answer
returns-clause-answer g c = own_silent (record { profile = c.self.inside.profile; settings = c.self.inside.tables.value; resets = c.self.inside.resets; wire = c.self.inside.wire.frames; unclaimed = c.self.inside.unclaimed }) c.self.inside.units.items c.args.self.now c.from-index.result c.args.pool c.index_mut.result.now (MemWrite c.args.pool c.args.at c.args.written.bytes.now) (done_or_refused c.mem_write.result) c.self.view_is (record { place = c.from-index.ensures; below = omega (arith, c.if-index-len.false, c.len.ensures); is = c.index_mut.ensures.value }) (c.mem_write.ensures.reply c.args.pool) (c.mem_write.ensures.silent c.args.pool)

pub returns-then-index-len-clause-listed : goal.returns-then-index-len-clause-listed
returns-then-index-len-clause-listed g c = unread_absent c.args.self.now c.args.pool (λ f. act_accesses f (MemWrite c.args.pool c.args.at c.args.written.bytes.now)) (absent g c) refl

pub returns-clause-listed : goal.returns-clause-listed
returns-clause-listed g c = unread_listed (record { profile = c.self.inside.profile; settings = c.self.inside.tables.value; resets = c.self.inside.resets; wire = c.self.inside.wire.frames; unclaimed = c.self.inside.unclaimed }) c.self.inside.units.items c.args.self.now c.from-index.result c.args.pool c.index_mut.result.now c.mem_write.new.unit (λ f. act_accesses f (MemWrite c.args.pool c.args.at c.args.written.bytes.now)) c.self.view_is (record { place = c.from-index.ensures; below = omega (arith, c.if-index-len.false, c.len.ensures); is = c.index_mut.ensures.value }) (c.mem_write.ensures.listed c.args.pool)

pub returns-clause-met : goal.returns-clause-met
returns-clause-met g c = own_met g.D.Dma.shared (record { profile = c.self.inside.profile; settings = c.self.inside.tables.value; resets = c.self.inside.resets; wire = c.self.inside.wire.frames; unclaimed = c.self.inside.unclaimed }) c.self.inside.units.items c.args.self.now c.from-index.result c.args.pool c.index_mut.result.now c.mem_write.new.unit c.self.view_is (record { place = c.from-index.ensures; below = omega (arith, c.if-index-len.false, c.len.ensures); is = c.index_mut.ensures.value })
    (met_stored g.D.Dma.shared c.index_mut.result.now.function c.index_mut.result.now.accesses c.mem_write.new.unit.accesses c.args.at c.args.written.bytes.now (c.mem_write.ensures.listed c.args.pool))

pub returns-clause-sizes : goal.returns-clause-sizes
returns-clause-sizes g c = own_sizes (record { profile = c.self.inside.profile; settings = c.self.inside.tables.value; resets = c.self.inside.resets; wire = c.self.inside.wire.frames; unclaimed = c.self.inside.unclaimed }) c.self.inside.units.items c.args.self.now c.from-index.result c.args.pool c.index_mut.result.now c.mem_write.new.unit c.self.view_is (record { place = c.from-index.ensures; below = omega (arith, c.if-index-len.false, c.len.ensures); is = c.index_mut.ensures.value }) c.mem_write.ensures.size
