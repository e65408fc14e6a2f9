-- The function that is opened is the one of its pool, and zero is written over its memory alone.
use Rattle.std.proofs.Common.{arith, length, refl, ap}
use Rattle.device.specs.declared.event.Event.TheVariants.{Open}
use Rattle.device.specs.Outcome.{done_or_refused}
use Rattle.device.specs.Act.{act_accesses}
use Rattle.device.proofs.LiveLemmas.{untouched}
use Rattle.device.proofs.Called.{own_world, own_silent, own_met, unread_listed, unread_absent, own_sizes}
use Rattle.device.proofs.Views.{lengths}
use Rattle.device.specs.Live.{TracedWorld}
use Rattle.device.proofs.Written.{met_opening}
use Rattle.device.proofs.device.Device.open.Goals as goal

pub returns-clause-world : goal.returns-clause-world
returns-clause-world g c = own_world (record { profile = c.self.inside.profile; settings = c.self.inside.tables.value; resets = c.self.inside.resets; wire = c.self.inside.wire.frames; unclaimed = c.self.inside.unclaimed }) c.self.inside.units.items c.args.self.now c.from-index.result c.args.pool c.index_mut.result.now c.open.new.unit (Open c.args.pool) c.self.view_is (record { place = c.from-index.ensures; below = omega (arith, c.if-index-len.false, c.len.ensures); is = c.index_mut.ensures.value }) (c.open.ensures.function c.args.pool)

pub returns-clause-answer : goal.returns-clause-answer
returns-clause-answer g c = own_silent (record { profile = c.self.inside.profile; settings = c.self.inside.tables.value; resets = c.self.inside.resets; wire = c.self.inside.wire.frames; unclaimed = c.self.inside.unclaimed }) c.self.inside.units.items c.args.self.now c.from-index.result c.args.pool c.index_mut.result.now (Open c.args.pool) (done_or_refused c.open.result) c.self.view_is (record { place = c.from-index.ensures; below = omega (arith, c.if-index-len.false, c.len.ensures); is = c.index_mut.ensures.value }) (c.open.ensures.reply c.args.pool) (c.open.ensures.silent c.args.pool)

pub returns-then-index-len-clause-met : goal.returns-then-index-len-clause-met
returns-then-index-len-clause-met g c = untouched g.D.Dma.shared c.args.self.now.accesses c.args.self.now.world

pub returns-then-index-len-clause-listed : goal.returns-then-index-len-clause-listed
returns-then-index-len-clause-listed g c = unread_absent c.args.self.now c.args.pool (λ f. act_accesses f (Open c.args.pool)) (let few = ap (λ (t : TracedWorld). length t.world.functions) c.self.view_is in omega (arith, few, lengths c.self.inside.units.items, c.len.ensures, c.from-index.ensures, c.if-index-len.true)) refl

pub returns-clause-listed : goal.returns-clause-listed
returns-clause-listed g c = unread_listed (record { profile = c.self.inside.profile; settings = c.self.inside.tables.value; resets = c.self.inside.resets; wire = c.self.inside.wire.frames; unclaimed = c.self.inside.unclaimed }) c.self.inside.units.items c.args.self.now c.from-index.result c.args.pool c.index_mut.result.now c.open.new.unit (λ f. act_accesses f (Open c.args.pool)) c.self.view_is (record { place = c.from-index.ensures; below = omega (arith, c.if-index-len.false, c.len.ensures); is = c.index_mut.ensures.value }) (c.open.ensures.listed c.args.pool)

pub returns-clause-met : goal.returns-clause-met
returns-clause-met g c = own_met g.D.Dma.shared (record { profile = c.self.inside.profile; settings = c.self.inside.tables.value; resets = c.self.inside.resets; wire = c.self.inside.wire.frames; unclaimed = c.self.inside.unclaimed }) c.self.inside.units.items c.args.self.now c.from-index.result c.args.pool c.index_mut.result.now c.open.new.unit c.self.view_is (record { place = c.from-index.ensures; below = omega (arith, c.if-index-len.false, c.len.ensures); is = c.index_mut.ensures.value })
    (met_opening g.D.Dma.shared c.index_mut.result.now.function c.args.pool c.index_mut.result.now.accesses c.open.new.unit.accesses (c.open.ensures.listed c.args.pool))

pub returns-clause-sizes : goal.returns-clause-sizes
returns-clause-sizes g c = own_sizes (record { profile = c.self.inside.profile; settings = c.self.inside.tables.value; resets = c.self.inside.resets; wire = c.self.inside.wire.frames; unclaimed = c.self.inside.unclaimed }) c.self.inside.units.items c.args.self.now c.from-index.result c.args.pool c.index_mut.result.now c.open.new.unit c.self.view_is (record { place = c.from-index.ensures; below = omega (arith, c.if-index-len.false, c.len.ensures); is = c.index_mut.ensures.value }) c.open.ensures.size
