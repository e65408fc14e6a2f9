-- The function that is closed is the one of its pool.
use Rattle.std.proofs.Common.{arith}
use Rattle.device.specs.declared.event.Event.TheVariants.{End}
use Rattle.device.specs.Outcome.{done_or_refused}
use Rattle.device.proofs.Called.{own_world, own_silent, own_kept, own_sizes}
use Rattle.device.proofs.device.Device.end.Goals as goal

pub returns-clause-world : goal.returns-clause-world
returns-clause-world g c = own_world (record { profile = c.self.inside.profile; settings = c.self.inside.tables.value; resets = c.self.inside.resets; wire = c.self.inside.wire.frames; unclaimed = c.self.inside.unclaimed }) c.self.inside.units.items c.args.self.now c.from-index.result c.args.pool c.index_mut.result.now c.end.new.unit (End c.args.pool) c.self.view_is (record { place = c.from-index.ensures; below = omega (arith, c.if-index-len.false, c.len.ensures); is = c.index_mut.ensures.value }) (c.end.ensures.function c.args.pool)

pub returns-clause-answer : goal.returns-clause-answer
returns-clause-answer g c = own_silent (record { profile = c.self.inside.profile; settings = c.self.inside.tables.value; resets = c.self.inside.resets; wire = c.self.inside.wire.frames; unclaimed = c.self.inside.unclaimed }) c.self.inside.units.items c.args.self.now c.from-index.result c.args.pool c.index_mut.result.now (End c.args.pool) (done_or_refused c.end.result) c.self.view_is (record { place = c.from-index.ensures; below = omega (arith, c.if-index-len.false, c.len.ensures); is = c.index_mut.ensures.value }) (c.end.ensures.reply c.args.pool) (c.end.ensures.silent c.args.pool)

pub returns-clause-accesses : goal.returns-clause-accesses
returns-clause-accesses g c = own_kept (record { profile = c.self.inside.profile; settings = c.self.inside.tables.value; resets = c.self.inside.resets; wire = c.self.inside.wire.frames; unclaimed = c.self.inside.unclaimed }) c.self.inside.units.items c.args.self.now c.from-index.result c.args.pool c.index_mut.result.now c.end.new.unit c.self.view_is (record { place = c.from-index.ensures; below = omega (arith, c.if-index-len.false, c.len.ensures); is = c.index_mut.ensures.value }) c.end.ensures.accesses

pub returns-clause-sizes : goal.returns-clause-sizes
returns-clause-sizes g c = own_sizes (record { profile = c.self.inside.profile; settings = c.self.inside.tables.value; resets = c.self.inside.resets; wire = c.self.inside.wire.frames; unclaimed = c.self.inside.unclaimed }) c.self.inside.units.items c.args.self.now c.from-index.result c.args.pool c.index_mut.result.now c.end.new.unit c.self.view_is (record { place = c.from-index.ensures; below = omega (arith, c.if-index-len.false, c.len.ensures); is = c.index_mut.ensures.value }) c.end.ensures.size
