-- A read of a function's memory into the caller's bytes, by what it answers, in the device's world.
use Rattle.std.proofs.Common.{◌≤◌, length, arith, refl, sym, ap, subst, ◌∙◌}
use Rattle.device.specs.declared.event.Event.TheVariants.{MemRead}
use Rattle.device.specs.Act.{act_accesses}
use Rattle.device.specs.Outcome.{bytes_or_refused}
use Rattle.device.specs.World.{World, Stepped, own_step}
use Rattle.device.specs.Live.{TracedWorld}
use Rattle.device.proofs.LiveLemmas.{untouched, told_world_none}
use Rattle.device.proofs.Loads.{absent_step, closed_listed}
use Rattle.device.proofs.Views.{lengths}
use Rattle.device.proofs.Called.{own_met, own_sizes, own_listed, read_world, read_answer, absent_listed}
use Rattle.device.proofs.device.Device.mem_read_live.Goals as goal
use Rattle.device.proofs.device.Device.mem_read_live.Given as given

-- ---- the function isn't there

abbrev past : (g : given.Over) (c : goal.Then-index-len g) → length c.args.self.now.world.functions ≤ c.args.pool
past g c = subst (λ (d : TracedWorld). length d.world.functions ≤ c.args.pool) c.self.view_is (omega (arith, c.if-index-len.true, c.len.ensures, c.from-index.ensures, lengths c.self.inside.units.items))

pub returns-then-index-len-clause-world : goal.returns-then-index-len-clause-world
returns-then-index-len-clause-world g c =
    sym (ap (λ (w : World). (own_step w c.args.pool (MemRead c.args.pool c.args.at (length c.args.out.now))).world) (told_world_none c.args.self.now.accesses c.args.self.now.accesses c.args.self.now.world (λ r. refl)) ∙ ap (λ (s : Stepped). s.world) (absent_step c.args.self.now.world c.args.pool (MemRead c.args.pool c.args.at (length c.args.out.now)) (past g c)))

pub returns-then-index-len-clause-answer : goal.returns-then-index-len-clause-answer
returns-then-index-len-clause-answer g c =
    sym (ap (λ (w : World). (own_step w c.args.pool (MemRead c.args.pool c.args.at (length c.args.out.now))).answer) (told_world_none c.args.self.now.accesses c.args.self.now.accesses c.args.self.now.world (λ r. refl)) ∙ ap (λ (s : Stepped). s.answer) (absent_step c.args.self.now.world c.args.pool (MemRead c.args.pool c.args.at (length c.args.out.now)) (past g c)))

pub returns-then-index-len-clause-met : goal.returns-then-index-len-clause-met
returns-then-index-len-clause-met g c = untouched g.D.Dma.shared c.args.self.now.accesses c.args.self.now.world

pub returns-then-index-len-clause-listed : goal.returns-then-index-len-clause-listed
returns-then-index-len-clause-listed g c = absent_listed c.args.self.now c.args.pool (λ p f. act_accesses f (MemRead c.args.pool c.args.at (length c.args.out.now))) (past g c) (closed_listed 0 c.args.pool c.args.at (length c.args.out.now))

-- ---- it is there

pub returns-clause-world : goal.returns-clause-world
returns-clause-world g c = read_world (record { profile = c.self.inside.profile; settings = c.self.inside.tables.value; resets = c.self.inside.resets; wire = c.self.inside.wire.frames; unclaimed = c.self.inside.unclaimed }) c.self.inside.units.items c.args.self.now c.from-index.result c.args.pool c.index_mut.result.now c.mem_read_live.new.unit (MemRead c.args.pool c.args.at (length c.args.out.now)) c.self.view_is (record { place = c.from-index.ensures; below = omega (arith, c.if-index-len.false, c.len.ensures); is = c.index_mut.ensures.value }) (c.mem_read_live.ensures.function c.args.pool)

pub returns-clause-answer : goal.returns-clause-answer
returns-clause-answer g c = read_answer (record { profile = c.self.inside.profile; settings = c.self.inside.tables.value; resets = c.self.inside.resets; wire = c.self.inside.wire.frames; unclaimed = c.self.inside.unclaimed }) c.self.inside.units.items c.args.self.now c.from-index.result c.args.pool c.index_mut.result.now c.mem_read_live.new.unit (MemRead c.args.pool c.args.at (length c.args.out.now)) (bytes_or_refused c.mem_read_live.result c.mem_read_live.new.out) c.self.view_is (record { place = c.from-index.ensures; below = omega (arith, c.if-index-len.false, c.len.ensures); is = c.index_mut.ensures.value }) (c.mem_read_live.ensures.reply c.args.pool) (c.mem_read_live.ensures.silent c.args.pool)

pub returns-clause-met : goal.returns-clause-met
returns-clause-met g c = own_met g.D.Dma.shared (record { profile = c.self.inside.profile; settings = c.self.inside.tables.value; resets = c.self.inside.resets; wire = c.self.inside.wire.frames; unclaimed = c.self.inside.unclaimed }) c.self.inside.units.items c.args.self.now c.from-index.result c.args.pool c.index_mut.result.now c.mem_read_live.new.unit c.self.view_is (record { place = c.from-index.ensures; below = omega (arith, c.if-index-len.false, c.len.ensures); is = c.index_mut.ensures.value }) c.mem_read_live.ensures.met

pub returns-clause-listed : goal.returns-clause-listed
returns-clause-listed g c = own_listed (record { profile = c.self.inside.profile; settings = c.self.inside.tables.value; resets = c.self.inside.resets; wire = c.self.inside.wire.frames; unclaimed = c.self.inside.unclaimed }) c.self.inside.units.items c.args.self.now c.from-index.result c.args.pool c.index_mut.result.now c.mem_read_live.new.unit (λ p f. act_accesses f (MemRead c.args.pool c.args.at (length c.args.out.now))) c.self.view_is (record { place = c.from-index.ensures; below = omega (arith, c.if-index-len.false, c.len.ensures); is = c.index_mut.ensures.value }) (c.mem_read_live.ensures.listed c.args.pool)

pub returns-clause-sizes : goal.returns-clause-sizes
returns-clause-sizes g c = own_sizes (record { profile = c.self.inside.profile; settings = c.self.inside.tables.value; resets = c.self.inside.resets; wire = c.self.inside.wire.frames; unclaimed = c.self.inside.unclaimed }) c.self.inside.units.items c.args.self.now c.from-index.result c.args.pool c.index_mut.result.now c.mem_read_live.new.unit c.self.view_is (record { place = c.from-index.ensures; below = omega (arith, c.if-index-len.false, c.len.ensures); is = c.index_mut.ensures.value }) c.mem_read_live.ensures.size
