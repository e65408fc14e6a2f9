-- The bytes that it reads are those of the pool's function.
use Rattle.std.proofs.Common.{arith, length}
use Rattle.device.specs.declared.event.Event.TheVariants.{MemRead}
use Rattle.device.specs.Outcome.{bytes_or_refused}
use Rattle.device.proofs.Called.{own_silent}
use Rattle.device.proofs.calls.Device+M.mem_read.Goals as goal

pub returns-clause-answer : goal.returns-clause-answer
returns-clause-answer g c =
    own_silent (record { profile = c.self.inside.profile; settings = c.self.inside.tables.value; resets = c.self.inside.resets; wire = c.self.inside.wire.frames; unclaimed = c.self.inside.unclaimed }) c.self.inside.units.items c.args.self.now c.from-index.result c.args.pool c.index.result.now (MemRead c.args.pool c.args.at (length c.args.out.now)) (bytes_or_refused c.mem_read.result c.mem_read.new.out) c.self.view_is (record { place = c.from-index.ensures; below = omega (arith, c.if-index-len.false, c.len.ensures); is = c.index.ensures }) (c.mem_read.ensures.reply c.args.pool) (c.mem_read.ensures.silent c.args.pool)
