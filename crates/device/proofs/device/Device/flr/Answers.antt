-- The function that is reset is the one of its pool, and PFVFLRE shows it where it was done.
use Rattle.std.proofs.Common.{rules, ◌≡◌, ◌∙◌, ◌<◌, ◌*◌, ◌%◌, ◌^◌, ap, sym, arith}
use Rattle.std.specs.Prelude.{bit_or}
use Rattle.device.specs.Outcome.{done_or_refused}
use Rattle.device.proofs.Called.{own_kept, own_sizes, reset_done, reset_refused, reset_answer, is_done_of}
use Rattle.device.proofs.device.Device.flr.Goals as goal

pub returns-then-is_ok-clause-world : goal.returns-then-is_ok-clause-world
returns-then-is_ok-clause-world g c =
    let below : c.args.pool < 64 = omega (arith, c.if-index-len.false, c.len.ensures, c.from-index.ensures, c.self.invariant.0) in
    let bit : 1 * 2 ^ c.args.pool % 18446744073709551616 ≡ 2 ^ c.args.pool = search rules in
    reset_done (record { profile = c.self.inside.profile; settings = c.self.inside.tables.value; resets = c.self.inside.resets; wire = c.self.inside.wire.frames; unclaimed = c.self.inside.unclaimed }) c.self.inside.units.items c.args.self.now c.from-index.result c.args.pool _ c.index_mut.result.now c.flr-done.new.unit (done_or_refused c.flr-done.result) c.self.view_is (record { place = c.from-index.ensures; below = omega (arith, c.if-index-len.false, c.len.ensures); is = c.index_mut.ensures.value }) (c.flr-done.ensures.function c.args.pool) (c.flr-done.ensures.reply c.args.pool) (c.flr-done.ensures.silent c.args.pool)
    (is_done_of c.flr-done.result _ (sym c.is_ok.ensures.value ∙ c.if-is_ok.true)) (ap (bit_or c.self.inside.resets) bit)

pub returns-then-is_ok-clause-answer : goal.returns-then-is_ok-clause-answer
returns-then-is_ok-clause-answer g c = reset_answer (record { profile = c.self.inside.profile; settings = c.self.inside.tables.value; resets = c.self.inside.resets; wire = c.self.inside.wire.frames; unclaimed = c.self.inside.unclaimed }) c.self.inside.units.items c.args.self.now c.from-index.result c.args.pool c.index_mut.result.now (done_or_refused c.flr-done.result) c.self.view_is (record { place = c.from-index.ensures; below = omega (arith, c.if-index-len.false, c.len.ensures); is = c.index_mut.ensures.value }) (c.flr-done.ensures.reply c.args.pool) (c.flr-done.ensures.silent c.args.pool)

pub returns-then-is_ok-clause-accesses : goal.returns-then-is_ok-clause-accesses
returns-then-is_ok-clause-accesses g c = own_kept (record { profile = c.self.inside.profile; settings = c.self.inside.tables.value; resets = c.self.inside.resets; wire = c.self.inside.wire.frames; unclaimed = c.self.inside.unclaimed }) c.self.inside.units.items c.args.self.now c.from-index.result c.args.pool c.index_mut.result.now c.flr-done.new.unit c.self.view_is (record { place = c.from-index.ensures; below = omega (arith, c.if-index-len.false, c.len.ensures); is = c.index_mut.ensures.value }) c.flr-done.ensures.accesses

pub returns-then-is_ok-clause-sizes : goal.returns-then-is_ok-clause-sizes
returns-then-is_ok-clause-sizes g c = own_sizes (record { profile = c.self.inside.profile; settings = c.self.inside.tables.value; resets = c.self.inside.resets; wire = c.self.inside.wire.frames; unclaimed = c.self.inside.unclaimed }) c.self.inside.units.items c.args.self.now c.from-index.result c.args.pool c.index_mut.result.now c.flr-done.new.unit c.self.view_is (record { place = c.from-index.ensures; below = omega (arith, c.if-index-len.false, c.len.ensures); is = c.index_mut.ensures.value }) c.flr-done.ensures.size

pub returns-else-is_ok-clause-world : goal.returns-else-is_ok-clause-world
returns-else-is_ok-clause-world g c =
    reset_refused (record { profile = c.self.inside.profile; settings = c.self.inside.tables.value; resets = c.self.inside.resets; wire = c.self.inside.wire.frames; unclaimed = c.self.inside.unclaimed }) c.self.inside.units.items c.args.self.now c.from-index.result c.args.pool c.index_mut.result.now c.flr-done.new.unit (done_or_refused c.flr-done.result) c.self.view_is (record { place = c.from-index.ensures; below = omega (arith, c.if-index-len.false, c.len.ensures); is = c.index_mut.ensures.value }) (c.flr-done.ensures.function c.args.pool) (c.flr-done.ensures.reply c.args.pool) (c.flr-done.ensures.silent c.args.pool)
    (is_done_of c.flr-done.result _ (sym c.is_ok.ensures.value ∙ c.if-is_ok.false))

pub returns-else-is_ok-clause-answer : goal.returns-else-is_ok-clause-answer
returns-else-is_ok-clause-answer g c = reset_answer (record { profile = c.self.inside.profile; settings = c.self.inside.tables.value; resets = c.self.inside.resets; wire = c.self.inside.wire.frames; unclaimed = c.self.inside.unclaimed }) c.self.inside.units.items c.args.self.now c.from-index.result c.args.pool c.index_mut.result.now (done_or_refused c.flr-done.result) c.self.view_is (record { place = c.from-index.ensures; below = omega (arith, c.if-index-len.false, c.len.ensures); is = c.index_mut.ensures.value }) (c.flr-done.ensures.reply c.args.pool) (c.flr-done.ensures.silent c.args.pool)

pub returns-else-is_ok-clause-accesses : goal.returns-else-is_ok-clause-accesses
returns-else-is_ok-clause-accesses g c = own_kept (record { profile = c.self.inside.profile; settings = c.self.inside.tables.value; resets = c.self.inside.resets; wire = c.self.inside.wire.frames; unclaimed = c.self.inside.unclaimed }) c.self.inside.units.items c.args.self.now c.from-index.result c.args.pool c.index_mut.result.now c.flr-done.new.unit c.self.view_is (record { place = c.from-index.ensures; below = omega (arith, c.if-index-len.false, c.len.ensures); is = c.index_mut.ensures.value }) c.flr-done.ensures.accesses

pub returns-else-is_ok-clause-sizes : goal.returns-else-is_ok-clause-sizes
returns-else-is_ok-clause-sizes g c = own_sizes (record { profile = c.self.inside.profile; settings = c.self.inside.tables.value; resets = c.self.inside.resets; wire = c.self.inside.wire.frames; unclaimed = c.self.inside.unclaimed }) c.self.inside.units.items c.args.self.now c.from-index.result c.args.pool c.index_mut.result.now c.flr-done.new.unit c.self.view_is (record { place = c.from-index.ensures; below = omega (arith, c.if-index-len.false, c.len.ensures); is = c.index_mut.ensures.value }) c.flr-done.ensures.size
