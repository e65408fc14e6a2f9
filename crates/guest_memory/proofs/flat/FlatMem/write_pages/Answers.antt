-- A page more is written behind what was written.
use Rattle.std.proofs.Common.{◌≡◌, ◌+◌, ◌-◌, ◌*◌, take, min, max, slice_range, arith, length, ap, ◌∙◌}
use Rattle.guest_memory.specs.Memory.{overwrite}
use Rattle.guest_memory.proofs.PagesLemmas.{write_step}
use Rattle.guest_memory.proofs.flat.FlatMem.write_pages.Goals as goal

pub loop-page-preserved : goal.loop-page-preserved
loop-page-preserved c =
    let from : min (c.args.start + length c.args.source.now) (max c.args.start (c.loop-page.page * 2048)) ≡ c.max-from.result = omega arith in
    let to : min (c.args.start + length c.args.source.now) (max c.args.start ((c.loop-page.page + 1) * 2048)) ≡ c.min-to.result = omega arith in
    let done : c.loop-page.self ≡ overwrite c.args.start (take (c.max-from.result - c.args.start) c.args.source.now) c.args.self.now = rw (← from) c.loop-page.invariant in
    rw to (c.write_page.ensures
    ∙ ap (overwrite c.max-from.result (slice_range c.args.source.now (c.max-from.result - c.args.start) (c.min-to.result - c.args.start))) done
    ∙ write_step c.args.self.now c.args.source.now c.args.start c.max-from.result c.min-to.result (omega arith) (omega arith) (omega arith) c.requires)
