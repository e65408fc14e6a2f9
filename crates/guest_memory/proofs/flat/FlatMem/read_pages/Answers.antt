-- A page more is read behind what was read.
use Rattle.std.proofs.Common.{◌≡◌, ◌+◌, ◌-◌, ◌*◌, take, min, max, slice_range, arith, length, refl}
use Rattle.guest_memory.proofs.PagesLemmas.{read_step}
use Rattle.guest_memory.proofs.flat.FlatMem.read_pages.Goals as goal

pub loop-page-preserved : goal.loop-page-preserved
loop-page-preserved c =
    let from : min (c.args.start + length c.args.out.now) (max c.args.start (c.loop-page.page * 2048)) ≡ c.max-from.result = omega arith in
    let to : min (c.args.start + length c.args.out.now) (max c.args.start ((c.loop-page.page + 1) * 2048)) ≡ c.min-to.result = omega arith in
    let done : take (c.max-from.result - c.args.start) c.loop-page.out ≡ slice_range c.args.self.now c.args.start c.max-from.result = rw (← from) c.loop-page.invariant in
    let long : length c.loop-page.out ≡ length c.args.out.now = omega arith in
    rw to (read_step c.args.self.now c.loop-page.out c.read_page.new.out c.args.start c.max-from.result c.min-to.result _ (omega arith) (omega arith) refl (omega arith) (rw long c.requires) done c.read_page.ensures)
