-- The writes so far are those of the changes so far.
use Rattle.std.proofs.Common.{◌≡◌, length, map, take}
use Rattle.vfdev_c.specs.Pages.{shown}
use Rattle.vfdev_c.proofs.page.shown_all.Given as goal

abbrev pub invariant-loop-change : goal.invariant-loop-change
invariant-loop-change l = record {
  writes : l.writes.items ≡ map (shown l.queue) (take l.change-index l.changes);
  count : length l.writes.items ≡ l.change-index;
}
