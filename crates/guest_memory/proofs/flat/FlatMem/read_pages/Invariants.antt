-- The bytes up to the page that is next have been read.
use Rattle.std.proofs.Common.{◌≡◌, ◌-◌, ◌*◌, take, min, max, slice_range}
use Rattle.guest_memory.proofs.flat.FlatMem.read_pages.Given as goal

abbrev pub invariant-loop-page : goal.invariant-loop-page
invariant-loop-page l = take (min l.end (max l.start (l.page * 2048)) - l.start) l.out ≡ slice_range l.self l.start (min l.end (max l.start (l.page * 2048)))
