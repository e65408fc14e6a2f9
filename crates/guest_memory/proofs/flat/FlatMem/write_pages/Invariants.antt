-- The bytes up to the page that is next have been written.
use Rattle.std.proofs.Common.{◌≡◌, ◌-◌, ◌*◌, take, min, max}
use Rattle.guest_memory.specs.Memory.{overwrite}
use Rattle.guest_memory.proofs.flat.FlatMem.write_pages.Given as goal

abbrev pub invariant-loop-page : goal.invariant-loop-page
invariant-loop-page l = l.self ≡ overwrite l.start (take (min l.end (max l.start (l.page * 2048)) - l.start) l.source) l.initial.self
