-- The pools so far, and those that are to come.
use Rattle.std.proofs.Common.{◌≡◌, ◌++◌, drop}
use Rattle.workers.specs.Opens.{pools_from}
use Rattle.workers.proofs.opens.pools_in.Given as goal

abbrev pub invariant-loop-pool : goal.invariant-loop-pool
invariant-loop-pool l = l.pools.items ++ pools_from l.pool (drop l.pool l.is_open) ≡ pools_from 0 l.is_open
