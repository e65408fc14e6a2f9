-- The pools of the ports so far.
use Rattle.std.proofs.Common.{◌≡◌, map, take}
use Rattle.workers.specs.Ends.{pool_of}
use Rattle.workers.proofs.running.pools_in_order.Given as goal

abbrev pub invariant-loop-port : goal.invariant-loop-port
invariant-loop-port g l = l.pools.items ≡ map pool_of (take l.port-index l.ports)
