-- There are 64 pools, and those of the ports so far have one.
use Rattle.std.proofs.Common.{◌≡◌, false, length, replicate, take}
use Rattle.workers.specs.Run.{with_ports}
use Rattle.workers.proofs.running.pools_of.Given as goal

abbrev pub invariant-loop-port : goal.invariant-loop-port
invariant-loop-port g l = record {
  many : length l.pools ≡ 64;
  each : l.pools ≡ with_ports (replicate 64 false) (take l.port-index l.ports);
}
