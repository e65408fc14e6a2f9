-- One port's pool more has one.
use Rattle.std.proofs.Common.{rules, false, replicate}
use Rattle.workers.proofs.Worked.{ports_more}
use Rattle.workers.proofs.running.pools_of.Goals as goal

pub loop-port-preserved : goal.loop-port-preserved
loop-port-preserved g c = record {
  many = search rules;
  each = ports_more (replicate 64 false) c.args.ports.now c.loop-port.port-index c.loop-port-item.result c.loop-port.pools c.from.result (search rules) (search rules) (search rules) c.loop-port.invariant.each;
}
