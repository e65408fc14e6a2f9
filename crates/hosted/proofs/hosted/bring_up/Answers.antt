-- One of the first writes more is done.
use Rattle.std.proofs.Common.{rules}
use Rattle.hosted.proofs.OneTurn.{first_done, first_next, first_there}
use Rattle.hosted.proofs.hosted.bring_up.Goals as goal

pub unreachable-requires : goal.unreachable-requires
unreachable-requires g c = first_there c.args.host.now c.loop-place.place _ c.first_write.ensures c.loop-place-test.true c.in_default.is

pub loop-place-preserved : goal.loop-place-preserved
loop-place-preserved g c = record {
  world = first_next c.args.host.now _ _ _ c.loop-place.place _ c.in-Some.write c.first_write.ensures c.in-Some.is c.loop-place.invariant.world c.pf_write.ensures.world;
  accesses = search rules;
}

pub returns-clause-world : goal.returns-clause-world
returns-clause-world g c = first_done c.args.host.now _ _ c.loop-place.place (search rules) c.loop-place.invariant.world
