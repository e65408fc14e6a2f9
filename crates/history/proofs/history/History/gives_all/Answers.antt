-- One call on.
use Rattle.std.proofs.Common.{rules, ◌<◌, length}
use Rattle.history.proofs.ReplayLemmas.{world_on, same_on, lost_on}
use Rattle.history.proofs.history.History.gives_all.Goals as goal

pub loop-index-preserved : goal.loop-index-preserved
loop-index-preserved g c =
    let e = c.gives-here.ensures in
    let less : c.loop-index.index < length c.args.self.now.entries = search rules in
    record {
      world = world_on _ _ _ _ _ _ less e.world c.loop-index.invariant.world;
      so_far = same_on _ _ _ _ _ _ c.loop-index.same _ less e.world e.same.0 e.same.1 c.loop-index.invariant.so_far;
      lost = lost_on _ _ _ _ _ c.loop-index.same _ less e.same.1 c.loop-index.invariant.so_far c.loop-index.invariant.lost;
    }
