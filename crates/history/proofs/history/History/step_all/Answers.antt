-- One call on.
use Rattle.std.proofs.Common.{rules, ◌<◌, length}
use Rattle.history.proofs.ReplayLemmas.{world_on}
use Rattle.history.proofs.history.History.step_all.Goals as goal

pub loop-index-preserved : goal.loop-index-preserved
loop-index-preserved g c =
    let less : c.loop-index.index < length c.args.self.now.entries = search rules in
    world_on _ _ _ _ _ _ less c.step.ensures.world c.loop-index.invariant
