-- The end of one port's pool more is recorded.
use Rattle.std.proofs.Common.{rules, ℕ, get_or, ◌∙◌}
use Rattle.workers.proofs.Closing.{ending_more}
use Rattle.workers.proofs.running.record_ends.Goals as goal

pub loop-pool-preserved : goal.loop-pool-preserved
loop-pool-preserved g c =
    let pool : ℕ = get_or c.args.pools.now c.loop-pool.pool-index 0 in
    record {
      asked = ending_more c.args.pools.now c.loop-pool.pool-index pool _ c.args.share.now c.loop-pool.share c.ask.new.share (search rules) (search rules) c.loop-pool.invariant.asked c.in_ok-ask.ensures.told;
      caller = c.in_ok-ask.ensures.caller ∙ c.loop-pool.invariant.caller;
    }
