-- The shares of a device that was just made are for its line.
use Rattle.recorder.proofs.LineLemmas.{unused_shares}
use Rattle.soak.proofs.round.make.Goals as goal

pub behind_lock-requires-clause-left : goal.behind_lock-requires-clause-left
behind_lock-requires-clause-left g c = unused_shares _ _ c.in_ok-recorded.ensures.shares

pub behind_lock-requires-else-eq-clause-left : goal.behind_lock-requires-else-eq-clause-left
behind_lock-requires-else-eq-clause-left g c = unused_shares _ _ c.in_ok-recorded-2.ensures.shares
