-- No word has a bit.
use Rattle.pool_filter.proofs.FlagLemmas.{no_pool}
use Rattle.pool_filter.proofs.masks.FlagMasks.new.Goals as goal

pub invariant_of-result : goal.invariant_of-result
invariant_of-result c = (no_pool 24, no_pool 25, no_pool 27, no_pool 28)
