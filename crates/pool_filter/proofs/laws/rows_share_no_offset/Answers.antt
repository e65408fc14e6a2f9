-- The law, by its lemma.
use Rattle.pool_filter.proofs.MapLemmas.{at_most_one_row}
use Rattle.pool_filter.proofs.laws.rows_share_no_offset.Goals as goal

pub returns : goal.returns
returns c = at_most_one_row
