-- The law, by its lemma.
use Rattle.transmit_page.proofs.Lost.{all_written}
use Rattle.transmit_page.proofs.laws.nothing_is_lost.Goals as goal

pub returns : goal.returns
returns c = all_written
