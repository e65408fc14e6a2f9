-- The law, by its lemma.
use Rattle.transmit_page.proofs.Reasons.{off_at}
use Rattle.transmit_page.proofs.laws.a_ring_is_set_while_its_queue_is_off.Goals as goal

pub returns : goal.returns
returns c = off_at
