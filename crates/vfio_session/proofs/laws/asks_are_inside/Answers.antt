-- The law, by its lemma.
use Rattle.vfio_session.proofs.Fit.{received_fit}
use Rattle.vfio_session.proofs.laws.asks_are_inside.Goals as goal

pub returns : goal.returns
returns c = received_fit
