-- The law, by its lemma.
use Rattle.vfio_session.proofs.Quiet.{unanswered}
use Rattle.vfio_session.proofs.laws.quiet_without_version.Goals as goal

pub returns : goal.returns
returns c = unanswered
