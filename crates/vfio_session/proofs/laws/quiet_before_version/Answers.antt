-- The law, by its lemma.
use Rattle.vfio_session.proofs.Quiet.{silent}
use Rattle.vfio_session.proofs.laws.quiet_before_version.Goals as goal

pub returns : goal.returns
returns c = silent
