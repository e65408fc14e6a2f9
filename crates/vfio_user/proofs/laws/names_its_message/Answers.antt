-- The law, by its lemma.
use Rattle.vfio_user.proofs.Told.{is_reply_to}
use Rattle.vfio_user.proofs.laws.names_its_message.Goals as goal

pub returns : goal.returns
returns c = is_reply_to
