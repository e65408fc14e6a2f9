-- The law, by its lemma.
use Rattle.offload.proofs.Joined.{payload_is_whole}
use Rattle.offload.proofs.laws.payload_is_whole.Goals as goal

pub returns : goal.returns
returns c = payload_is_whole
