-- The laws, by their lemmas.
use Rattle.offload.proofs.Segmented.{segment_ip_verifies, segment_tcp_verifies}
use Rattle.offload.proofs.laws.segments_verify.Goals as goal

pub returns-clause-ip : goal.returns-clause-ip
returns-clause-ip c = segment_ip_verifies

pub returns-clause-tcp : goal.returns-clause-tcp
returns-clause-tcp c = segment_tcp_verifies
