-- The laws, by their lemmas.
use Rattle.offload.proofs.Checked.{ip_sum_verifies, tcp_sum_verifies, udp_sum_verifies}
use Rattle.offload.proofs.laws.sums_verify.Goals as goal

pub returns-clause-ip : goal.returns-clause-ip
returns-clause-ip c = ip_sum_verifies

pub returns-clause-tcp : goal.returns-clause-tcp
returns-clause-tcp c = tcp_sum_verifies

pub returns-clause-udp : goal.returns-clause-udp
returns-clause-udp c = udp_sum_verifies
