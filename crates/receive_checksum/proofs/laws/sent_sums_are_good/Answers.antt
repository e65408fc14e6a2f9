-- The laws, by their lemmas.
use Rattle.receive_checksum.proofs.Stored.{header_good, tcp_good, udp_good}
use Rattle.receive_checksum.proofs.laws.sent_sums_are_good.Goals as goal

pub returns-clause-ip : goal.returns-clause-ip
returns-clause-ip c = header_good

pub returns-clause-tcp : goal.returns-clause-tcp
returns-clause-tcp c = tcp_good

pub returns-clause-udp : goal.returns-clause-udp
returns-clause-udp c = udp_good
