-- The laws, by their lemmas.
use Rattle.receive_checksum.proofs.Pseudo.{over_ipv4, over_ipv6}
use Rattle.receive_checksum.proofs.laws.pseudo_headers_are_summed.Goals as goal

pub returns-clause-ipv4 : goal.returns-clause-ipv4
returns-clause-ipv4 c = over_ipv4

pub returns-clause-ipv6 : goal.returns-clause-ipv6
returns-clause-ipv6 c = over_ipv6
