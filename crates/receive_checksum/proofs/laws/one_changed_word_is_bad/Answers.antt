-- The laws, by their lemmas.
use Rattle.receive_checksum.proofs.Changed.{header_bad, transport_bad}
use Rattle.receive_checksum.proofs.laws.one_changed_word_is_bad.Goals as goal

pub returns-clause-ip : goal.returns-clause-ip
returns-clause-ip c = header_bad

pub returns-clause-transport : goal.returns-clause-transport
returns-clause-transport c = transport_bad
