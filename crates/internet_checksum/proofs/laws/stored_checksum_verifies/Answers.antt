-- The laws, by their lemmas.
use Rattle.internet_checksum.proofs.Stored.{plain_verifies, never_zero_verifies}
use Rattle.internet_checksum.proofs.laws.stored_checksum_verifies.Goals as goal

pub returns-clause-plain : goal.returns-clause-plain
returns-clause-plain c = plain_verifies

pub returns-clause-never_zero : goal.returns-clause-never_zero
returns-clause-never_zero c = never_zero_verifies
