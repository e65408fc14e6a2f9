-- The laws, by their lemmas.
use Rattle.vfio_user.proofs.ReadBack.{header_read_back, read_back}
use Rattle.vfio_user.proofs.laws.read_back.Goals as goal

pub returns-clause-header : goal.returns-clause-header
returns-clause-header c = header_read_back

pub returns-clause-request : goal.returns-clause-request
returns-clause-request c = read_back
