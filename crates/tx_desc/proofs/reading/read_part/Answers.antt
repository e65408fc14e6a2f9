-- Where there are no bytes nothing is read.
use Rattle.live_memory.proofs.Reading.{read_none}
use Rattle.tx_desc.proofs.reading.read_part.Goals as goal

pub returns-else-not-is_empty-clause-read : goal.returns-else-not-is_empty-clause-read
returns-else-not-is_empty-clause-read g c = read_none _ _ _
