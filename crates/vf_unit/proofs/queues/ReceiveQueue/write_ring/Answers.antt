-- A write of a register of the ring leaves it inside the memory.
use Rattle.vf_unit.proofs.queues.ReceiveQueue.write_ring.Goals as goal

pub returns-clause-kept : goal.returns-clause-kept
returns-clause-kept c = λ legacy n known. record {
  inside = c.write.ensures.inside n known.inside;
  sized = rw c.write.ensures.same known.sized;
}
