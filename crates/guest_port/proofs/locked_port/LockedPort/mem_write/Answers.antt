-- A write is done or refused.
use Rattle.guest_port.proofs.Replies.{written_told, replied}
use Rattle.guest_port.proofs.locked_port.LockedPort.mem_write.Goals as goal

pub done_of-requires : goal.done_of-requires
done_of-requires g c = (_, written_told _ _ _ _ (replied _ _ _ _ c.in-Ok-ask.ensures.kept))
