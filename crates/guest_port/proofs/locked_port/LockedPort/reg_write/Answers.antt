-- A write is done or refused.
use Rattle.guest_port.proofs.Replies.{write_told, replied}
use Rattle.guest_port.proofs.locked_port.LockedPort.reg_write.Goals as goal

pub done_of-requires : goal.done_of-requires
done_of-requires g c = (_, write_told _ _ _ _ (replied _ _ _ _ c.in-Ok.ensures.kept))
