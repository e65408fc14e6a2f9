-- A reset is done or refused.
use Rattle.guest_port.proofs.Replies.{reset_told, replied}
use Rattle.guest_port.proofs.locked_port.LockedPort.flr.Goals as goal

pub done_of-requires : goal.done_of-requires
done_of-requires g c = (_, reset_told _ _ (replied _ _ _ _ c.in-Ok.ensures.kept))
