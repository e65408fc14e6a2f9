-- What was read is a value or a refusal.
use Rattle.guest_port.proofs.Replies.{value_told, replied}
use Rattle.guest_port.proofs.locked_port.LockedPort.reg_read.Goals as goal

pub value_of-requires : goal.value_of-requires
value_of-requires g c = (_, value_told _ _ _ (replied _ _ _ _ c.in-Ok.ensures.kept))
