-- What was read is bytes that fill the room, or a refusal.
use Rattle.std.proofs.Common.{rules, ◌≡◌, ℕ, List, length, subst}
use Rattle.device.specs.Outcome.{reply_of}
use Rattle.guest_port.specs.Calls.{IsRead}
use Rattle.guest_port.proofs.Replies.{room_told_of, replied}
use Rattle.guest_port.proofs.locked_port.LockedPort.mem_read_into.Goals as goal

pub fill-requires : goal.fill-requires
fill-requires g c =
    let same : c.ask.new.self.cells ≡ c.self-2.inside.room.bytes = search rules in
    subst (λ (cells : List ℕ). IsRead (length c.args.out.now) (reply_of cells c.in-Ok.outcome)) same
    (room_told_of _ _ _ _ _ (search rules) (replied _ _ _ _ c.in-Ok.ensures.kept))
