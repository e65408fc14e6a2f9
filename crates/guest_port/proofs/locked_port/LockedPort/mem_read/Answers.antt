-- What was read is bytes, as many as were asked for, or a refusal.
use Rattle.std.proofs.Common.{rules, ◌≡◌, ℕ, List, subst}
use Rattle.device.specs.Outcome.{reply_of}
use Rattle.guest_port.specs.Calls.{IsRead}
use Rattle.guest_port.proofs.Replies.{bytes_told_of, replied}
use Rattle.guest_port.proofs.locked_port.LockedPort.mem_read.Goals as goal

pub bytes_of-requires : goal.bytes_of-requires
bytes_of-requires g c =
    let same : c.ask.new.self.cells ≡ c.self-2.inside.room.bytes = search rules in (
      c.args.len,
      subst (λ (cells : List ℕ). IsRead c.args.len (reply_of cells c.in-Ok.outcome)) same
          (bytes_told_of _ _ _ _ (replied _ _ _ _ c.in-Ok.ensures.kept)),
    )
