-- A peek keeps the rule of the line.
use Rattle.std.proofs.Common.{rules}
use Rattle.irq_line.proofs.Keeps.{peek_allowed}
use Rattle.irq_line.proofs.seats.GuestSeat.peek.Goals as goal

pub load-requires : goal.load-requires
load-requires c = (search rules, search rules, peek_allowed _ _ _ _ c.self.invariant.2 (search rules) (search rules))
