-- A take keeps the rule of the line.
use Rattle.std.proofs.Common.{rules}
use Rattle.irq_line.proofs.Keeps.{take_allowed}
use Rattle.irq_line.proofs.seats.GuestSeat.take.Goals as goal

pub swap-requires : goal.swap-requires
swap-requires c = (search rules, search rules, take_allowed _ _ _ _ c.self.invariant.2 (search rules) (search rules))
