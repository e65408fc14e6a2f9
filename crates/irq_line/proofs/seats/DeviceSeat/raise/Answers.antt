-- A raise keeps the rule of the line.
use Rattle.std.proofs.Common.{rules}
use Rattle.irq_line.proofs.Keeps.{raise_allowed}
use Rattle.irq_line.proofs.seats.DeviceSeat.raise.Goals as goal

pub fetch_or-requires : goal.fetch_or-requires
fetch_or-requires c = (search rules, search rules, raise_allowed _ _ _ _ _ c.self.invariant.2 (search rules) (search rules))
