-- What a line's rule says of the device's seat and a guest's may be put together.
use Rattle.std.proofs.Common.{rules}
use Rattle.irq_line.proofs.Keeps.{join_allowed, part_allowed, beside_allowed}
use Rattle.irq_line.proofs.seats.DeviceSeat.beside.Goals as goal

pub join_seat-requires : goal.join_seat-requires
join_seat-requires c = (search rules, search rules, search rules, search rules, join_allowed _ _ _ _ c.self.invariant.2 c.guest.invariant.2)

pub load-requires : goal.load-requires
load-requires c = (search rules, search rules, beside_allowed _ _ _ _ _ c.guest.inside.seat.me c.self.invariant.2 c.join_seat.ensures.2 (search rules) (search rules))

pub split_seat-seat-requires : goal.split_seat-seat-requires
split_seat-seat-requires c = (search rules, search rules, part_allowed _ _ _ _ c.guest.inside.seat.me c.self.invariant.2 c.join_seat.ensures.2 c.load.ensures.2.0)
