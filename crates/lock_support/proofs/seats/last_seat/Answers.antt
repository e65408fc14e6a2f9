-- The last of the seats is of the line, and so are those before it.
use Rattle.std.proofs.Common.{◌≡◌}
use Rattle.std.proofs.lemmas.List.Elements.{All-pop}
use Rattle.irq_line.specs.Line.{GuestEnd}
use Rattle.lock_support.proofs.seats.last_seat.Goals as goal

pub returns-clause-line : goal.returns-clause-line
returns-clause-line g c = (All-pop (λ (seat : GuestEnd). seat.line ≡ c.args.share.now.line) c.args.seats.now.items c.pop.new.self.items c.pop.result c.pop.ensures.items c.requires).1

pub returns-clause-seats : goal.returns-clause-seats
returns-clause-seats g c = (All-pop (λ (seat : GuestEnd). seat.line ≡ c.args.share.now.line) c.args.seats.now.items c.pop.new.self.items c.pop.result c.pop.ensures.items c.requires).0
