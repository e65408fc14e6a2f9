-- What the port's worker says is what it was to do.
use Rattle.std.proofs.Common.{rules}
use Rattle.std.specs.Arc.{arc_value}
use Rattle.workers.proofs.Worked.{handed_back}
use Rattle.workers.proofs.starting.do_port.Goals as goal

pub returns : goal.returns
returns g c = λ whole. let all = c.guest.ensures.all whole in handed_back (arc_value c.args.mine.plan) c.args.port c.guest.new.port c.guest.result.share (search rules) c.guest.ensures.share c.guest.ensures.asked
