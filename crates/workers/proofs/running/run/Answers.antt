-- All that were started did what they promised.
use Rattle.std.proofs.Common.{rules}
use Rattle.std.specs.Arc.{arc_value}
use Rattle.workers.specs.Plans.{Planned}
use Rattle.workers.proofs.Worked.{all_duties, done_with}
use Rattle.workers.proofs.running.run.Goals as goal

pub returns-clause-done : goal.returns-clause-done
returns-clause-done g c =
    let none = c.fault.ensures.none (search rules) in
    let ready = none.0 in
    let with_service = c.join-ends.ensures.refused ready in
    let with_pump = c.start_driver-2.ensures.stays with_service in
    let with_pf = c.start_pair.ensures.stays with_pump in
    let guests = c.start_driver.ensures.stays with_pf in
    let now : Planned = arc_value c.args.context.now.plan in
    let duties = all_duties now c.args.ports.items c.args.shares c.in_ok-pf.field-0.pf c.in_ok-pf.field-0.pump c.in_ok-pf.field-0.service c.in_ok-crew.crew.duties c.start_guests.new.crew.duties c.start_driver.new.crew.duties c.start_pair.new.crew.duties
    c.start_driver-2.new.crew.duties (search rules) (search rules) (search rules) (search rules) (c.start_guests.ensures.duties guests) (c.start_driver.ensures.duty with_pf) (c.start_pair.ensures.duty with_pump)
    (c.start_driver-2.ensures.duty with_service) in
    done_with now c.args.ports.items c.args.shares c.start_driver-2.new.crew.duties c.in_ok-pf.field-0.others.items c.join-ends.new.shares.items duties (search rules) (c.join-ends.ensures.done ready none.1)
