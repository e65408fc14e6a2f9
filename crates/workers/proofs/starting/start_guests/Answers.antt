-- One duty more stands behind the others, and in the end all ports were gone over.
use Rattle.std.proofs.Common.{List, ◌++◌, ◌∙◌, ap, map, sym}
use Rattle.std.proofs.lemmas.List.{map-id}
use Rattle.std.proofs.lemmas.Iterator.Adapters.{YieldsList-from_vec}
use Rattle.std.proofs.lemmas.Iterator.Consumers.{YieldsList-end}
use Rattle.std.specs.Arc.{arc_value}
use Rattle.guest_port.specs.Calls.{CallingPort}
use Rattle.guest_port.specs.Notes.{Known}
use Rattle.workers.specs.Duties.{port_duty}
use Rattle.workers.proofs.Worked.{duty_more}
use Rattle.workers.proofs.starting.start_guests.Goals as goal

pub returns-clause-duties : goal.returns-clause-duties
returns-clause-duties g c =
    λ ready.
    let given = c.into_iter-port-iterator.ensures.into_iter_gives in
    let all = YieldsList-end (YieldsList-from_vec c.args.ports.items given.0 (given.1 ∙ c.args.ports.ok.0)) c.loop-port.yielded c.loop-port.port-iterator c.loop-port.yielded_by c.next.result c.next.new.self c.in-None.is c.next.ensures.steps in
    c.loop-port.invariant.duties ready
    ∙ ap (λ (ports : List (CallingPort × Known)). c.args.crew.now.duties ++ map (port_duty (arc_value c.args.context.now.plan)) ports) (sym (map-id c.loop-port.yielded) ∙ all.0)

pub loop-port-preserved : goal.loop-port-preserved
loop-port-preserved g c = record {
  stays = λ ready. c.loop-port.invariant.stays (c.start_guest.ensures.stays ready);
  duties =
      λ ready. duty_more (arc_value c.args.context.now.plan) c.args.crew.now.duties c.loop-port.crew.duties c.start_guest.new.crew.duties c.loop-port.yielded (c.in-Some.port, c.in-Some.note) (c.loop-port.invariant.duties (c.start_guest.ensures.stays ready)) (c.start_guest.ensures.duty ready);
}
