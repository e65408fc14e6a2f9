-- One port more in its box: it means what the port means that was made, whose seat is of the line.
use Rattle.std.proofs.Common.{◌≡◌, ◌∙◌, refl, sym, ap}
use Rattle.std.proofs.lemmas.Iterator.Adapters.{YieldsList-from_vec}
use Rattle.std.proofs.lemmas.Iterator.Consumers.{YieldsList-turn}
use denote.Param.Object.{read_made}
use Rattle.atomic_table.specs.Seated.{TableId}
use Rattle.irq_line.specs.Line.{DeviceEnd}
use Rattle.guest_port.specs.Irq.{SeatedPort}
use Rattle.modes.proofs.Lines.{port_line, ports_more}
use Rattle.modes.proofs.threads.with_ports.OwnLists as own
use Rattle.modes.proofs.threads.with_ports.Goals as goal

pub loop-port-preserved : goal.loop-port-preserved
loop-port-preserved g c =
    let given = c.into_iter-port-iterator.ensures.into_iter_gives in
    let turn = YieldsList-turn (YieldsList-from_vec c.in_ok-made.made.items given.0 (given.1 ∙ c.in_ok-made.made.ok.0)) c.loop-port.yielded c.loop-port.port-iterator c.loop-port.yielded_by c.next.result c.next.new.self (c.in-Some.port, c.in-Some.note) c.in-Some.is c.next.ensures.steps in
    let made = port_line (λ (p : SeatedPort). p.port) c.in_ok-line.line.line c.in_ok-made.made.items _ (c.in-Some.port, c.in-Some.note) c.in_ok-made.ensures.line turn.0 turn.1 in
    let boxed = read_made own.own-1 (own.own-1.entry own.at-1-1) own.at-1-1 refl TableId (λ e b. (e.1.meaning b).seat.line) c.into_dyn_box.result.vtable c.into_dyn_box.result.value c.in_ok-new.field-0.value c.into_dyn_box.ensures.1 in (
      ports_more (λ b. (own.own-1.entry b.vtable).1.meaning b.value) c.line.inside.seat.table_id c.loop-port.ports.items c.push.new.self.items (c.into_dyn_box.result, c.in-Some.note) c.in_ok-push.ensures.items
          (boxed ∙ ap (λ (p : SeatedPort). p.port.seat.line) c.in_ok-new.ensures.ok ∙ made ∙ sym (ap (λ (s : DeviceEnd). s.line) c.line.view_is)) c.loop-port.invariant.0,
      c.loop-port.invariant.1,
    )
