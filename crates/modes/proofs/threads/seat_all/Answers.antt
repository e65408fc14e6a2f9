-- Each port is of the line.
use Rattle.std.proofs.Common.{◌∙◌, ap, sym}
use Rattle.std.proofs.lemmas.Iterator.Adapters.{YieldsList-from_vec}
use Rattle.std.proofs.lemmas.Iterator.Consumers.{YieldsList-turn}
use Rattle.recorder.specs.Held.{CallerLog}
use Rattle.modes.proofs.Lines.{port_line}
use Rattle.modes.proofs.threads.seat_all.Goals as goal

pub seat-requires-clause-line : goal.seat-requires-clause-line
seat-requires-clause-line g c =
    let given = c.into_iter-port-iterator.ensures.into_iter_gives in
    let turn = YieldsList-turn (YieldsList-from_vec c.args.all.items given.0 (given.1 ∙ c.args.all.ok.0)) c.loop-port.yielded c.loop-port.port-iterator c.loop-port.yielded_by c.next.result c.next.new.self (c.in-Some.port, c.in-Some.note) c.in-Some.is c.next.ensures.steps in
    port_line g.P.GuestPort.meaning c.args.shares.now.pump.line c.args.all.items _ (c.in-Some.port, c.in-Some.note) c.requires.ports turn.0 turn.1 ∙ sym (ap (λ (share : CallerLog). share.line) c.loop-port.invariant.pump)
