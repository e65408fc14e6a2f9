-- One more share stands behind the others, and in the end all were gone over.
use Rattle.std.proofs.Common.{List, ◌++◌, ◌∙◌, ap, sym, Option}
use Rattle.std.proofs.lemmas.List.{map-id}
use Rattle.std.proofs.lemmas.Iterator.Adapters.{YieldsList-from_vec}
use Rattle.std.proofs.lemmas.Iterator.Consumers.{YieldsList-end}
use Rattle.recorder.specs.Held.{CallerLog, left_of}
use Rattle.recorder.proofs.ShareLemmas.{one_more_left}
use Rattle.recorder.proofs.shares.push_left.Goals as goal

pub loop-port-preserved-in-Continue-1 : goal.loop-port-preserved-in-Continue-1
loop-port-preserved-in-Continue-1 g c =
    one_more_left c.args.others.now.items c.loop-port.yielded c.in-Some.port c.in-Some-port.share c.loop-port.others.items c.push.new.self.items c.in-Some-port.is c.loop-port.invariant c.in_ok-push.ensures.items

pub returns : goal.returns
returns g c =
    let given = c.into_iter-port-iterator.ensures.into_iter_gives in
    let all = YieldsList-end (YieldsList-from_vec c.args.ports.items given.0 (given.1 ∙ c.args.ports.ok.0)) c.loop-port.yielded c.loop-port.port-iterator c.loop-port.yielded_by c.next.result c.next.new.self c.in-None.is c.next.ensures.steps in
    record { all = c.loop-port.invariant ∙ ap (λ (ports : List (Option CallerLog)). c.args.others.now.items ++ left_of ports) (sym (map-id c.loop-port.yielded) ∙ all.0) }
