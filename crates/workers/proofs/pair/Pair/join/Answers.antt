-- What was received is all that was sent, so the frames that the pump asked are the script's.
use Rattle.std.proofs.Common.{rules, ◌≡◌, ◌++◌, [], ◌∷◌}
use Rattle.workers.specs.Pair.{HasPumped}
use Rattle.workers.proofs.Wires.{pair_done}
use Rattle.workers.proofs.pair.Pair.join.Goals as goal

pub returns-clause-done : goal.returns-clause-done
returns-clause-done g c =
    λ ready whole.
    let pumping = c.self.inside.pump_thread.promise in
    let reading = c.self.inside.reader_thread.promise in
    let came : HasPumped pumping.share.value c.join-share.result.share pumping.receiver.value c.in-Some.receiver = search rules in
    let behind : c.push.new.self.items ≡ c.args.shares.now.items ++ c.join-share.result.share ∷ [] = search rules in
    pair_done c.args.self reading.plan.value pumping.share.value c.join-share.result.share reading.sender.value c.join-sender.result c.beside.new.self pumping.receiver.value c.in-Some.receiver c.beside.result c.args.shares.now.items c.push.new.self.items (search rules)
    (search rules) (search rules) c.join-sender.ensures came (search rules) (search rules) (search rules) behind
