-- The device in the box is as it is made.
use Rattle.std.proofs.Common.{arith, ◌≡◌, ◌≤◌, sym, ap, subst}
use Rattle.device.specs.Live.{TracedWorld}
use Rattle.device.specs.World.{World}
use Rattle.history.specs.Recording.{Logged, made_like}
use Rattle.history.proofs.ReplayLemmas.{fresh_again}
use Rattle.recorder.proofs.CallLemmas.{cap_some}
use Rattle.recorder.proofs.recorded.Recorded.new.Goals as goal

pub new-requires-2-clause-fresh : goal.new-requires-2-clause-fresh
new-requires-2-clause-fresh g c =
    subst (λ (w : World). w ≡ made_like w) (sym (ap (λ (d : TracedWorld). d.world) c.in_ok-device.ensures.same)) (fresh_again c.args.device.world _ _ c.requires.fresh.2)

-- and the history has room for a call
pub shared-requires-clause-some : goal.shared-requires-clause-some
shared-requires-clause-some g c =
    let some : 1 ≤ c.args.cap = cap_some c.args.cap (λ is. let no = c.in_ok-history.ensures.bad_make is in cc) in
    let same : c.new-2.result.cap ≡ c.in_ok-history.history.cap = ap (λ (r : Logged). r.cap) c.new-2.ensures.begun in
    let made : c.in_ok-history.history.cap ≡ c.args.cap = c.in_ok-history.ensures.cap in
    omega arith
