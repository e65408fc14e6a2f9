-- What the makers tell of the line, and that their shares are of it.
use Rattle.std.proofs.Common.{◌≡◌, ap}
use Rattle.std.proofs.lemmas.Result.{IfOk-weaker}
use Rattle.recorder.specs.Held.{Held}
use Rattle.recorder.proofs.LineLemmas.{pump_line, unused_shares}
use Rattle.lock_support.proofs.stage.recorded.Goals as goal

pub returns-in_ok-fresh-in-Some-clause-line : goal.returns-in_ok-fresh-in-Some-clause-line
returns-in_ok-fresh-in-Some-clause-line g c = IfOk-weaker c.with_twin.result _ _ (λ r h. ap (λ (held : Held). held.line) h) c.with_twin.ensures.begun

pub returns-in_ok-fresh-in-Some-clause-shares : goal.returns-in_ok-fresh-in-Some-clause-shares
returns-in_ok-fresh-in-Some-clause-shares g c = IfOk-weaker c.with_twin.result _ _ (λ r h. unused_shares c.args.line.line r.1 h) c.with_twin.ensures.shares

pub returns-in_ok-fresh-in-Some-clause-same : goal.returns-in_ok-fresh-in-Some-clause-same
returns-in_ok-fresh-in-Some-clause-same g c = IfOk-weaker c.with_twin.result _ _ (λ r h. pump_line c.args.line.line r.1 h) c.with_twin.ensures.shares

pub returns-in-None-clause-shares : goal.returns-in-None-clause-shares
returns-in-None-clause-shares g c = IfOk-weaker c.new.result _ _ (λ r h. unused_shares c.args.line.line r.1 h) c.new.ensures.shares
