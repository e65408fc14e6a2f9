-- The function has no policy any more, and every other function is as it was.
use Rattle.std.proofs.Common.{◌∷◌, [], rules, refl, subst}
use Rattle.mailbox_laws.specs.Turns.Turn.{Dismisses}
use Rattle.hosted.specs.Hosted.{HaveTaken, HostedState, LeavesOthers}
use Rattle.hosted.proofs.Stands.{Shows, dismissed, shows_dismissed}
use Rattle.hosted.proofs.hosted.HostedDevice.dismiss.Goals as goal

pub invariant_of-self : goal.invariant_of-self
invariant_of-self g c =
    let old : HostedState = record { device = c.self.inside.device; host = c.self.inside.host; mailboxes = c.self.inside.mailboxes.items } in
    let new : HostedState = record { device = c.do_writes.new.device; host = c.dismiss-writes.new.self; mailboxes = c.self.inside.mailboxes.items } in
    let taken : HaveTaken (Dismisses c.args.pool ∷ []) old new = dismissed c.args.pool old new c.dismiss-writes.result (search rules) c.self.invariant c.dismiss-writes.ensures.host c.dismiss-writes.ensures.writes (search rules) in
    let shown : Shows c.args.pool old new = shows_dismissed c.args.pool old new (search rules) c.self.invariant taken (search rules) refl in
    shown.hosted

pub returns-clause-taken : goal.returns-clause-taken
returns-clause-taken g c =
    let old : HostedState = record { device = c.self.inside.device; host = c.self.inside.host; mailboxes = c.self.inside.mailboxes.items } in
    let new : HostedState = record { device = c.do_writes.new.device; host = c.dismiss-writes.new.self; mailboxes = c.self.inside.mailboxes.items } in
    let taken : HaveTaken (Dismisses c.args.pool ∷ []) old new = dismissed c.args.pool old new c.dismiss-writes.result (search rules) c.self.invariant c.dismiss-writes.ensures.host c.dismiss-writes.ensures.writes (search rules) in
    subst (λ (h : HostedState). HaveTaken (Dismisses c.args.pool ∷ []) h new) c.self.view_is taken

pub returns-clause-others : goal.returns-clause-others
returns-clause-others g c =
    let old : HostedState = record { device = c.self.inside.device; host = c.self.inside.host; mailboxes = c.self.inside.mailboxes.items } in
    let new : HostedState = record { device = c.do_writes.new.device; host = c.dismiss-writes.new.self; mailboxes = c.self.inside.mailboxes.items } in
    let taken : HaveTaken (Dismisses c.args.pool ∷ []) old new = dismissed c.args.pool old new c.dismiss-writes.result (search rules) c.self.invariant c.dismiss-writes.ensures.host c.dismiss-writes.ensures.writes (search rules) in
    let shown : Shows c.args.pool old new = shows_dismissed c.args.pool old new (search rules) c.self.invariant taken (search rules) refl in
    subst (λ (h : HostedState). LeavesOthers c.args.pool h new) c.self.view_is shown.others
