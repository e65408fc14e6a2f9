-- What stands between two calls stands, and every other function is as it was.
use Rattle.std.proofs.Common.{rules, set, subst}
use Rattle.hosted.specs.Hosted.{HostedState, LeavesOthers}
use Rattle.hosted.proofs.Stands.{Shows, was_reset}
use Rattle.hosted.proofs.hosted.HostedDevice.flr.Goals as goal

pub invariant_of-self-2 : goal.invariant_of-self-2
invariant_of-self-2 g c =
    let old : HostedState = record { device = c.self.inside.device; host = c.self.inside.host; mailboxes = c.self.inside.mailboxes.items } in
    let new : HostedState = record { device = c.forget.new.device; host = c.forget.new.host; mailboxes = set c.self.inside.mailboxes.items c.from.result c.reset.new.self } in
    let shown : Shows c.args.pool old new = was_reset old new c.args.pool c.flr.new.self.world (search rules) c.self.invariant (search rules) c.flr.ensures.world (search rules) (search rules) (search rules) (search rules) in
    shown.hosted

pub returns-clause-others : goal.returns-clause-others
returns-clause-others g c =
    let old : HostedState = record { device = c.self.inside.device; host = c.self.inside.host; mailboxes = c.self.inside.mailboxes.items } in
    let new : HostedState = record { device = c.forget.new.device; host = c.forget.new.host; mailboxes = set c.self.inside.mailboxes.items c.from.result c.reset.new.self } in
    let shown : Shows c.args.pool old new = was_reset old new c.args.pool c.flr.new.self.world (search rules) c.self.invariant (search rules) c.flr.ensures.world (search rules) (search rules) (search rules) (search rules) in
    subst (λ (h : HostedState). LeavesOthers c.args.pool h new) c.self.view_is shown.others
