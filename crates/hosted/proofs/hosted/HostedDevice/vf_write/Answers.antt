-- What stands between two calls stands, and every other function is as it was.
use Rattle.std.proofs.Common.{rules, set, subst}
use Rattle.hosted.specs.Hosted.{HostedState, LeavesOthers}
use Rattle.hosted.proofs.Others.{box_here}
use Rattle.hosted.proofs.Stands.{Shows, written}
use Rattle.hosted.proofs.hosted.HostedDevice.vf_write.Goals as goal

pub invariant_of-self-2 : goal.invariant_of-self-2
invariant_of-self-2 g c =
    let old : HostedState = record { device = c.self.inside.device; host = c.self.inside.host; mailboxes = c.self.inside.mailboxes.items } in
    let new : HostedState = record { device = c.mail.new.device; host = c.mail.new.host; mailboxes = set c.self.inside.mailboxes.items c.from.result c.mail.new.mailbox } in
    let shown : Shows c.args.pool old new = written old new c.args.pool c.args.offset c.args.value c.vf_write.new.self.world c.in-Some.pool c.index_mut-mailbox.result.now (search rules) c.self.invariant (search rules) (box_here c.self.inside.mailboxes.items c.from.result c.args.pool c.index_mut-mailbox.result.now (search rules) (search rules) c.index_mut-mailbox.ensures.value) (search rules) c.vf_write.ensures.world c.mail.ensures.world c.mail.ensures.host (search rules) (search rules) in
    shown.hosted

pub returns-clause-others : goal.returns-clause-others
returns-clause-others g c =
    let old : HostedState = record { device = c.self.inside.device; host = c.self.inside.host; mailboxes = c.self.inside.mailboxes.items } in
    let new : HostedState = record { device = c.mail.new.device; host = c.mail.new.host; mailboxes = set c.self.inside.mailboxes.items c.from.result c.mail.new.mailbox } in
    let shown : Shows c.args.pool old new = written old new c.args.pool c.args.offset c.args.value c.vf_write.new.self.world c.in-Some.pool c.index_mut-mailbox.result.now (search rules) c.self.invariant (search rules) (box_here c.self.inside.mailboxes.items c.from.result c.args.pool c.index_mut-mailbox.result.now (search rules) (search rules) c.index_mut-mailbox.ensures.value) (search rules) c.vf_write.ensures.world c.mail.ensures.world c.mail.ensures.host (search rules) (search rules) in
    subst (λ (h : HostedState). LeavesOthers c.args.pool h new) c.self.view_is shown.others
