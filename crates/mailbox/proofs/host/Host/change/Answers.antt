-- Nothing of another pool's is changed, and the writes make the settings, by the theorems on hosts.
use Rattle.std.proofs.Common.{◌≡◌, ◌≤◌, length, sym, ap, subst, ◌∙◌}
use Rattle.mailbox.specs.State.{HostState, with_slot}
use Rattle.mailbox.specs.Words.{settings_of}
use Rattle.mailbox.specs.Writes.{after_writes, writes_of}
use Rattle.mailbox.proofs.Others.{others_meanwhile, others_alike, all_alike}
use Rattle.mailbox.proofs.Settle.{settled}
use Rattle.mailbox.proofs.host.Host.change.Goals as goal

few_before : (c : goal.After-writes_since) → length c.args.self.now.ids ≤ 64
few_before c = subst (λ (h : HostState). length h.ids ≤ 64) c.set_slot.ensures.host c.writes_since.ensures.few

writes_are : (c : goal.After-writes_since) → c.writes_since.result ≡ writes_of (with_slot c.args.self.now c.args.pool c.args.slot) c.args.pool c.slot-before.result
writes_are c = c.writes_since.ensures.writes ∙ (λ i. writes_of (c.set_slot.ensures.host i) c.args.pool c.slot-before.result)

pub returns-clause-others : goal.returns-clause-others
returns-clause-others c = λ q small other. rw c.set_slot.ensures.host (others_alike c.args.self.now c.args.pool q c.args.slot c.set_slot.ensures.pool (few_before c) small other)

pub returns-clause-all : goal.returns-clause-all
returns-clause-all c = rw c.set_slot.ensures.host (all_alike c.args.self.now c.args.pool c.args.slot)

pub returns-clause-settings : goal.returns-clause-settings
returns-clause-settings c =
    ap (after_writes (settings_of c.args.self.now)) (writes_are c ∙ (λ i. writes_of (with_slot c.args.self.now c.args.pool c.args.slot) c.args.pool (c.slot-before.ensures.value i)))
    ∙ settled c.args.self.now c.args.pool c.args.slot c.set_slot.ensures.pool (few_before c)
    ∙ ap settings_of (sym c.set_slot.ensures.host)

-- and at no moment does another pool lose or get anything
pub returns-clause-meanwhile : goal.returns-clause-meanwhile
returns-clause-meanwhile c = λ q done left small other is.
    others_meanwhile c.args.self.now c.args.pool q c.args.slot done left c.set_slot.ensures.pool (few_before c) small other
    (is ∙ writes_are c ∙ (λ i. writes_of (with_slot c.args.self.now c.args.pool c.args.slot) c.args.pool (c.slot-before.ensures.value i)))
