-- The loser's writes are done first, and the function's own after them.
use Rattle.std.proofs.Common.{◌≡◌, None, sym, ap, subst, ◌∙◌}
use Rattle.pool_filter.specs.Settings.{Settings}
use Rattle.mailbox.specs.Address.{number_of}
use Rattle.mailbox.specs.Host.{freed_by, host_under, host_freed}
use Rattle.mailbox.specs.Isolation.{IsSameFor}
use Rattle.mailbox.specs.State.{HostState, holder}
use Rattle.mailbox.specs.Within.{IsWithin, KeepsOtherPolicies}
use Rattle.mailbox.specs.Words.{settings_of}
use Rattle.mailbox.specs.Writes.{after_writes}
use Rattle.mailbox.proofs.Freed.{take_within, take_policies, all_chain, host_is, quiet}
use Rattle.mailbox.proofs.host.Host.take.Goals as goal

pub returns-clause-host : goal.returns-clause-host
returns-clause-host c = host_is c.args.self.now _ c.args.pool _ _ _ c.args.policy.now c.of-address.ensures c.holder-loser.ensures c.free-lost.ensures.host c.put_under-writes.ensures.host

pub returns-clause-settings : goal.returns-clause-settings
returns-clause-settings c = ap (λ s. after_writes s c.put_under-writes.result) c.free-lost.ensures.settings ∙ c.put_under-writes.ensures.settings

pub returns-clause-meanwhile : goal.returns-clause-meanwhile
returns-clause-meanwhile c = λ q done left small other is.
    subst (λ (s : Settings). IsSameFor s (after_writes s done) q) (sym c.free-lost.ensures.settings) (c.put_under-writes.ensures.meanwhile q done left small other is)

pub returns-clause-all : goal.returns-clause-all
returns-clause-all c = all_chain _ _ _ c.free-lost.ensures.all c.put_under-writes.ensures.all

pub returns-clause-within : goal.returns-clause-within
returns-clause-within c = λ is w.
    subst IsWithin (sym (host_is c.args.self.now _ c.args.pool _ _ _ c.args.policy.now c.of-address.ensures c.holder-loser.ensures c.free-lost.ensures.host c.put_under-writes.ensures.host))
    (take_within c.args.self.now c.args.pool c.args.policy.now c.put_under-writes.ensures.pool is w)

pub returns-clause-policies : goal.returns-clause-policies
returns-clause-policies c =
    subst (KeepsOtherPolicies c.args.pool c.args.self.now) (sym (host_is c.args.self.now _ c.args.pool _ _ _ c.args.policy.now c.of-address.ensures c.holder-loser.ensures c.free-lost.ensures.host c.put_under-writes.ensures.host))
    (take_policies c.args.self.now c.args.pool c.args.policy.now)

pub returns-clause-down : goal.returns-clause-down
returns-clause-down c = λ none down.
    quiet c.args.self.now _ c.args.pool _ _ _ c.args.policy.now c.of-address.ensures c.holder-loser.ensures c.free-lost.ensures.host c.put_under-writes.ensures.host none c.put_under-writes.ensures.pool c.put_under-writes.ensures.few down
