-- The function has its policy, and every function that it doesn't concern is as it was; or nothing changed.
use Rattle.std.proofs.Common.{◌≡◌, ◌∙◌, ◌∷◌, [], true, false, rules, refl, sym, subst}
use Rattle.std.specs.Prelude.{is_none}
use Rattle.mailbox.specs.Host.{refusal}
use Rattle.mailbox_laws.specs.Turns.Turn.{Admits}
use Rattle.hosted.specs.Hosted.{HaveTaken, HostedState, IsHosted, LeavesUnconcerned}
use Rattle.hosted.proofs.Others.{leaves_unconcerned}
use Rattle.hosted.proofs.Stands.{admitted, on_err, stands_admitted, unchanged, unconcerned_itself}
use Rattle.hosted.proofs.hosted.HostedDevice.admit.Goals as goal

pub invariant_of-self : goal.invariant_of-self
invariant_of-self g c =
    let old : HostedState = record { device = c.self.inside.device; host = c.self.inside.host; mailboxes = c.self.inside.mailboxes.items } in
    let refused : is_none (refusal c.self.inside.host c.args.pool c.args.policy.now) ≡ false = search rules in
    subst IsHosted (sym (unchanged old c.admit.new.self c.args.pool c.args.policy.now refused c.admit.ensures.host)) c.self.invariant

pub returns-in_err-admission-clause-others : goal.returns-in_err-admission-clause-others
returns-in_err-admission-clause-others g c =
    let old : HostedState = record { device = c.self.inside.device; host = c.self.inside.host; mailboxes = c.self.inside.mailboxes.items } in
    let refused : is_none (refusal c.self.inside.host c.args.pool c.args.policy.now) ≡ false = search rules in
    subst (λ (h : HostedState). LeavesUnconcerned c.args.pool c.args.policy.now c.args.self.now h) (sym (unchanged old c.admit.new.self c.args.pool c.args.policy.now refused c.admit.ensures.host ∙ c.self.view_is)) (unconcerned_itself c.args.pool c.args.policy.now c.args.self.now)

pub returns-in_err-admission-clause-unchanged : goal.returns-in_err-admission-clause-unchanged
returns-in_err-admission-clause-unchanged g c =
    let old : HostedState = record { device = c.self.inside.device; host = c.self.inside.host; mailboxes = c.self.inside.mailboxes.items } in
    let refused : is_none (refusal c.self.inside.host c.args.pool c.args.policy.now) ≡ false = search rules in
    on_err c.from_residual.result (unchanged old c.admit.new.self c.args.pool c.args.policy.now refused c.admit.ensures.host ∙ c.self.view_is)

pub invariant_of-self-2 : goal.invariant_of-self-2
invariant_of-self-2 g c =
    let old : HostedState = record { device = c.self.inside.device; host = c.self.inside.host; mailboxes = c.self.inside.mailboxes.items } in
    let new : HostedState = record { device = c.do_writes-2.new.device; host = c.admit.new.self; mailboxes = c.self.inside.mailboxes.items } in
    let good : is_none (refusal c.self.inside.host c.args.pool c.args.policy.now) ≡ true = search rules in
    let taken : HaveTaken (Admits c.args.pool c.args.policy.now ∷ []) old new = admitted c.args.pool old new c.args.policy.now c.in_ok-admission.admission.lost c.in_ok-admission.admission.writes c.do_writes.new.device.world (search rules) c.self.invariant good c.admit.ensures.host c.in_ok-admission.ensures.lost c.in_ok-admission.ensures.writes (search rules) (search rules) in
    stands_admitted c.args.pool old new c.args.policy.now (search rules) c.self.invariant taken (search rules) refl

pub returns-clause-taken : goal.returns-clause-taken
returns-clause-taken g c =
    let old : HostedState = record { device = c.self.inside.device; host = c.self.inside.host; mailboxes = c.self.inside.mailboxes.items } in
    let new : HostedState = record { device = c.do_writes-2.new.device; host = c.admit.new.self; mailboxes = c.self.inside.mailboxes.items } in
    let good : is_none (refusal c.self.inside.host c.args.pool c.args.policy.now) ≡ true = search rules in
    let taken : HaveTaken (Admits c.args.pool c.args.policy.now ∷ []) old new = admitted c.args.pool old new c.args.policy.now c.in_ok-admission.admission.lost c.in_ok-admission.admission.writes c.do_writes.new.device.world (search rules) c.self.invariant good c.admit.ensures.host c.in_ok-admission.ensures.lost c.in_ok-admission.ensures.writes (search rules) (search rules) in
    subst (λ (h : HostedState). HaveTaken (Admits c.args.pool c.args.policy.now ∷ []) h new) c.self.view_is taken

pub returns-clause-others : goal.returns-clause-others
returns-clause-others g c =
    let old : HostedState = record { device = c.self.inside.device; host = c.self.inside.host; mailboxes = c.self.inside.mailboxes.items } in
    let new : HostedState = record { device = c.do_writes-2.new.device; host = c.admit.new.self; mailboxes = c.self.inside.mailboxes.items } in
    let good : is_none (refusal c.self.inside.host c.args.pool c.args.policy.now) ≡ true = search rules in
    let taken : HaveTaken (Admits c.args.pool c.args.policy.now ∷ []) old new = admitted c.args.pool old new c.args.policy.now c.in_ok-admission.admission.lost c.in_ok-admission.admission.writes c.do_writes.new.device.world (search rules) c.self.invariant good c.admit.ensures.host c.in_ok-admission.ensures.lost c.in_ok-admission.ensures.writes (search rules) (search rules) in
    subst (λ (h : HostedState). LeavesUnconcerned c.args.pool c.args.policy.now h new) c.self.view_is (leaves_unconcerned c.args.pool c.args.policy.now old new (search rules) c.self.invariant taken refl)
