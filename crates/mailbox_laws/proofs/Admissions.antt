-- The writes of a policy and of a dismissal: they make the settings of the host, and leave every other pool what it has.
use Rattle.std.proofs.Common.{arith, ◌≡◌, ◌≢◌, ℕ, ◌+◌, ◌<◌, ◌≤◌, Bool, true, false, cond, List, [], ◌∷◌, ◌++◌, length, is_none, Option, Some, None, refl, sym, ap, subst, ◌∙◌, ⊎_elim, ◌⊎◌, inl, inr}
use Rattle.pool_filter.specs.Settings.{Settings}
use Rattle.mailbox.specs.declared.policy.Policy.{Policy}
use Rattle.mailbox.specs.declared.slot.Slot.TheVariants.{Absent}
use Rattle.mailbox.specs.declared.writes.Write.{Write}
use Rattle.mailbox.specs.Address.{number_of}
use Rattle.mailbox.specs.Host.{host_dismissing, refusal, freed_by, host_freed, host_under, host_admitting}
use Rattle.mailbox.specs.Isolation.{IsSameFor}
use Rattle.mailbox.specs.Keeping.{under, without_address}
use Rattle.mailbox.specs.State.{HostState, slot_at, with_slot, holder}
use Rattle.mailbox.specs.Words.{settings_of}
use Rattle.mailbox.specs.Writes.{after_writes, writes_dismissing, writes_freed_by, writes_freeing, writes_under}
use Rattle.mailbox.proofs.Freed.{holder_below, nothing_done}
use Rattle.mailbox.proofs.Others.{others_meanwhile, others_alike}
use Rattle.mailbox.proofs.Settle.{settled}
use Rattle.mailbox_laws.specs.Turns.{writes_taken, writes_admitting}

-- ---- a dismissal

pub after_dismissal : (h : HostState) (p : ℕ) → p < 64 → length h.ids ≤ 64 → after_writes (settings_of h) (writes_dismissing h p) ≡ settings_of (host_dismissing h p)
unfolding writes_dismissing host_dismissing
after_dismissal h p small few = settled h p Absent small few

pub dismissal_meanwhile : (h : HostState) (p q : ℕ) (done left : List Write) → p < 64 → length h.ids ≤ 64 → q < 64 → q ≢ p → done ++ left ≡ writes_dismissing h p → IsSameFor (settings_of h) (after_writes (settings_of h) done) q
unfolding writes_dismissing host_dismissing
dismissal_meanwhile h p q done left small few q_small other is = others_meanwhile h p q Absent done left small few q_small other is

-- ---- lists of writes, one after another

pub after_both : (s : Settings) (xs ys : List Write) → after_writes s (xs ++ ys) ≡ after_writes (after_writes s xs) ys
after_both s [] ys = refl
after_both s (x ∷ xs) ys = after_both (after_writes s (x ∷ [])) xs ys

-- some of them are some of the first, or all of the first and some of the second
abbrev pub SomeOfFirst : List Write → List Write → Type 0
SomeOfFirst xs done = (rest : List Write) × (done ++ rest ≡ xs)

abbrev pub SomeOfSecond : List Write → List Write → List Write → List Write → Type 0
SomeOfSecond xs ys done left = (more : List Write) × ((done ≡ xs ++ more) × (more ++ left ≡ ys))

head_of : Write → List Write → Write
head_of w [] = w
head_of w (x ∷ xs) = x

tail_of : List Write → List Write
tail_of [] = []
tail_of (x ∷ xs) = xs

split_done : (xs ys done left : List Write) → done ++ left ≡ xs ++ ys → (SomeOfFirst xs done) ⊎ (SomeOfSecond xs ys done left)
unfolding head_of tail_of
split_done [] ys done left is = inr (done, (refl, is))
split_done (x ∷ xs) ys [] left is = inl (x ∷ xs, refl)
split_done (x ∷ xs) ys (d ∷ ds) left is =
    ⊎_elim
    (λ first. inl (first.0, λ i. same i ∷ first.1 i))
    (λ second. inr (second.0, (λ i. same i ∷ second.1.0 i, second.1.1)))
    (split_done xs ys ds left (ap tail_of is))
  where
    same : d ≡ x
    same = ap (head_of d) is

-- ---- a policy

pub few_freed : (h : HostState) (a : ℕ) (o : Option ℕ) → length h.ids ≤ 64 → length (freed_by h a o).ids ≤ 64
few_freed h a None few = few
few_freed h a (Some q) few = few

freed_after : (h : HostState) (p a : ℕ) (o : Option ℕ) → holder h p a ≡ o → length h.ids ≤ 64 → after_writes (settings_of h) (writes_freed_by h a o) ≡ settings_of (freed_by h a o)
freed_after h p a None is few = refl
freed_after h p a (Some q) is few = settled h q (without_address a (slot_at h q)) (holder_below h p a q is) few

freed_meanwhile : (h : HostState) (p q a : ℕ) (o : Option ℕ) (done left : List Write) → holder h p a ≡ o → length h.ids ≤ 64 → q < 64 → o ≢ Some q → done ++ left ≡ writes_freed_by h a o → IsSameFor (settings_of h) (after_writes (settings_of h) done) q
freed_meanwhile h p q a None done left at few q_small other is = nothing_done (settings_of h) q done left is
freed_meanwhile h p q a (Some r) done left at few q_small other is =
    others_meanwhile h r q (without_address a (slot_at h r)) done left (holder_below h p a r at) few q_small (λ same. other (ap Some (sym same))) is

freed_alike : (h : HostState) (p q a : ℕ) (o : Option ℕ) → holder h p a ≡ o → length h.ids ≤ 64 → q < 64 → o ≢ Some q → IsSameFor (settings_of h) (settings_of (freed_by h a o)) q
freed_alike h p q a None at few q_small other = record { settings = refl; accepts = λ frame. refl; permitted = λ frame. refl }
freed_alike h p q a (Some r) at few q_small other = others_alike h r q (without_address a (slot_at h r)) (holder_below h p a r at) few q_small (λ same. other (ap Some (sym same)))

same_chain : (r s t : Settings) (q : ℕ) → IsSameFor r s q → IsSameFor s t q → IsSameFor r t q
same_chain r s t q first second = record {
  settings = first.settings ∙ second.settings;
  accepts = λ frame. first.accepts frame ∙ second.accepts frame;
  permitted = λ frame. first.permitted frame ∙ second.permitted frame;
}

taken_after : (h : HostState) (p : ℕ) (policy : Policy) → p < 64 → length h.ids ≤ 64 → after_writes (settings_of h) (writes_taken h p policy) ≡ settings_of (host_under (host_freed h p (number_of policy.address)) p policy)
unfolding writes_freeing writes_under host_freed host_under
taken_after h p policy small few =
    after_both (settings_of h) (writes_freed_by h a (holder h p a)) (writes_under k p policy)
    ∙ ap (λ s. after_writes s (writes_under k p policy)) (freed_after h p a (holder h p a) refl few)
    ∙ settled k p (under policy (slot_at k p)) small (few_freed h a (holder h p a) few)
  where
    a : ℕ
    a = number_of policy.address

    k : HostState
    k = freed_by h a (holder h p a)

taken_meanwhile : (h : HostState) (p q : ℕ) (policy : Policy) (done left : List Write) → p < 64 → length h.ids ≤ 64 → q < 64 → q ≢ p → holder h p (number_of policy.address) ≢ Some q → done ++ left ≡ writes_taken h p policy → IsSameFor (settings_of h) (after_writes (settings_of h) done) q
unfolding writes_freeing writes_under host_freed host_under
taken_meanwhile h p q policy done left small few q_small other unhurt is =
    ⊎_elim
    (λ first. freed_meanwhile h p q a (holder h p a) done first.0 refl few q_small unhurt first.1)
    (λ second. subst (λ (l : List Write). IsSameFor (settings_of h) (after_writes (settings_of h) l) q) (sym second.1.0)
    (subst (λ (s : Settings). IsSameFor (settings_of h) s q) (sym (after_both (settings_of h) (writes_freed_by h a (holder h p a)) second.0 ∙ ap (λ s. after_writes s second.0) (freed_after h p a (holder h p a) refl few)))
    (same_chain (settings_of h) (settings_of k) (after_writes (settings_of k) second.0) q
    (freed_alike h p q a (holder h p a) refl few q_small unhurt)
    (others_meanwhile k p q (under policy (slot_at k p)) second.0 left small (few_freed h a (holder h p a) few) q_small other second.1.1))))
    (split_done (writes_freed_by h a (holder h p a)) (writes_under k p policy) done left is)
  where
    a : ℕ
    a = number_of policy.address

    k : HostState
    k = freed_by h a (holder h p a)

pub after_policy : (h : HostState) (p : ℕ) (policy : Policy) → p < 64 → length h.ids ≤ 64 → after_writes (settings_of h) (writes_admitting h p policy) ≡ settings_of (host_admitting h p policy)
unfolding host_admitting
after_policy h p policy small few = go (is_none (refusal h p policy))
  where
    go : (b : Bool) → after_writes (settings_of h) (cond b (writes_taken h p policy) []) ≡ settings_of (cond b (host_under (host_freed h p (number_of policy.address)) p policy) h)
    go true = taken_after h p policy small few
    go false = refl

pub policy_meanwhile : (h : HostState) (p q : ℕ) (policy : Policy) (done left : List Write) → p < 64 → length h.ids ≤ 64 → q < 64 → q ≢ p → holder h p (number_of policy.address) ≢ Some q → done ++ left ≡ writes_admitting h p policy → IsSameFor (settings_of h) (after_writes (settings_of h) done) q
policy_meanwhile h p q policy done left small few q_small other unhurt is = go (is_none (refusal h p policy)) is
  where
    go : (b : Bool) → done ++ left ≡ cond b (writes_taken h p policy) [] → IsSameFor (settings_of h) (after_writes (settings_of h) done) q
    go true same = taken_meanwhile h p q policy done left small few q_small other unhurt same
    go false same = nothing_done (settings_of h) q done left same

pub policy_ids : (h : HostState) (p : ℕ) (policy : Policy) → (host_admitting h p policy).ids ≡ h.ids
unfolding host_admitting host_under host_freed
policy_ids h p policy = go (is_none (refusal h p policy)) (holder h p (number_of policy.address))
  where
    put : HostState → HostState
    put k = with_slot k p (under policy (slot_at k p))

    go : (b : Bool) (o : Option ℕ) → (cond b (put (freed_by h (number_of policy.address) o)) h).ids ≡ h.ids
    go true None = refl
    go true (Some q) = refl
    go false o = refl
