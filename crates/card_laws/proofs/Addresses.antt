-- Who owns an address, who loses one to a policy, and who holds one, in two hosts of which the policies are the same.
use Rattle.std.proofs.Common.{arith, ◌≡◌, ◌≢◌, ℕ, zero, suc, ◌+◌, ◌<◌, ◌≤◌, Bool, true, false, cond, not, ◌&&◌, ◌||◌, length, Option, Some, None, refl, sym, ap, ◌∙◌, subst, eqb, eqb-true, ltb, true≢false}
use Rattle.std.specs.Prelude.{is_none}
use Rattle.std.specs.List.{list_any, range_with_len}
use Rattle.std.proofs.lemmas.Bool.{eqb-false, ltb-true, ltb-false}
use Rattle.std.proofs.lemmas.List.{get_or_past, get_or-set_same, length-set}
use Rattle.mailbox.specs.declared.not_admitted.NotAdmitted.TheVariants.{NotUnicast, AddressOwned, NoSuchPlace}
use Rattle.mailbox.specs.declared.policy.Policy.{Policy}
use Rattle.mailbox.specs.declared.slot.Slot.{Slot}
use Rattle.mailbox.specs.declared.slot.Slot.TheVariants.{Absent, Admitted}
use Rattle.mailbox.specs.Address.{is_number, is_unicast, number_of}
use Rattle.mailbox.specs.Host.{freed_by, host_admitting, host_dismissing, host_freed, host_under, refusal}
use Rattle.mailbox.specs.Keeping.{under, without_address}
use Rattle.mailbox.specs.Policy.{is_granted, is_placed}
use Rattle.mailbox.specs.Slot.{holds, owns, policy_of}
use Rattle.mailbox.specs.State.{HostState, first_where, holder, is_owned, is_taken, other_holds, slot_at, with_slot}
use Rattle.mailbox.specs.Within.{IsWithin, IsWithinPolicy, KeepsPolicies}
use Rattle.card.specs.Alike.{may_choose}
use Rattle.mailbox.proofs.Admitted.{dismiss_policies, gone_at}
use Rattle.mailbox.proofs.Freed.{take_policies}

-- ---- truth values

or_none : (b : Bool) → (b || false) ≡ b
or_none true = refl
or_none false = refl

or_twice : (b : Bool) → (b || (b || false)) ≡ b
or_twice true = refl
or_twice false = refl

or_thrice : (b : Bool) → (b || (b || b)) ≡ b
or_thrice true = refl
or_thrice false = refl

-- ---- the owner

abbrev is_owner : Option Policy → ℕ → Bool
is_owner None a = false
is_owner (Some policy) a = eqb (number_of policy.address) a

owns_by : (s : Slot) (a : ℕ) → owns s a ≡ is_owner (policy_of s) a
owns_by Absent a = refl
owns_by (Admitted policy guest) a = refl

pub owned_alike : (h k : HostState) (p a : ℕ) → KeepsPolicies h k → is_owned h p a ≡ is_owned k p a
unfolding is_owned
owned_alike h k p a same = λ i. list_any (λ q. not (eqb q p) && each q i) (range_with_len 0 64)
  where
    each : (q : ℕ) → owns (slot_at h q) a ≡ owns (slot_at k q) a
    each q = owns_by (slot_at h q) a ∙ ap (λ (o : Option Policy). is_owner o a) (same q) ∙ sym (owns_by (slot_at k q) a)

-- so a policy is refused for the same reason
pub refusal_alike : (h k : HostState) (q : ℕ) (policy : Policy) → KeepsPolicies h k → h.ids ≡ k.ids → refusal h q policy ≡ refusal k q policy
unfolding refusal
refusal_alike h k q policy same ids = λ i. cond (not (is_unicast (number_of policy.address))) (Some NotUnicast)
    (cond (owned_alike h k q (number_of policy.address) same i) (Some AddressOwned)
    (cond (is_placed (ids i) policy.vlans) None (Some NoSuchPlace)))

-- ---- the one holder

none_first : (t : ℕ → Bool) (p first count : ℕ) → t p ≡ false → is_number (first_where t first count) p ≡ false
none_first t p first zero free = refl
none_first t p first (suc count) free = go (t first) refl (none_first t p (suc first) count free)
  where
    go : (b : Bool) → t first ≡ b → is_number (first_where t (suc first) count) p ≡ false → is_number (cond b (Some first) (first_where t (suc first) count)) p ≡ false
    go true here rest = differ (eqb first p) refl
      where
        differ : (c : Bool) → eqb first p ≡ c → eqb first p ≡ false
        differ true same = absurd (true≢false (sym here ∙ ap t (eqb-true first p same) ∙ free))
        differ false is = is
    go false is rest = rest

one_first : (t : ℕ → Bool) (p first count : ℕ) → first ≤ p → p < first + count → t p ≡ true → ((r : ℕ) → r < first + count → r ≢ p → t r ≡ false) → is_number (first_where t first count) p ≡ true
one_first t p first zero past below here others = absurd (omega (arith, past, below))
one_first t p first (suc count) past below here others =
    go (eqb first p) refl (λ later. one_first t p (suc first) count later (omega (arith, below)) here (λ r small. others r (omega (arith, small))))
  where
    go : (c : Bool) → eqb first p ≡ c → (suc first ≤ p → is_number (first_where t (suc first) count) p ≡ true) → is_number (first_where t first (suc count)) p ≡ true
    go true same rest =
        ap (λ b. is_number (cond b (Some first) (first_where t (suc first) count)) p) (ap t (eqb-true first p same) ∙ here) ∙ same
    go false differ rest =
        let other : first ≢ p = eqb-false first p differ in
        ap (λ b. is_number (cond b (Some first) (first_where t (suc first) count)) p) (others first (omega arith) other) ∙ rest (omega (arith, past, other))

-- it is p exactly where p is another than q, and holds the address
holder_is : (h : HostState) (q p a : ℕ) → p < 64 → IsWithin h → is_number (holder h q a) p ≡ other_holds h q a p
unfolding holder
holder_is h q p a small within = go (other_holds h q a p) refl
  where
    other_free : (r : ℕ) → r < 64 → r ≢ p → other_holds h q a p ≡ true → other_holds h q a r ≡ false
    other_free r below other here = go (eqb p q) (holds (slot_at h p) a) refl here
      where
        go : (c d : Bool) → holds (slot_at h p) a ≡ d → (not c && d) ≡ true → other_holds h q a r ≡ false
        go true d held there = absurd (true≢false (sym there))
        go false false held there = absurd (true≢false (sym there))
        go false true held there = ap (λ b. not (eqb r q) && b) (within.one_holder p r a small below other held) ∙ none (eqb r q)
          where
            none : (b : Bool) → (not b && false) ≡ false
            none true = refl
            none false = refl

    go : (b : Bool) → other_holds h q a p ≡ b → is_number (first_where (other_holds h q a) 0 64) p ≡ b
    go true here = one_first (other_holds h q a) p 0 64 (omega arith) (omega (arith, small)) here (λ r below other. other_free r (omega (arith, below)) other here)
    go false free = none_first (other_holds h q a) p 0 64 free

pub holder_alike : (h k : HostState) (q p a : ℕ) → p < 64 → IsWithin h → IsWithin k → slot_at h p ≡ slot_at k p → is_number (holder h q a) p ≡ is_number (holder k q a) p
holder_alike h k q p a small within also same =
    holder_is h q p a small within
    ∙ ap (λ (s : Slot). not (eqb p q) && holds s a) same
    ∙ sym (holder_is k q p a small also)

-- ---- policies that come and go

freed_many : (h : HostState) (a : ℕ) (o : Option ℕ) → length (freed_by h a o).slots ≡ length h.slots
freed_many h a None = refl
freed_many h a (Some q) = length-set h.slots q (without_address a (slot_at h q))

put_policy : (h : HostState) (q : ℕ) (policy : Policy) → q < length h.slots → policy_of (slot_at (with_slot h q (under policy (slot_at h q))) q) ≡ Some policy
put_policy h q policy inside = ap policy_of (get_or-set_same h.slots q (under policy (slot_at h q)) Absent inside)

taken_own : (h : HostState) (q : ℕ) (policy : Policy) → q < 64 → length h.slots ≡ 64 → policy_of (slot_at (host_under (host_freed h q (number_of policy.address)) q policy) q) ≡ Some policy
unfolding host_under host_freed
taken_own h q policy small many =
    let a : ℕ = number_of policy.address in
    put_policy (freed_by h a (holder h q a)) q policy (omega (arith, small, many, freed_many h a (holder h q a)))

-- the policy of each function after one was taken, in both hosts
taken_alike : (h k : HostState) (q r : ℕ) (policy : Policy) → q < 64 → length h.slots ≡ 64 → length k.slots ≡ 64 → KeepsPolicies h k
    → policy_of (slot_at (host_under (host_freed h q (number_of policy.address)) q policy) r) ≡ policy_of (slot_at (host_under (host_freed k q (number_of policy.address)) q policy) r)
taken_alike h k q r policy small many also_many same = go (eqb r q) refl
  where
    go : (c : Bool) → eqb r q ≡ c → policy_of (slot_at (host_under (host_freed h q (number_of policy.address)) q policy) r) ≡ policy_of (slot_at (host_under (host_freed k q (number_of policy.address)) q policy) r)
    go true here =
        subst (λ (n : ℕ). policy_of (slot_at (host_under (host_freed h q (number_of policy.address)) q policy) n) ≡ policy_of (slot_at (host_under (host_freed k q (number_of policy.address)) q policy) n))
        (sym (eqb-true r q here)) (taken_own h q policy small many ∙ sym (taken_own k q policy small also_many))
    go false differ =
        let other : r ≢ q = eqb-false r q differ in
        sym (take_policies h q policy r other) ∙ same r ∙ take_policies k q policy r other

pub policies_admitted : (h k : HostState) (q : ℕ) (policy : Policy) → q < 64 → length h.slots ≡ 64 → length k.slots ≡ 64 → h.ids ≡ k.ids → KeepsPolicies h k
    → KeepsPolicies (host_admitting h q policy) (host_admitting k q policy)
unfolding host_admitting
policies_admitted h k q policy small many also_many ids same r =
    go (is_none (refusal h q policy))
    ∙ (λ i. policy_of (slot_at (cond (is_none (refusal_alike h k q policy same ids i)) (host_under (host_freed k q (number_of policy.address)) q policy) k) r))
  where
    go : (b : Bool) → policy_of (slot_at (cond b (host_under (host_freed h q (number_of policy.address)) q policy) h) r) ≡ policy_of (slot_at (cond b (host_under (host_freed k q (number_of policy.address)) q policy) k) r)
    go true = taken_alike h k q r policy small many also_many same
    go false = same r

dismissed_own : (h : HostState) (q : ℕ) → policy_of (slot_at (host_dismissing h q) q) ≡ None
unfolding host_dismissing
dismissed_own h q = ap policy_of (gone_at h q)

pub policies_dismissed : (h k : HostState) (q : ℕ) → KeepsPolicies h k → KeepsPolicies (host_dismissing h q) (host_dismissing k q)
policies_dismissed h k q same r = go (eqb r q) refl
  where
    go : (c : Bool) → eqb r q ≡ c → policy_of (slot_at (host_dismissing h q) r) ≡ policy_of (slot_at (host_dismissing k q) r)
    go true here = subst (λ (n : ℕ). policy_of (slot_at (host_dismissing h q) n) ≡ policy_of (slot_at (host_dismissing k q) n)) (sym (eqb-true r q here)) (dismissed_own h q ∙ sym (dismissed_own k q))
    go false differ =
        let other : r ≢ q = eqb-false r q differ in
        sym (dismiss_policies h q r other) ∙ same r ∙ dismiss_policies k q r other

-- ---- addresses of functions that choose none

-- a function whose policy doesn't let it choose holds its permanent address alone
owner_holds : (s : Slot) (a : ℕ) → IsWithinPolicy s → may_choose (policy_of s) ≡ false → holds s a ≡ is_owner (policy_of s) a
unfolding holds
owner_holds Absent a within none = refl
owner_holds (Admitted policy None) a within none = or_none (eqb (number_of policy.address) a)
owner_holds (Admitted policy (Some g)) a within none = go g.second refl
  where
    own : ℕ
    own = number_of policy.address

    -- what the policy grants is that
    granted : (b : ℕ) → is_granted policy b ≡ true → own ≡ b
    granted b is = eqb-true own b (sym (or_none (eqb own b)) ∙ (λ i. eqb own b || (sym none i && is_unicast b)) ∙ is)

    go : (o : Option ℕ) → g.second ≡ o → (eqb own a || (eqb g.address a || is_number o a)) ≡ eqb own a
    go None is = ap (λ n. eqb own a || (eqb n a || false)) (sym (granted g.address within.1.address)) ∙ or_twice (eqb own a)
    go (Some b) is =
        (λ i. eqb own a || (eqb (sym (granted g.address within.1.address) i) a || eqb (sym (granted b (within.1.second b is)) i) a))
        ∙ or_thrice (eqb own a)

-- so where those that may choose are the same, the same addresses are held by others
pub taken_same : (h k : HostState) (p a : ℕ) → length h.slots ≡ 64 → length k.slots ≡ 64 → IsWithin h → IsWithin k → KeepsPolicies h k
    → ((r : ℕ) → r < 64 → may_choose (policy_of (slot_at h r)) ≡ true → slot_at h r ≡ slot_at k r) → is_taken h p a ≡ is_taken k p a
unfolding is_taken
taken_same h k p a many also_many within also same choosers = λ i. list_any (λ r. not (eqb r p) && each r i) (range_with_len 0 64)
  where
    by_policy : (r : ℕ) → r < 64 → (b : Bool) → may_choose (policy_of (slot_at h r)) ≡ b → holds (slot_at h r) a ≡ holds (slot_at k r) a
    by_policy r small true is = ap (λ (s : Slot). holds s a) (choosers r small is)
    by_policy r small false is =
        owner_holds (slot_at h r) a (within.policies r small) is
        ∙ ap (λ (o : Option Policy). is_owner o a) (same r)
        ∙ sym (owner_holds (slot_at k r) a (also.policies r small) (ap may_choose (sym (same r)) ∙ is))

    each : (r : ℕ) → holds (slot_at h r) a ≡ holds (slot_at k r) a
    each r = go (ltb r 64) refl
      where
        go : (b : Bool) → ltb r 64 ≡ b → holds (slot_at h r) a ≡ holds (slot_at k r) a
        go true is = by_policy r (ltb-true r 64 is) _ refl
        go false is =
            let past : 64 ≤ r = ltb-false r 64 is in
            ap (λ (s : Slot). holds s a) (get_or_past h.slots r Absent (omega (arith, past, many)) ∙ sym (get_or_past k.slots r Absent (omega (arith, past, also_many))))
