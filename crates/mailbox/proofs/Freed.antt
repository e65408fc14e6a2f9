-- Where an address is taken from the function that chose it, no other function holds it.
use Rattle.std.proofs.Common.{arith, ◌≡◌, ◌≢◌, ℕ, zero, suc, ◌+◌, ◌<◌, ◌≤◌, Bool, true, false, cond, not, ◌&&◌, ◌||◌, List, [], ◌++◌, ◌∷◌, length, get_or, Option, Some, None, refl, sym, ap, subst, ◌∙◌, true≢false, eqb, eqb-true, ltb, ⊎_elim, ◌⊎◌, inl, inr}
use Rattle.std.specs.List.{list_any, range_with_len}
use Rattle.std.proofs.lemmas.Bool.{eqb-false, ltb-true, ltb-false, and_parts, or_cases, not-true, false_from_ne_true}
use Rattle.std.proofs.lemmas.Bool.Decides.{nat_tests}
use Rattle.std.proofs.lemmas.List.{get_or-set_same, get_or_past}
use Rattle.std.proofs.lemmas.List.FromFn.{get_or-range_with_len}
use Rattle.std.proofs.lemmas.List.Folds.{list_any_at}
use Rattle.pool_filter.specs.Settings.{Settings}
use Rattle.mailbox.specs.declared.not_admitted.NotAdmitted.{NotAdmitted}
use Rattle.mailbox.specs.declared.not_admitted.NotAdmitted.TheVariants.{NotUnicast, AddressOwned, NoSuchPlace}
use Rattle.mailbox.specs.declared.policy.Policy.{Policy}
use Rattle.mailbox.specs.declared.slot.Guest.{Guest}
use Rattle.mailbox.specs.declared.slot.Slot.{Slot}
use Rattle.mailbox.specs.declared.slot.Slot.TheVariants.{Absent, Admitted}
use Rattle.mailbox.specs.declared.writes.Write.{Write}
use Rattle.mailbox.specs.Address.{number_of, is_number, is_unicast}
use Rattle.mailbox.specs.Host.{refusal, freed_by, host_freed, host_under}
use Rattle.mailbox.specs.Isolation.{IsSameFor, IsSameForAll}
use Rattle.mailbox.specs.Keeping.{address_without, second_without, guest_without, without_address}
use Rattle.mailbox.specs.Policy.{is_granted, is_placed}
use Rattle.mailbox.specs.Slot.{policy_of, is_up, holds, owns}
use Rattle.mailbox.specs.State.{HostState, slot_at, with_slot, is_taken, other_holds, other_owns, is_owned, first_where, holder}
use Rattle.mailbox.specs.Within.{IsGuestWithin, IsWithinPolicy, IsWithin, KeepsPolicies, KeepsOtherPolicies}
use Rattle.mailbox.specs.Words.{settings_of}
use Rattle.mailbox.specs.Writes.{after_writes}
use Rattle.mailbox.proofs.Admitted.{own_granted, put_within, put_policies, down_settings}
use Rattle.mailbox.proofs.Isolation.{slot_stays}
use Rattle.mailbox.proofs.Policies.{own_held, address_held, second_held, number_is, HoldsNoMore, stands, policies_with}
use Rattle.mailbox.proofs.Shown.{found}
use Rattle.mailbox.proofs.Turns.{some_is, none_is}

-- ---- the first that passes a test

first_found : (t : ℕ → Bool) (k n q : ℕ) → first_where t k n ≡ Some q → (q < k + n) × (t q ≡ true)
first_found t k zero q is = absurd (none_is is)
first_found t k (suc n) q is = go (λ same. first_found t (suc k) n q same) (t k) refl is
  where
    go : (first_where t (suc k) n ≡ Some q → (q < suc k + n) × (t q ≡ true)) → (b : Bool) → t k ≡ b → cond b (Some k) (first_where t (suc k) n) ≡ Some q → (q < k + suc n) × (t q ≡ true)
    go later true here same = subst (λ (m : ℕ). (m < k + suc n) × (t m ≡ true)) (some_is same) (omega arith, here)
    go later false there same =
        let rest : (q < suc k + n) × (t q ≡ true) = later same in
        (omega (arith, rest.0), rest.1)

none_found : (t : ℕ → Bool) (k n q : ℕ) → first_where t k n ≡ None → k ≤ q → q < k + n → t q ≡ false
none_found t k zero q is past below = absurd (omega (arith, past, below))
none_found t k (suc n) q is past below = go (λ same after before. none_found t (suc k) n q same after before) (t k) refl is (eqb k q) refl
  where
    go : (first_where t (suc k) n ≡ None → suc k ≤ q → q < suc k + n → t q ≡ false) → (b : Bool) → t k ≡ b → cond b (Some k) (first_where t (suc k) n) ≡ None → (c : Bool) → eqb k q ≡ c → t q ≡ false
    go later true here same c at = absurd (none_is (sym same))
    go later false there same true at = ap t (sym (eqb-true k q at)) ∙ there
    go later false there same false differs = let other : k ≢ q = eqb-false k q differs in later same (omega (arith, past, other)) (omega (arith, below))

-- ---- an address that a function gives up

second_was : (a b : ℕ) (o : Option ℕ) → second_without a o ≡ Some b → o ≡ Some b
second_was a b None is = is
second_was a b (Some x) is = go (eqb x a) is
  where
    go : (c : Bool) → cond c None (Some x) ≡ Some b → Some x ≡ Some b
    go true same = absurd (none_is same)
    go false same = same

without_fewer : (s : Slot) (a : ℕ) → HoldsNoMore (without_address a s) s
unfolding holds
without_fewer Absent a b there = there
without_fewer (Admitted policy None) a b there = there
without_fewer (Admitted policy (Some g)) a b there = go (or_cases (eqb (number_of policy.address) b) (eqb (address_without policy a g.address) b || is_number (second_without a g.second) b) there)
  where
    first : (c : Bool) → eqb (cond c (number_of policy.address) g.address) b ≡ true → holds (Admitted policy (Some g)) b ≡ true
    first true is = own_held policy (Some g) b is
    first false is = subst (λ (n : ℕ). holds (Admitted policy (Some g)) n ≡ true) (eqb-true g.address b is) (address_held policy g)

    rest : (eqb (address_without policy a g.address) b ≡ true) ⊎ (is_number (second_without a g.second) b ≡ true) → holds (Admitted policy (Some g)) b ≡ true
    rest (inl is) = first (eqb g.address a) is
    rest (inr is) = second_held policy g b (second_was a b g.second (number_is (second_without a g.second) b is))

    go : (eqb (number_of policy.address) b ≡ true) ⊎ ((eqb (address_without policy a g.address) b || is_number (second_without a g.second) b) ≡ true) → holds (Admitted policy (Some g)) b ≡ true
    go (inl own) = own_held policy (Some g) b own
    go (inr other) = rest (or_cases (eqb (address_without policy a g.address) b) (is_number (second_without a g.second) b) other)

without_holds : (s : Slot) (a : ℕ) → owns s a ≡ false → holds (without_address a s) a ≡ false
unfolding holds
without_holds Absent a own = refl
without_holds (Admitted policy None) a own = ap (λ b. b || (false || false)) own
without_holds (Admitted policy (Some g)) a own = λ i. own i || (first (eqb g.address a) refl i || second g.second i)
  where
    first : (c : Bool) → eqb g.address a ≡ c → eqb (cond c (number_of policy.address) g.address) a ≡ false
    first true is = own
    first false is = is

    second : (o : Option ℕ) → is_number (second_without a o) a ≡ false
    second None = refl
    second (Some x) = by (eqb x a) refl
      where
        by : (c : Bool) → eqb x a ≡ c → is_number (cond c None (Some x)) a ≡ false
        by true is = refl
        by false is = is

without_within : (s : Slot) (a : ℕ) → IsWithinPolicy s → IsWithinPolicy (without_address a s)
without_within Absent a w = w
without_within (Admitted policy None) a w = w
without_within (Admitted policy (Some g)) a w = (
  w.0,
  record {
    address = first (eqb g.address a);
    second = λ b is. w.1.second b (second_was a b g.second is);
    joined = w.1.joined;
    multicast = w.1.multicast;
  },
)
  where
    first : (c : Bool) → is_granted policy (cond c (number_of policy.address) g.address) ≡ true
    first true = own_granted policy
    first false = w.1.address

without_policy : (s : Slot) (a : ℕ) → policy_of s ≡ policy_of (without_address a s)
without_policy Absent a = refl
without_policy (Admitted policy None) a = refl
without_policy (Admitted policy (Some g)) a = refl

-- ---- the host without it

absent_holds : (a : ℕ) → holds Absent a ≡ false
unfolding holds
absent_holds a = refl

-- what stands at a function that held something
stands_at : (h : HostState) (q a : ℕ) (f : Slot) → holds (slot_at h q) a ≡ true → slot_at (with_slot h q f) q ≡ f
stands_at h q a f there = go (ltb q (length h.slots)) refl
  where
    go : (b : Bool) → ltb q (length h.slots) ≡ b → slot_at (with_slot h q f) q ≡ f
    go true is = get_or-set_same h.slots q f Absent (ltb-true q (length h.slots) is)
    go false is = absurd (true≢false (sym there ∙ ap (λ s. holds s a) (get_or_past h.slots q Absent (ltb-false q (length h.slots) is)) ∙ absent_holds a))

pub holder_below : (h : HostState) (p a q : ℕ) → holder h p a ≡ Some q → q < 64
unfolding holder
holder_below h p a q is = let at : (q < 0 + 64) × (other_holds h p a q ≡ true) = first_found (other_holds h p a) 0 64 q is in omega (arith, at.0)

free_if : (h : HostState) (p a : ℕ) → ((q : ℕ) → q < 64 → other_holds h p a q ≡ false) → is_taken h p a ≡ false
unfolding is_taken
free_if h p a none = false_from_ne_true (list_any (other_holds h p a) (range_with_len 0 64)) some
  where
    some : list_any (other_holds h p a) (range_with_len 0 64) ≡ true → ⊥
    some taken =
        let at : (e : ℕ) × ((e < 0 + 64) × (other_holds h p a e ≡ true)) = found (other_holds h p a) 0 64 taken in
        true≢false (sym at.1.1 ∙ none at.0 (omega (arith, at.1.0)))

not_owned : (h : HostState) (p q a : ℕ) → q < 64 → not (eqb q p) ≡ true → is_owned h p a ≡ false → owns (slot_at h q) a ≡ false
unfolding is_owned
not_owned h p q a small other free = false_from_ne_true (owns (slot_at h q) a) owned
  where
    owned : owns (slot_at h q) a ≡ true → ⊥
    owned there =
        let place : get_or (range_with_len 0 64) q 0 ≡ 0 + q = get_or-range_with_len 0 64 q 0 small in
        let same : 0 + q ≡ q = omega arith in
        let at : other_owns h p a (get_or (range_with_len 0 64) q 0) ≡ true = ap (other_owns h p a) (place ∙ same) ∙ (λ i. other i && there i) in
        true≢false (sym (list_any_at (other_owns h p a) (range_with_len 0 64) q 0 (omega (arith, small)) at) ∙ free)

freed_free_by : (h : HostState) (p a : ℕ) (o : Option ℕ) → holder h p a ≡ o → IsWithin h → is_owned h p a ≡ false → is_taken (freed_by h a o) p a ≡ false
unfolding holder
freed_free_by h p a None is w own = free_if h p a (λ q small. none_found (other_holds h p a) 0 64 q is (omega arith) (omega (arith, small)))
freed_free_by h p a (Some q) is w own = free_if k p a (λ r small. false_from_ne_true (other_holds k p a r) (again r small))
  where
    k : HostState
    k = with_slot h q (without_address a (slot_at h q))

    at : (q < 0 + 64) × (other_holds h p a q ≡ true)
    at = first_found (other_holds h p a) 0 64 q is

    below : q < 64
    below = omega (arith, at.0)

    parts : (not (eqb q p) ≡ true) × (holds (slot_at h q) a ≡ true)
    parts = and_parts (not (eqb q p)) (holds (slot_at h q) a) at.1

    again : (r : ℕ) → r < 64 → other_holds k p a r ≡ true → ⊥
    again r small there = go (eqb r q) refl
      where
        both : (not (eqb r p) ≡ true) × (holds (slot_at k r) a ≡ true)
        both = and_parts (not (eqb r p)) (holds (slot_at k r) a) there

        go : (b : Bool) → eqb r q ≡ b → ⊥
        go true same =
            true≢false (sym both.1 ∙ ap (λ n. holds (slot_at k n) a) (eqb-true r q same)
            ∙ ap (λ s. holds s a) (stands_at h q a (without_address a (slot_at h q)) parts.1)
            ∙ without_holds (slot_at h q) a (not_owned h p q a below parts.0 own))
        go false differs =
            let other : r ≢ q = eqb-false r q differs in
            true≢false (sym both.1 ∙ ap (λ s. holds s a) (slot_stays h q r (without_address a (slot_at h q)) other)
            ∙ w.one_holder q r a below small other parts.1)

freed_within_by : (h : HostState) (p a : ℕ) (o : Option ℕ) → holder h p a ≡ o → IsWithin h → IsWithin (freed_by h a o)
unfolding holder
freed_within_by h p a None is w = w
freed_within_by h p a (Some q) is w = stands h q (without_address a (slot_at h q)) below w (record {
  within = without_within (slot_at h q) a (w.policies q below);
  held = λ b there. inl (without_fewer (slot_at h q) a b there);
})
  where
    below : q < 64
    below = let at : (q < 0 + 64) × (other_holds h p a q ≡ true) = first_found (other_holds h p a) 0 64 q is in omega (arith, at.0)

freed_policies_by : (h : HostState) (a : ℕ) (o : Option ℕ) → KeepsPolicies h (freed_by h a o)
freed_policies_by h a None = λ q. refl
freed_policies_by h a (Some q) = policies_with h q (without_address a (slot_at h q)) (without_policy (slot_at h q) a)

-- ---- a policy that is taken

taken_is : (h : HostState) (p : ℕ) (policy : Policy) → refusal h p policy ≡ None → (is_unicast (number_of policy.address) ≡ true) × (is_owned h p (number_of policy.address) ≡ false)
unfolding refusal
taken_is h p policy is = go (is_unicast (number_of policy.address)) (is_owned h p (number_of policy.address)) (is_placed h.ids policy.vlans) is
  where
    go : (b c d : Bool) → cond (not b) (Some NotUnicast) (cond c (Some AddressOwned) (cond d None (Some NoSuchPlace))) ≡ None → (b ≡ true) × (c ≡ false)
    go true false d same = (refl, refl)
    go true true d same = absurd (none_is (sym same))
    go false c d same = absurd (none_is (sym same))

pub take_within : (h : HostState) (p : ℕ) (policy : Policy) → p < 64 → refusal h p policy ≡ None → IsWithin h → IsWithin (host_under (host_freed h p (number_of policy.address)) p policy)
unfolding host_freed
take_within h p policy small is w =
    put_within (freed_by h a (holder h p a)) p policy small parts.0 (freed_free_by h p a (holder h p a) refl w parts.1) (freed_within_by h p a (holder h p a) refl w)
  where
    a : ℕ
    a = number_of policy.address

    parts : (is_unicast a ≡ true) × (is_owned h p a ≡ false)
    parts = taken_is h p policy is

pub take_policies : (h : HostState) (p : ℕ) (policy : Policy) → KeepsOtherPolicies p h (host_under (host_freed h p (number_of policy.address)) p policy)
unfolding host_freed
take_policies h p policy q other =
    freed_policies_by h (number_of policy.address) (holder h p (number_of policy.address)) q
    ∙ put_policies (freed_by h (number_of policy.address) (holder h p (number_of policy.address))) p policy q other

-- ---- where nothing is written, all is as it was

pub nothing_done : (s : Settings) (q : ℕ) (done left : List Write) → done ++ left ≡ [] → IsSameFor s (after_writes s done) q
nothing_done s q [] left is = record { settings = refl; accepts = λ frame. refl; permitted = λ frame. refl }
nothing_done s q (w ∷ ws) left is = absurd (some_written (ap length is))
  where
    some_written : suc (length (ws ++ left)) ≡ 0 → ⊥
    some_written e = omega (arith, e)

pub all_chain : (r s t : Settings) → IsSameForAll r s → IsSameForAll s t → IsSameForAll r t
all_chain r s t first second = record {
  loopback = first.loopback ∙ second.loopback;
  filtering = first.filtering ∙ second.filtering;
  default_pool = first.default_pool ∙ second.default_pool;
  multicast = λ address. first.multicast address ∙ second.multicast address;
}

-- ---- what is called one after another

-- the host after an address was freed and a policy put
pub host_is : (h k : HostState) (p a : ℕ) (o : Option ℕ) (new : HostState) (policy : Policy) → a ≡ number_of policy.address → o ≡ holder h p a → k ≡ freed_by h a o → new ≡ host_under k p policy → new ≡ host_under (host_freed h p (number_of policy.address)) p policy
unfolding host_freed
host_is h k p a o new policy address loser freed under =
    under ∙ ap (λ m. host_under m p policy) (freed ∙ ap (freed_by h a) loser ∙ ap (λ b. freed_by h b (holder h p b)) address)

-- where nobody lost an address, and the function is not up, nothing is written
pub quiet : (h k : HostState) (p a : ℕ) (o : Option ℕ) (new : HostState) (policy : Policy) → a ≡ number_of policy.address → o ≡ holder h p a → k ≡ freed_by h a o → new ≡ host_under k p policy
    → holder h p (number_of policy.address) ≡ None → p < 64 → length k.ids ≤ 64 → is_up (slot_at h p) ≡ false → settings_of new ≡ settings_of h
quiet h k p a o new policy address loser freed under none small few down =
    ap settings_of under ∙ down_settings k p policy small few (ap (λ m. is_up (slot_at m p)) same ∙ down) ∙ ap settings_of same
  where
    same : k ≡ h
    same = freed ∙ ap (freed_by h a) (loser ∙ ap (holder h p) address ∙ none)
