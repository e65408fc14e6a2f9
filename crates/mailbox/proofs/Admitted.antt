-- Under another policy a function has what that grants, and one that is dismissed has nothing.
use Rattle.std.proofs.Common.{arith, ◌≡◌, ◌≢◌, ℕ, ◌<◌, ◌≤◌, Bool, true, false, cond, not, ◌&&◌, ◌||◌, length, Option, Some, None, refl, sym, ap, subst, ◌∙◌, true≢false, eqb, eqb-true, ltb, ⊎_elim, ◌⊎◌, inl, inr, bit_and}
use Rattle.std.proofs.Math.Bool.{or-true}
use Rattle.std.proofs.lemmas.Bool.{ltb-true, ltb-false, and_parts, or_cases, not-true}
use Rattle.std.proofs.lemmas.List.{get_or-set_same, get_or_past, length-set}
use Rattle.wire_frame.specs.Bits.{has_bit}
use Rattle.wire_frame.proofs.BitLemmas.{has_bit_and, has_bit_zero}
use Rattle.mailbox.specs.declared.message.Multicast.{Multicast}
use Rattle.mailbox.specs.declared.message.Multicast.TheVariants.{Off, Asked, All}
use Rattle.mailbox.specs.declared.policy.Policy.{Policy}
use Rattle.mailbox.specs.declared.policy.VlanPolicy.{VlanPolicy}
use Rattle.mailbox.specs.declared.policy.VlanPolicy.TheVariants.{Port, Joins}
use Rattle.mailbox.specs.declared.slot.Guest.{Guest}
use Rattle.mailbox.specs.declared.slot.Slot.{Slot}
use Rattle.mailbox.specs.declared.slot.Slot.TheVariants.{Absent, Admitted}
use Rattle.mailbox.specs.Address.{number_of, is_number, is_unicast}
use Rattle.mailbox.specs.Host.{host_dismissing, host_under}
use Rattle.mailbox.specs.Isolation.{IsSameFor, IsSameForAll}
use Rattle.mailbox.specs.Keeping.{kept_address, kept_second, places_to_join, kept_multicast, kept_guest, under}
use Rattle.mailbox.specs.Policy.{is_granted, is_port_at, may_join, is_placed}
use Rattle.mailbox.specs.Slot.{policy_of, is_up, holds}
use Rattle.mailbox.specs.State.{HostState, slot_at, with_slot, is_taken}
use Rattle.mailbox.specs.Within.{may_have, IsGuestWithin, IsWithinPolicy, IsWithin, KeepsOtherPolicies}
use Rattle.mailbox.specs.Words.{settings_of}
use Rattle.pool_filter.specs.Settings.{Settings}
use Rattle.mailbox.proofs.Isolation.{slot_stays}
use Rattle.mailbox.proofs.Policies.{itself, not_all, address_held, second_held, number_is, alone, MayStand, at_place, stands}
use Rattle.mailbox.proofs.Turns.{some_is, none_is, IsAlike, settings_alike}

-- ---- what a guest keeps is granted

pub own_granted : (policy : Policy) → is_granted policy (number_of policy.address) ≡ true
own_granted policy = ap (λ b. b || (policy.may_choose && is_unicast (number_of policy.address))) (itself (number_of policy.address))

joins_kept : (vlans : VlanPolicy) (n k : ℕ) → has_bit (bit_and n (places_to_join vlans)) k ≡ true → may_join vlans k ≡ true
joins_kept (Port j) n k there = absurd (true≢false (sym (and_parts (has_bit n k) (has_bit 0 k) (sym (has_bit_and n 0 k) ∙ there)).1 ∙ has_bit_zero k))
joins_kept (Joins places) n k there = (and_parts (has_bit n k) (has_bit places k) (sym (has_bit_and n places k) ∙ there)).1

kept_within : (policy : Policy) (g : Guest) → IsGuestWithin policy (kept_guest policy g)
kept_within policy g = record {
  address = address (is_granted policy g.address) refl;
  second = second g.second;
  joined = λ k there. ap (λ b. is_port_at policy.vlans k || b) (joins_kept policy.vlans g.joined k there) ∙ or-true (is_port_at policy.vlans k);
  multicast = multicast g.multicast;
}
  where
    address : (b : Bool) → is_granted policy g.address ≡ b → is_granted policy (cond b g.address (number_of policy.address)) ≡ true
    address true may = may
    address false may = own_granted policy

    second : (o : Option ℕ) (a : ℕ) → kept_second policy o ≡ Some a → is_granted policy a ≡ true
    second None a is = absurd (none_is is)
    second (Some b) a is = go (is_granted policy b) refl is
      where
        go : (c : Bool) → is_granted policy b ≡ c → cond c (Some b) None ≡ Some a → is_granted policy a ≡ true
        go true may same = subst (λ (n : ℕ). is_granted policy n ≡ true) (some_is same) may
        go false may same = absurd (none_is same)

    multicast : (m : Multicast) → kept_multicast policy m ≡ All → policy.all_multicast ≡ true
    multicast Off is = absurd (not_all Off refl is)
    multicast Asked is = absurd (not_all Asked refl is)
    multicast All is = go policy.all_multicast refl is
      where
        go : (b : Bool) → policy.all_multicast ≡ b → cond b All Asked ≡ All → policy.all_multicast ≡ true
        go true may same = may
        go false may same = absurd (not_all Asked refl same)

-- ---- and no other function holds it

-- each address was held before, or is the permanent one
under_held : (policy : Policy) (s : Slot) (a : ℕ) → holds (under policy s) a ≡ true → (holds s a ≡ true) ⊎ (eqb (number_of policy.address) a ≡ true)
unfolding holds
under_held policy Absent a there = inr (alone policy a there)
under_held policy (Admitted old None) a there = inr (alone policy a there)
under_held policy (Admitted old (Some g)) a there = go (or_cases (eqb (number_of policy.address) a) (eqb (kept_address policy g.address) a || is_number (kept_second policy g.second) a) there)
  where
    first : (b : Bool) → eqb (cond b g.address (number_of policy.address)) a ≡ true → (holds (Admitted old (Some g)) a ≡ true) ⊎ (eqb (number_of policy.address) a ≡ true)
    first true is = inl (subst (λ (n : ℕ). holds (Admitted old (Some g)) n ≡ true) (eqb-true g.address a is) (address_held old g))
    first false is = inr is

    second : (o : Option ℕ) → kept_second policy o ≡ Some a → o ≡ Some a
    second None is = is
    second (Some b) is = chosen (is_granted policy b) is
      where
        chosen : (c : Bool) → cond c (Some b) None ≡ Some a → Some b ≡ Some a
        chosen true same = same
        chosen false same = absurd (none_is same)

    rest : (eqb (kept_address policy g.address) a ≡ true) ⊎ (is_number (kept_second policy g.second) a ≡ true) → (holds (Admitted old (Some g)) a ≡ true) ⊎ (eqb (number_of policy.address) a ≡ true)
    rest (inl is) = first (is_granted policy g.address) is
    rest (inr is) = inl (second_held old g a (second g.second (number_is (kept_second policy g.second) a is)))

    go : (eqb (number_of policy.address) a ≡ true) ⊎ ((eqb (kept_address policy g.address) a || is_number (kept_second policy g.second) a) ≡ true) → (holds (Admitted old (Some g)) a ≡ true) ⊎ (eqb (number_of policy.address) a ≡ true)
    go (inl own) = inr own
    go (inr other) = rest (or_cases (eqb (kept_address policy g.address) a) (is_number (kept_second policy g.second) a) other)

under_within : (policy : Policy) (s : Slot) → is_unicast (number_of policy.address) ≡ true → IsWithinPolicy (under policy s)
under_within policy Absent unicast = unicast
under_within policy (Admitted old None) unicast = unicast
under_within policy (Admitted old (Some g)) unicast = (unicast, kept_within policy g)

pub put_within : (h : HostState) (p : ℕ) (policy : Policy) → p < 64 → is_unicast (number_of policy.address) ≡ true → is_taken h p (number_of policy.address) ≡ false → IsWithin h → IsWithin (host_under h p policy)
unfolding host_under
put_within h p policy small unicast free w = stands h p (under policy (slot_at h p)) small w (record {
  within = under_within policy (slot_at h p) unicast;
  held = λ a there. ⊎_elim (λ before. inl before) (λ own. inr (ap (is_taken h p) (sym (eqb-true (number_of policy.address) a own)) ∙ free)) (under_held policy (slot_at h p) a there);
})

-- ---- a function that is not up makes no register

down_alike : (s : Slot) (policy : Policy) → is_up s ≡ false → IsAlike s (under policy s)
down_alike Absent policy down = record { up = refl; address = refl; second = refl; joined = λ k. refl; flags = refl; port = λ ids. refl }
down_alike (Admitted old None) policy down = record { up = refl; address = refl; second = refl; joined = λ k. refl; flags = refl; port = λ ids. refl }
down_alike (Admitted old (Some g)) policy down = absurd (true≢false down)

alike_itself : (s : Slot) → IsAlike s s
alike_itself s = record { up = refl; address = refl; second = refl; joined = λ k. refl; flags = refl; port = λ ids. refl }

pub down_settings : (h : HostState) (p : ℕ) (policy : Policy) → p < 64 → length h.ids ≤ 64 → is_up (slot_at h p) ≡ false → settings_of (host_under h p policy) ≡ settings_of h
unfolding host_under
down_settings h p policy small few down =
    sym (settings_alike h p (under policy (slot_at h p)) small few
    (⊎_elim (λ same. subst (IsAlike (slot_at h p)) (sym same) (alike_itself (slot_at h p))) (λ new. subst (IsAlike (slot_at h p)) (sym new.1) (down_alike (slot_at h p) policy down)) (at_place h p p (under policy (slot_at h p)))))

-- ---- a function that is dismissed

pub gone_at : (h : HostState) (p : ℕ) → slot_at (with_slot h p Absent) p ≡ Absent
gone_at h p = go (ltb p (length h.slots)) refl
  where
    go : (b : Bool) → ltb p (length h.slots) ≡ b → slot_at (with_slot h p Absent) p ≡ Absent
    go true is = get_or-set_same h.slots p Absent Absent (ltb-true p (length h.slots) is)
    go false is =
        let past = ltb-false p (length h.slots) is in
        get_or_past (with_slot h p Absent).slots p Absent (omega (arith, past, length-set h.slots p Absent))

none_held : (a : ℕ) → holds Absent a ≡ true → ⊥
unfolding holds
none_held a there = true≢false (sym there)

pub dismiss_within : (h : HostState) (p : ℕ) → p < 64 → IsWithin h → IsWithin (host_dismissing h p)
unfolding host_dismissing
dismiss_within h p small w = stands h p Absent small w (record { within = tt; held = λ a there. absurd (none_held a there) })

-- ---- the others' policies

others_policies : (h : HostState) (p : ℕ) (f : Slot) → KeepsOtherPolicies p h (with_slot h p f)
others_policies h p f q other = ap policy_of (sym (slot_stays h p q f other))

pub dismiss_policies : (h : HostState) (p : ℕ) → KeepsOtherPolicies p h (host_dismissing h p)
unfolding host_dismissing
dismiss_policies h p = others_policies h p Absent

pub put_policies : (h : HostState) (p : ℕ) (policy : Policy) → KeepsOtherPolicies p h (host_under h p policy)
unfolding host_under
put_policies h p policy = others_policies h p (under policy (slot_at h p))

-- ---- where nothing is changed

pub same_for_all : (s : Settings) → IsSameForAll s s
same_for_all s = record { loopback = refl; filtering = refl; default_pool = refl; multicast = λ address. refl }
