-- No function has more than its policy grants, and no two hold one address: what a host keeps from the first on.
use Rattle.std.proofs.Common.{arith, ◌≡◌, ◌≢◌, ℕ, ◌+◌, ◌^◌, ◌<◌, ◌≤◌, Bool, true, false, cond, not, ◌&&◌, ◌||◌, List, replicate, length, get_or, Option, Some, None, refl, sym, ap, subst, ◌∙◌, true≢false, eqb, eqb-true, leb, ltb, ⊎_elim, ◌⊎◌, inl, inr}
use Rattle.std.specs.List.{range_with_len}
use Rattle.std.specs.Int.{bit_not, w64}
use Rattle.std.proofs.Math.Bool.{or-true}
use Rattle.std.proofs.lemmas.Bool.{eqb-false, ltb-true, ltb-false, and_parts, or_cases, not-true, false_from_ne_true}
use Rattle.std.proofs.lemmas.Bool.Decides.{nat_tests}
use Rattle.std.proofs.lemmas.List.{get_or-set_same, get_or_past, get_or-replicate, length-set}
use Rattle.std.proofs.lemmas.List.FromFn.{get_or-range_with_len}
use Rattle.std.proofs.lemmas.List.Folds.{list_any_at}
use Rattle.wire_frame.specs.Bits.{has_bit, with_bit}
use Rattle.wire_frame.proofs.BitLemmas.{has_bit_or, has_bit_and, has_bit_zero}
use Rattle.mailbox.specs.declared.message.Multicast.{Multicast}
use Rattle.mailbox.specs.declared.message.Multicast.TheVariants.{Off, Asked, All}
use Rattle.mailbox.specs.declared.message.Message.{Message}
use Rattle.mailbox.specs.declared.message.Message.TheVariants.{Reset, SetAddress, SetMulticast, JoinVlan, LeaveVlan, SetFrameLength, ClearSecond, ReplaceSecond, AddSecond, NegotiateApi, GetQueues, SetMulticastMode, GetLinkState, Other}
use Rattle.mailbox.specs.declared.policy.Policy.{Policy}
use Rattle.mailbox.specs.declared.policy.VlanPolicy.{VlanPolicy}
use Rattle.mailbox.specs.declared.slot.Guest.{Guest}
use Rattle.mailbox.specs.declared.slot.Slot.{Slot}
use Rattle.mailbox.specs.declared.slot.Slot.TheVariants.{Absent, Admitted}
use Rattle.mailbox.specs.Address.{number_of, is_number, is_unicast}
use Rattle.mailbox.specs.Granting.{may_add, moved, has_room, second_added, found_by, found, joined_at, without_bit, left_at, wants_groups, with_multicast, granted, when_reset, answered}
use Rattle.mailbox.specs.Host.{outcome, slot_after, host_after, host_without}
use Rattle.mailbox.specs.Policy.{is_port, is_port_at, is_granted, may_join, place_from, place_where, multicast_for}
use Rattle.mailbox.specs.Slot.{policy_of, with_guest, granted_to, only, begun, has_queues, has_modes, holds}
use Rattle.mailbox.specs.State.{HostState, slot_at, with_slot, is_taken, other_holds}
use Rattle.mailbox.specs.Within.{may_have, IsGuestWithin, IsWithinPolicy, IsWithin, KeepsPolicies}
use Rattle.mailbox.specs.Words.{is_all}
use Rattle.mailbox.proofs.Entries.{has_bit_pow}
use Rattle.mailbox.proofs.Isolation.{slot_stays}
use Rattle.mailbox.proofs.Turns.{some_is, none_is}

-- ---- what one message makes of a guest

-- the function holds the address, or no other one does
abbrev pub Has : HostState → ℕ → Policy → Option Guest → ℕ → Type 0
Has h p policy guest a = (holds (Admitted policy guest) a ≡ true) ⊎ (is_taken h p a ≡ false)

-- a guest that may come after another, or after none
pub record MayCome (h : HostState) (p : ℕ) (policy : Policy) (before : Option Guest) (g : Guest) : Type 0 where
  pub within : IsGuestWithin policy g
  pub address : Has h p policy before g.address
  pub second : (a : ℕ) → g.second ≡ Some a → Has h p policy before a

pub itself : (a : ℕ) → eqb a a ≡ true
itself a = grind (arith, nat_tests)

pub own_held : (policy : Policy) (guest : Option Guest) (a : ℕ) → eqb (number_of policy.address) a ≡ true → holds (Admitted policy guest) a ≡ true
unfolding holds
own_held policy guest a is = rw is refl

pub address_held : (policy : Policy) (g : Guest) → holds (Admitted policy (Some g)) g.address ≡ true
unfolding holds
address_held policy g = ap (λ b. eqb (number_of policy.address) g.address || (b || is_number g.second g.address)) (itself g.address) ∙ or-true (eqb (number_of policy.address) g.address)

pub second_held : (policy : Policy) (g : Guest) (a : ℕ) → g.second ≡ Some a → holds (Admitted policy (Some g)) a ≡ true
unfolding holds
second_held policy g a is =
    ap (λ o. eqb (number_of policy.address) a || (eqb g.address a || is_number o a)) is
    ∙ ap (λ b. eqb (number_of policy.address) a || (eqb g.address a || b)) (itself a)
    ∙ ap (λ b. eqb (number_of policy.address) a || b) (or-true (eqb g.address a)) ∙ or-true (eqb (number_of policy.address) a)

same_comes : (h : HostState) (p : ℕ) (policy : Policy) (g : Guest) → IsGuestWithin policy g → MayCome h p policy (Some g) g
same_comes h p policy g w = record { within = w; address = inl (address_held policy g); second = λ a is. inl (second_held policy g a is) }

-- what no address, VLAN or mode is changed by
quiet_comes : (h : HostState) (p : ℕ) (policy : Policy) (g k : Guest) → IsGuestWithin policy g → g.address ≡ k.address → g.second ≡ k.second → g.joined ≡ k.joined → g.multicast ≡ k.multicast → MayCome h p policy (Some g) k
quiet_comes h p policy g k w address second joins mode = record {
  within = record {
    address = subst (λ (a : ℕ). is_granted policy a ≡ true) address w.address;
    second = λ a is. w.second a (second ∙ is);
    joined = λ i there. w.joined i (ap (λ n. has_bit n i) joins ∙ there);
    multicast = λ is. w.multicast (mode ∙ is);
  };
  address = inl (subst (λ (a : ℕ). holds (Admitted policy (Some g)) a ≡ true) address (address_held policy g));
  second = λ a is. inl (second_held policy g a (second ∙ is));
}

pub not_all : (m : Multicast) → is_all m ≡ false → m ≡ All → ⊥
not_all m is same = true≢false (sym (ap is_all same) ∙ is)

-- where a place is joined alone, it is one to join
only_joins : (vlans : VlanPolicy) (place : Option ℕ) (k : ℕ) → has_bit (only (place_where (may_join vlans) place)) k ≡ true → may_join vlans k ≡ true
only_joins vlans None k there = absurd (true≢false (sym there ∙ has_bit_zero k))
only_joins vlans (Some n) k there = go (may_join vlans n) refl there
  where
    go : (b : Bool) → may_join vlans n ≡ b → has_bit (only (cond b (Some n) None)) k ≡ true → may_join vlans k ≡ true
    go true may bit = subst (λ (m : ℕ). may_join vlans m ≡ true) (eqb-true n k (sym (has_bit_pow n k) ∙ bit)) may
    go false may bit = absurd (true≢false (sym bit ∙ has_bit_zero k))

begun_comes : (h : HostState) (p : ℕ) (policy : Policy) (before : Option Guest) → MayCome h p policy before (begun h.ids policy)
begun_comes h p policy before = record {
  within = record {
    address = ap (λ b. b || (policy.may_choose && is_unicast (number_of policy.address))) (itself (number_of policy.address));
    second = λ a is. absurd (none_is is);
    joined = λ k there. ap (λ b. is_port_at policy.vlans k || b) (only_joins policy.vlans (place_from 0 h.ids 0) k there) ∙ or-true (is_port_at policy.vlans k);
    multicast = λ is. absurd (not_all Asked refl is);
  };
  address = inl (own_held policy before (number_of policy.address) (itself (number_of policy.address)));
  second = λ a is. absurd (none_is is);
}

-- ---- addresses

-- an address that is added is granted, and no other function's
added : (h : HostState) (p : ℕ) (policy : Policy) (a : ℕ) → may_add h p policy a ≡ true → (is_granted policy a ≡ true) × (is_taken h p a ≡ false)
added h p policy a may =
    let all : (policy.may_choose ≡ true) × ((is_unicast a && not (is_taken h p a)) ≡ true) = and_parts policy.may_choose (is_unicast a && not (is_taken h p a)) may in
    let rest : (is_unicast a ≡ true) × (not (is_taken h p a) ≡ true) = and_parts (is_unicast a) (not (is_taken h p a)) all.1 in
    ((λ i. eqb (number_of policy.address) a || (all.0 i && rest.0 i)) ∙ or-true (eqb (number_of policy.address) a), not-true (is_taken h p a) rest.1)

moved_comes : (h : HostState) (p : ℕ) (policy : Policy) (g k : Guest) (a : ℕ) → IsGuestWithin policy g → moved h p policy g a ≡ Some k → MayCome h p policy (Some g) k
moved_comes h p policy g k a w is = go (eqb (number_of policy.address) a) refl (may_add h p policy a) refl is
  where
    with_one : is_granted policy a ≡ true → Has h p policy (Some g) a → MayCome h p policy (Some g) (record g { address = a })
    with_one granted has = record {
      within = record { address = granted; second = w.second; joined = w.joined; multicast = w.multicast };
      address = has;
      second = λ b there. inl (second_held policy g b there);
    }

    go : (b : Bool) → eqb (number_of policy.address) a ≡ b → (c : Bool) → may_add h p policy a ≡ c → cond (b || c) (Some (record g { address = a })) None ≡ Some k → MayCome h p policy (Some g) k
    go true own c may same = subst (MayCome h p policy (Some g)) (some_is same) (with_one (ap (λ b. b || (policy.may_choose && is_unicast a)) own) (inl (own_held policy (Some g) a own)))
    go false own true may same = subst (MayCome h p policy (Some g)) (some_is same) (with_one (added h p policy a may).0 (inr (added h p policy a may).1))
    go false own false may same = absurd (none_is same)

second_comes : (h : HostState) (p : ℕ) (policy : Policy) (g k : Guest) (a : ℕ) → IsGuestWithin policy g → second_added h p policy g a ≡ Some k → MayCome h p policy (Some g) k
second_comes h p policy g k a w is = go (has_room g.second a) (may_add h p policy a) refl is
  where
    go : (c b : Bool) → may_add h p policy a ≡ b → cond (c && b) (Some (record g { second = Some a })) None ≡ Some k → MayCome h p policy (Some g) k
    go true true may same = subst (MayCome h p policy (Some g)) (some_is same) (record {
      within = record { address = w.address; second = λ b there. subst (λ (n : ℕ). is_granted policy n ≡ true) (some_is there) (added h p policy a may).0; joined = w.joined; multicast = w.multicast };
      address = inl (address_held policy g);
      second = λ b there. inr (subst (λ (n : ℕ). is_taken h p n ≡ false) (some_is there) (added h p policy a may).1);
    })
    go true false may same = absurd (none_is same)
    go false b may same = absurd (none_is same)

-- ---- VLANs

-- a place that the policy has is joined, or some place is left
joined_comes : (h : HostState) (p : ℕ) (policy : Policy) (g : Guest) (places : ℕ) → IsGuestWithin policy g → ((i : ℕ) → has_bit places i ≡ true → may_have policy i ≡ true) → MayCome h p policy (Some g) (record g { joined = places })
joined_comes h p policy g places w may = record {
  within = record { address = w.address; second = w.second; joined = may; multicast = w.multicast };
  address = inl (address_held policy g);
  second = λ a is. inl (second_held policy g a is);
}

more_joined : (policy : Policy) (g : Guest) (k : ℕ) → may_join policy.vlans k ≡ true → IsGuestWithin policy g → (i : ℕ) → has_bit (with_bit g.joined k) i ≡ true → may_have policy i ≡ true
more_joined policy g k may w i there = go (or_cases (has_bit g.joined i) (has_bit (2 ^ k) i) (sym (has_bit_or g.joined (2 ^ k) i) ∙ there))
  where
    go : (has_bit g.joined i ≡ true) ⊎ (has_bit (2 ^ k) i ≡ true) → may_have policy i ≡ true
    go (inl before) = w.joined i before
    go (inr new) =
        let same : k ≡ i = eqb-true k i (sym (has_bit_pow k i) ∙ new) in
        ap (λ b. is_port_at policy.vlans i || b) (subst (λ (n : ℕ). may_join policy.vlans n ≡ true) same may) ∙ or-true (is_port_at policy.vlans i)

fewer_joined : (policy : Policy) (g : Guest) (k : ℕ) → IsGuestWithin policy g → (i : ℕ) → has_bit (without_bit g.joined k) i ≡ true → may_have policy i ≡ true
fewer_joined policy g k w i there =
    w.joined i (and_parts (has_bit g.joined i) (has_bit (bit_not w64 (2 ^ k)) i) (sym (has_bit_and g.joined (bit_not w64 (2 ^ k)) i) ∙ there)).0

join_comes : (h : HostState) (p : ℕ) (policy : Policy) (g k : Guest) (place : Option ℕ) → IsGuestWithin policy g → joined_at g (place_where (may_join policy.vlans) place) ≡ Some k → MayCome h p policy (Some g) k
join_comes h p policy g k None w is = absurd (none_is is)
join_comes h p policy g k (Some n) w is = go (may_join policy.vlans n) refl is
  where
    go : (b : Bool) → may_join policy.vlans n ≡ b → joined_at g (cond b (Some n) None) ≡ Some k → MayCome h p policy (Some g) k
    go true may same = subst (MayCome h p policy (Some g)) (some_is same) (joined_comes h p policy g (with_bit g.joined n) w (more_joined policy g n may w))
    go false may same = absurd (none_is same)

leave_comes : (h : HostState) (p : ℕ) (policy : Policy) (g k : Guest) (place : Option ℕ) → IsGuestWithin policy g → left_at g place ≡ Some k → MayCome h p policy (Some g) k
leave_comes h p policy g k None w is = absurd (none_is is)
leave_comes h p policy g k (Some n) w is = subst (MayCome h p policy (Some g)) (some_is is) (joined_comes h p policy g (without_bit g.joined n) w (fewer_joined policy g n w))

left_comes : (h : HostState) (p : ℕ) (policy : Policy) (g k : Guest) (b : Bool) (place : Option ℕ) → IsGuestWithin policy g → cond b (Some g) (left_at g place) ≡ Some k → MayCome h p policy (Some g) k
left_comes h p policy g k true place w is = subst (MayCome h p policy (Some g)) (some_is is) (same_comes h p policy g w)
left_comes h p policy g k false place w is = leave_comes h p policy g k place w is

-- ---- multicast

mode_comes : (h : HostState) (p : ℕ) (policy : Policy) (g : Guest) (m : Multicast) → IsGuestWithin policy g → (m ≡ All → policy.all_multicast ≡ true) → MayCome h p policy (Some g) (record g { multicast = m; groups = g.groups && wants_groups m })
mode_comes h p policy g m w may = record {
  within = record { address = w.address; second = w.second; joined = w.joined; multicast = may };
  address = inl (address_held policy g);
  second = λ a is. inl (second_held policy g a is);
}

multicast_comes : (h : HostState) (p : ℕ) (policy : Policy) (g k : Guest) (asked : Option Multicast) → IsGuestWithin policy g → with_multicast g (multicast_for policy asked) ≡ Some k → MayCome h p policy (Some g) k
multicast_comes h p policy g k asked w is = go asked (policy.all_multicast) refl is
  where
    one : (m : Multicast) → (m ≡ All → policy.all_multicast ≡ true) → with_multicast g (Some m) ≡ Some k → MayCome h p policy (Some g) k
    one m may same = subst (MayCome h p policy (Some g)) (some_is same) (mode_comes h p policy g m w may)

    fewer : (m : Multicast) → is_all m ≡ false → m ≡ All → policy.all_multicast ≡ true
    fewer m less all = absurd (not_all m less all)

    by : (b : Bool) → policy.all_multicast ≡ b → (asked : Option Multicast) → with_multicast g (cond b asked (Some Asked)) ≡ Some k → MayCome h p policy (Some g) k
    by true may None same = absurd (none_is same)
    by true may (Some m) same = one m (λ all. may) same
    by false may asked same = one Asked (fewer Asked refl) same

    go : (asked : Option Multicast) (b : Bool) → policy.all_multicast ≡ b → with_multicast g (multicast_for policy asked) ≡ Some k → MayCome h p policy (Some g) k
    go None b may same = by policy.all_multicast refl None same
    go (Some Off) b may same = one Off (fewer Off refl) same
    go (Some Asked) b may same = one Asked (fewer Asked refl) same
    go (Some All) b may same = by policy.all_multicast refl (Some All) same

-- ---- every message

when_comes : (h : HostState) (p : ℕ) (policy : Policy) (g k : Guest) (b : Bool) → MayCome h p policy (Some g) k → (l : Guest) → cond b (Some k) None ≡ Some l → MayCome h p policy (Some g) l
when_comes h p policy g k true comes l is = subst (MayCome h p policy (Some g)) (some_is is) comes
when_comes h p policy g k false comes l is = absurd (none_is is)

granted_comes : (h : HostState) (p : ℕ) (policy : Policy) (g k : Guest) (message : Message) → IsGuestWithin policy g → granted h p policy g message ≡ Some k → MayCome h p policy (Some g) k
unfolding granted
granted_comes h p policy g k Reset w is = subst (MayCome h p policy (Some g)) (some_is is) (begun_comes h p policy (Some g))
granted_comes h p policy g k (SetAddress a) w is = moved_comes h p policy g k a w is
granted_comes h p policy g k (SetMulticast groups) w is = subst (MayCome h p policy (Some g)) (some_is is) (quiet_comes h p policy g (record g { groups = groups }) w refl refl refl refl)
granted_comes h p policy g k (JoinVlan id) w is = join_comes h p policy g k (place_from 0 h.ids id) w is
granted_comes h p policy g k (LeaveVlan id) w is = left_comes h p policy g k (eqb id 0 && not (is_port policy.vlans)) (place_where (may_join policy.vlans) (place_from 0 h.ids id)) w is
granted_comes h p policy g k (SetFrameLength n) w is = when_comes h p policy g (record g { frame_length = n }) (leb n (h.limit + 4)) (quiet_comes h p policy g (record g { frame_length = n }) w refl refl refl refl) k is
granted_comes h p policy g k ClearSecond w is = subst (MayCome h p policy (Some g)) (some_is is) (same_comes h p policy g w)
granted_comes h p policy g k (ReplaceSecond a) w is = second_comes h p policy g k a w is
granted_comes h p policy g k (AddSecond a) w is = second_comes h p policy g k a w is
granted_comes h p policy g k (NegotiateApi api) w is = subst (MayCome h p policy (Some g)) (some_is is) (quiet_comes h p policy g (record g { api = api }) w refl refl refl refl)
granted_comes h p policy g k GetQueues w is = when_comes h p policy g g (has_queues g.api) (same_comes h p policy g w) k is
granted_comes h p policy g k (SetMulticastMode asked) w is = go (has_modes g.api) is
  where
    go : (b : Bool) → cond b (with_multicast g (multicast_for policy asked)) None ≡ Some k → MayCome h p policy (Some g) k
    go true same = multicast_comes h p policy g k asked w same
    go false same = absurd (none_is same)
granted_comes h p policy g k GetLinkState w is = when_comes h p policy g g (has_modes g.api) (same_comes h p policy g w) k is
granted_comes h p policy g k Other w is = absurd (none_is is)

-- ---- the host

-- the address of another function is taken
not_taken : (h : HostState) (p q a : ℕ) → q < 64 → q ≢ p → is_taken h p a ≡ false → holds (slot_at h q) a ≡ true → ⊥
unfolding is_taken
not_taken h p q a small other free there =
    let place : get_or (range_with_len 0 64) q 0 ≡ 0 + q = get_or-range_with_len 0 64 q 0 small in
    let same : 0 + q ≡ q = omega arith in
    let differs : eqb q p ≡ false = grind (arith, nat_tests, other) in
    let found : other_holds h p a (get_or (range_with_len 0 64) q 0) ≡ true = ap (other_holds h p a) (place ∙ same) ∙ (λ i. not (differs i) && there i) in
    true≢false (sym (list_any_at (other_holds h p a) (range_with_len 0 64) q 0 (omega (arith, small)) found) ∙ free)

-- what is asked of a function that is to stand at a pool
pub record MayStand (h : HostState) (p : ℕ) (g : Slot) : Type 0 where
  pub within : IsWithinPolicy g
  pub held : (a : ℕ) → holds g a ≡ true → (holds (slot_at h p) a ≡ true) ⊎ (is_taken h p a ≡ false)

-- the function at a pool after the change, if there is such a place
pub at_place : (h : HostState) (p q : ℕ) (g : Slot) → (slot_at (with_slot h p g) q ≡ slot_at h q) ⊎ ((q ≡ p) × (slot_at (with_slot h p g) q ≡ g))
at_place h p q g = go (eqb q p) refl
  where
    here : (b : Bool) → ltb p (length h.slots) ≡ b → (slot_at (with_slot h p g) p ≡ slot_at h p) ⊎ (slot_at (with_slot h p g) p ≡ g)
    here true is = inr (get_or-set_same h.slots p g Absent (ltb-true p (length h.slots) is))
    here false is =
        let past = ltb-false p (length h.slots) is in
        inl (get_or_past (with_slot h p g).slots p Absent (omega (arith, past, length-set h.slots p g)) ∙ sym (get_or_past h.slots p Absent past))

    go : (b : Bool) → eqb q p ≡ b → (slot_at (with_slot h p g) q ≡ slot_at h q) ⊎ ((q ≡ p) × (slot_at (with_slot h p g) q ≡ g))
    go true is =
        let same : q ≡ p = eqb-true q p is in
        subst (λ (n : ℕ). (slot_at (with_slot h p g) n ≡ slot_at h n) ⊎ ((n ≡ p) × (slot_at (with_slot h p g) n ≡ g))) (sym same) (⊎_elim (λ e. inl e) (λ e. inr (refl, e)) (here (ltb p (length h.slots)) refl))
    go false is = inl (slot_stays h p q g (eqb-false q p is))

pub stands : (h : HostState) (p : ℕ) (g : Slot) → p < 64 → IsWithin h → MayStand h p g → IsWithin (with_slot h p g)
stands h p g small w may = record {
  policies = λ q below. ⊎_elim (λ same. subst IsWithinPolicy (sym same) (w.policies q below)) (λ same. subst IsWithinPolicy (sym same.1) may.within) (at_place h p q g);
  one_holder = λ x y a x_small y_small other there. false_from_ne_true (holds (slot_at k y) a) (λ also. both x y a x_small y_small other (at_place h p x g) (at_place h p y g) there also);
}
  where
    k : HostState
    k = with_slot h p g

    -- two functions that stood there
    old : (x y a : ℕ) → x < 64 → y < 64 → y ≢ x → holds (slot_at h x) a ≡ true → holds (slot_at h y) a ≡ true → ⊥
    old x y a x_small y_small other there also = true≢false (sym also ∙ w.one_holder x y a x_small y_small other there)

    -- the new one and one that stood there
    new : (y a : ℕ) → y < 64 → y ≢ p → holds g a ≡ true → holds (slot_at h y) a ≡ true → ⊥
    new y a y_small other there also = ⊎_elim (λ before. old p y a small y_small other before also) (λ free. not_taken h p y a y_small other free also) (may.held a there)

    both : (x y a : ℕ) → x < 64 → y < 64 → y ≢ x → (slot_at k x ≡ slot_at h x) ⊎ ((x ≡ p) × (slot_at k x ≡ g)) → (slot_at k y ≡ slot_at h y) ⊎ ((y ≡ p) × (slot_at k y ≡ g)) → holds (slot_at k x) a ≡ true → holds (slot_at k y) a ≡ true → ⊥
    both x y a x_small y_small other (inl e) (inl f) there also = old x y a x_small y_small other (subst (λ (v : Slot). holds v a ≡ true) e there) (subst (λ (v : Slot). holds v a ≡ true) f also)
    both x y a x_small y_small other (inl e) (inr f) there also = new x a x_small (λ same. other (f.0 ∙ sym same)) (subst (λ (v : Slot). holds v a ≡ true) f.1 also) (subst (λ (v : Slot). holds v a ≡ true) e there)
    both x y a x_small y_small other (inr e) (inl f) there also = new y a y_small (λ same. other (same ∙ sym e.0)) (subst (λ (v : Slot). holds v a ≡ true) e.1 there) (subst (λ (v : Slot). holds v a ≡ true) f also)
    both x y a x_small y_small other (inr e) (inr f) there also = other (f.0 ∙ sym e.0)

-- the function with the guest that comes
pub number_is : (o : Option ℕ) (a : ℕ) → is_number o a ≡ true → o ≡ Some a
number_is None a is = absurd (true≢false (sym is))
number_is (Some b) a is = ap Some (eqb-true b a is)

-- a function that holds no address more
abbrev pub HoldsNoMore : Slot → Slot → Type 0
HoldsNoMore s t = (a : ℕ) → holds s a ≡ true → holds t a ≡ true

guest_stands : (h : HostState) (p : ℕ) (policy : Policy) (before : Option Guest) (g : Guest) → HoldsNoMore (Admitted policy before) (slot_at h p) → is_unicast (number_of policy.address) ≡ true → MayCome h p policy before g → MayStand h p (Admitted policy (Some g))
unfolding holds
guest_stands h p policy before g fewer unicast comes = record {
  within = (unicast, comes.within);
  held = λ a there. ⊎_elim (λ has. inl (fewer a has)) (λ free. inr free) (go a (or_cases (eqb (number_of policy.address) a) (eqb g.address a || is_number g.second a) there));
}
  where
    rest : (a : ℕ) → (eqb g.address a ≡ true) ⊎ (is_number g.second a ≡ true) → Has h p policy before a
    rest a (inl is) = subst (Has h p policy before) (eqb-true g.address a is) comes.address
    rest a (inr is) = comes.second a (number_is g.second a is)

    go : (a : ℕ) → (eqb (number_of policy.address) a ≡ true) ⊎ ((eqb g.address a || is_number g.second a) ≡ true) → Has h p policy before a
    go a (inl own) = inl (own_held policy before a own)
    go a (inr other) = rest a (or_cases (eqb g.address a) (is_number g.second a) other)

reset_comes : (h : HostState) (p : ℕ) (policy : Policy) (k : Guest) (message : Message) → when_reset h.ids policy message ≡ Some k → MayCome h p policy None k
reset_comes h p policy k Reset is = subst (MayCome h p policy None) (some_is is) (begun_comes h p policy None)
reset_comes h p policy k message is = absurd (none_is is)

answered_stands : (h : HostState) (p : ℕ) (s : Slot) (message : Message) (o : Option Guest) → HoldsNoMore s (slot_at h p) → IsWithinPolicy s → answered h p s message ≡ o → MayStand h p (granted_to s o)
answered_stands h p s message None fewer w is = record { within = w; held = λ a there. inl (fewer a there) }
answered_stands h p Absent message (Some g) fewer w is = absurd (none_is is)
answered_stands h p (Admitted policy None) message (Some g) fewer w is = guest_stands h p policy None g fewer w (reset_comes h p policy g message is)
answered_stands h p (Admitted policy (Some old)) message (Some g) fewer w is = guest_stands h p policy (Some old) g fewer w.0 (granted_comes h p policy old g message w.1 is)

-- ---- a guest that gives its second address up

less_held : (policy : Policy) (g : Guest) → HoldsNoMore (Admitted policy (Some (record g { second = None }))) (Admitted policy (Some g))
unfolding holds
less_held policy g a there = go (eqb (number_of policy.address) a) (eqb g.address a) there
  where
    go : (b c : Bool) → (b || (c || false)) ≡ true → (b || (c || is_number g.second a)) ≡ true
    go true c is = refl
    go false true is = refl
    go false false is = absurd (true≢false (sym is))

less_within : (policy : Policy) (g : Guest) → IsGuestWithin policy g → IsGuestWithin policy (record g { second = None })
less_within policy g w = record { address = w.address; second = λ a none. absurd (none_is none); joined = w.joined; multicast = w.multicast }

found_held : (s : Slot) (message : Message) → HoldsNoMore (found s message) s
found_held Absent message a there = there
found_held (Admitted policy None) message a there = there
found_held (Admitted policy (Some g)) ClearSecond a there = less_held policy g a there
found_held (Admitted policy (Some g)) (ReplaceSecond b) a there = less_held policy g a there
found_held (Admitted policy (Some g)) message a there = there

found_within : (s : Slot) (message : Message) → IsWithinPolicy s → IsWithinPolicy (found s message)
found_within Absent message w = w
found_within (Admitted policy None) message w = w
found_within (Admitted policy (Some g)) ClearSecond w = (w.0, less_within policy g w.1)
found_within (Admitted policy (Some g)) (ReplaceSecond b) w = (w.0, less_within policy g w.1)
found_within (Admitted policy (Some g)) message w = w

pub message_within : (h : HostState) (p : ℕ) (message : Message) → p < 64 → IsWithin h → IsWithin (host_after h p message)
unfolding host_after slot_after outcome
message_within h p message small w =
    stands h p (granted_to (found s message) (answered h p (found s message) message)) small w
    (answered_stands h p (found s message) message (answered h p (found s message) message) (found_held s message) (found_within s message (w.policies p small)) refl)
  where
    s : Slot
    s = slot_at h p

-- a function without a guest holds its permanent address alone
pub alone : (policy : Policy) (a : ℕ) → holds (Admitted policy None) a ≡ true → eqb (number_of policy.address) a ≡ true
unfolding holds
alone policy a there = go (eqb (number_of policy.address) a) there
  where
    go : (b : Bool) → (b || (false || false)) ≡ true → b ≡ true
    go true is = refl
    go false is = is

unicast_of : (policy : Policy) (guest : Option Guest) → IsWithinPolicy (Admitted policy guest) → is_unicast (number_of policy.address) ≡ true
unicast_of policy None w = w
unicast_of policy (Some g) w = w.0

gone_stands : (h : HostState) (p : ℕ) (s : Slot) → slot_at h p ≡ s → IsWithinPolicy s → MayStand h p (with_guest s None)
gone_stands h p Absent at w = record { within = tt; held = λ a there. inl (ap (λ s. holds s a) at ∙ there) }
gone_stands h p (Admitted policy guest) at w = record {
  within = unicast_of policy guest w;
  held = λ a there. inl (ap (λ s. holds s a) at ∙ own_held policy guest a (alone policy a there));
}

pub reset_within : (h : HostState) (p : ℕ) → p < 64 → IsWithin h → IsWithin (host_without h p)
unfolding host_without
reset_within h p small w = stands h p (with_guest (slot_at h p) None) small w (gone_stands h p (slot_at h p) refl (w.policies p small))

-- ---- policies

same_policy : (s : Slot) (guest : Option Guest) → policy_of s ≡ policy_of (with_guest s guest)
same_policy Absent guest = refl
same_policy (Admitted policy old) guest = refl

granted_policy : (s : Slot) (o : Option Guest) → policy_of s ≡ policy_of (granted_to s o)
granted_policy s None = refl
granted_policy s (Some g) = same_policy s (Some g)

found_policy : (s : Slot) (message : Message) → policy_of s ≡ policy_of (found s message)
found_policy Absent message = refl
found_policy (Admitted policy None) message = refl
found_policy (Admitted policy (Some g)) message = refl

pub policies_with : (h : HostState) (p : ℕ) (f : Slot) → policy_of (slot_at h p) ≡ policy_of f → KeepsPolicies h (with_slot h p f)
policies_with h p f same q = go (at_place h p q f)
  where
    go : (slot_at (with_slot h p f) q ≡ slot_at h q) ⊎ ((q ≡ p) × (slot_at (with_slot h p f) q ≡ f)) → policy_of (slot_at h q) ≡ policy_of (slot_at (with_slot h p f) q)
    go (inl e) = ap policy_of (sym e)
    go (inr e) = ap (λ n. policy_of (slot_at h n)) e.0 ∙ same ∙ ap policy_of (sym e.1)

pub message_policies : (h : HostState) (p : ℕ) (message : Message) → KeepsPolicies h (host_after h p message)
unfolding host_after slot_after
message_policies h p message =
    policies_with h p (granted_to (found (slot_at h p) message) (outcome h p message))
    (found_policy (slot_at h p) message ∙ granted_policy (found (slot_at h p) message) (outcome h p message))

pub reset_policies : (h : HostState) (p : ℕ) → KeepsPolicies h (host_without h p)
unfolding host_without
reset_policies h p = policies_with h p (with_guest (slot_at h p) None) (same_policy (slot_at h p) None)

-- ---- the first host

absent_holds : (a : ℕ) → holds Absent a ≡ false
unfolding holds
absent_holds a = refl

pub first_within : (ids : List ℕ) (default_pool : Option ℕ) (limit : ℕ) → IsWithin (record { slots = replicate 64 Absent; ids = ids; default_pool = default_pool; limit = limit })
first_within ids default_pool limit = record {
  policies = λ p small. subst IsWithinPolicy (sym (get_or-replicate 64 p Absent Absent small)) tt;
  one_holder = λ p q a p_small q_small other there. ap (λ s. holds s a) (get_or-replicate 64 q Absent Absent q_small) ∙ absent_holds a;
}
