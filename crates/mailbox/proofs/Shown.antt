-- What a host makes of one pool's own settings is within the policy of its function.
use Rattle.std.proofs.Common.{arith, ◌≡◌, ℕ, zero, suc, ◌+◌, ◌-◌, ◌*◌, ◌/◌, ◌%◌, ◌^◌, ◌<◌, Bool, true, false, cond, ◌&&◌, ◌||◌, ⊎_elim, ◌⊎◌, inl, inr, replicate, length, get_or, Option, Some, None, refl, sym, ap, ◌∙◌, true≢false, eqb, eqb-true, ltb, ◌≢◌, subst}
use Rattle.std.specs.List.{list_any, range_with_len}
use Rattle.std.proofs.lemmas.Bool.{and_parts, or_cases, ltb-true, ltb-false, false_from_ne_true}
use Rattle.std.proofs.lemmas.Bool.Decides.{nat_tests}
use Rattle.std.proofs.lemmas.List.{get_or-replicate}
use Rattle.std.proofs.lemmas.Nat.Bits.{bit_at_ones}
use Rattle.wire_frame.specs.Bits.{has_bit, has_bit_in, two_words}
use Rattle.wire_frame.proofs.BitLemmas.{has_bit_zero}
use Rattle.addr_tables.specs.Addresses.{entry_address, entry_has_pool as address_has_pool, entry_gives as address_gives, has_address}
use Rattle.vlan_table.specs.Vlans.{entry_id, entry_has_pool as vlan_has_pool, entry_gives as vlan_gives, is_in_entries, has_vlan}
use Rattle.pool_filter.specs.Own.{contains, own}
use Rattle.pool_filter.proofs.OwnLemmas.{contains_own_addresses, contains_own_vlan_ids}
use Rattle.mailbox.specs.declared.policy.Policy.{Policy}
use Rattle.mailbox.specs.declared.slot.Slot.{Slot}
use Rattle.mailbox.specs.declared.slot.Slot.TheVariants.{Absent, Admitted}
use Rattle.mailbox.specs.Address.{number_of, low_part, is_number, is_unicast}
use Rattle.mailbox.specs.Policy.{is_granted, is_port_at, may_join}
use Rattle.mailbox.specs.Slot.{policy_of, own_address, second_address, joined_by, has_joined, holds}
use Rattle.mailbox.specs.State.{HostState, slot_at}
use Rattle.mailbox.specs.Within.{grants, is_named, IsWithinPolicy, IsWithin, IsNamedFor}
use Rattle.mailbox.specs.Words.{table, low_word, high_word, valid, entry, pool_word, id_word, member_word, joined_at, addresses_of, vlans_of, settings_of}
use Rattle.mailbox.proofs.Entries.{table_at, entry_pool, entry_member}
use Rattle.mailbox.proofs.Policies.{number_is, address_held, second_held, alone}
use Rattle.mailbox.proofs.Turns.{some_is, none_is}

-- a test that some number of a range passes
pub found : (t : ℕ → Bool) (a n : ℕ) → list_any t (range_with_len a n) ≡ true → (e : ℕ) × ((e < a + n) × (t e ≡ true))
found t a zero is = absurd (true≢false (sym is))
found t a (suc n) is = go (found t (a + 1) n) (t a) refl is
  where
    go : (list_any t (range_with_len (a + 1) n) ≡ true → (e : ℕ) × ((e < a + 1 + n) × (t e ≡ true))) → (b : Bool) → t a ≡ b → (b || list_any t (range_with_len (a + 1) n)) ≡ true → (e : ℕ) × ((e < a + suc n) × (t e ≡ true))
    go later true here some = (a, (omega arith, here))
    go later false here some =
        let rest : (e : ℕ) × ((e < a + 1 + n) × (t e ≡ true)) = later some in
        (rest.0, (omega (arith, rest.1.0), rest.1.1))

-- ---- addresses

-- the address is the low 48 bits of one that the function holds
abbrev pub IsHeldBy : HostState → ℕ → ℕ → Type 0
IsHeldBy h p a = (x : ℕ) × ((holds (slot_at h p) x ≡ true) × (x % 2 ^ 48 ≡ a))

own_held : (s : Slot) (x : ℕ) → own_address s ≡ Some x → holds s x ≡ true
own_held Absent x is = absurd (none_is is)
own_held (Admitted policy None) x is = absurd (none_is is)
own_held (Admitted policy (Some g)) x is = subst (λ (n : ℕ). holds (Admitted policy (Some g)) n ≡ true) (some_is is) (address_held policy g)

other_held : (s : Slot) (x : ℕ) → second_address s ≡ Some x → holds s x ≡ true
other_held Absent x is = absurd (none_is is)
other_held (Admitted policy None) x is = absurd (none_is is)
other_held (Admitted policy (Some g)) x is = second_held policy g x is

entry_held : (h : HostState) (p e x : ℕ) → e < 128 → e % 64 ≡ p → entry h e ≡ Some x → holds (slot_at h p) x ≡ true
entry_held h p e x below at is = go (ltb e 64) refl is
  where
    go : (b : Bool) → ltb e 64 ≡ b → cond b (own_address (slot_at h e)) (second_address (slot_at h (e - 64))) ≡ Some x → holds (slot_at h p) x ≡ true
    go true small same = let here : e ≡ p = let past = ltb-true e 64 small in omega (arith, at, past) in ap (λ n. holds (slot_at h n) x) (sym here) ∙ own_held (slot_at h e) x same
    go false large same = let here : e - 64 ≡ p = let past = ltb-false e 64 large in omega (arith, at, past, below) in ap (λ n. holds (slot_at h n) x) (sym here) ∙ other_held (slot_at h (e - 64)) x same

-- each address that a function holds is one station's
granted_unicast : (policy : Policy) (a : ℕ) → is_unicast (number_of policy.address) ≡ true → is_granted policy a ≡ true → is_unicast a ≡ true
granted_unicast policy a unicast may =
    ⊎_elim (λ own. subst (λ (n : ℕ). is_unicast n ≡ true) (eqb-true (number_of policy.address) a own) unicast) (λ chosen. (and_parts policy.may_choose (is_unicast a) chosen).1)
    (or_cases (eqb (number_of policy.address) a) (policy.may_choose && is_unicast a) may)

unicast_held : (s : Slot) (a : ℕ) → IsWithinPolicy s → holds s a ≡ true → is_unicast a ≡ true
unfolding holds
unicast_held Absent a w there = absurd (true≢false (sym there))
unicast_held (Admitted policy None) a w there = subst (λ (n : ℕ). is_unicast n ≡ true) (eqb-true (number_of policy.address) a (alone policy a there)) w
unicast_held (Admitted policy (Some g)) a w there = go (or_cases (eqb (number_of policy.address) a) (eqb g.address a || is_number g.second a) there)
  where
    rest : (eqb g.address a ≡ true) ⊎ (is_number g.second a ≡ true) → is_unicast a ≡ true
    rest (inl is) = granted_unicast policy a w.0 (subst (λ (n : ℕ). is_granted policy n ≡ true) (eqb-true g.address a is) w.1.address)
    rest (inr is) = granted_unicast policy a w.0 (w.1.second a (number_is g.second a is))

    go : (eqb (number_of policy.address) a ≡ true) ⊎ ((eqb g.address a || is_number g.second a) ≡ true) → is_unicast a ≡ true
    go (inl own) = subst (λ (n : ℕ). is_unicast n ≡ true) (eqb-true (number_of policy.address) a own) w.0
    go (inr other) = rest (or_cases (eqb g.address a) (is_number g.second a) other)

-- and is one that the policy grants
held_granted : (s : Slot) (a : ℕ) → IsWithinPolicy s → holds s a ≡ true → grants (policy_of s) a ≡ true
unfolding holds
held_granted Absent a w there = absurd (true≢false (sym there))
held_granted (Admitted policy None) a w there = ap (λ b. b || (policy.may_choose && is_unicast a)) (alone policy a there)
held_granted (Admitted policy (Some g)) a w there = go (or_cases (eqb (number_of policy.address) a) (eqb g.address a || is_number g.second a) there)
  where
    rest : (eqb g.address a ≡ true) ⊎ (is_number g.second a ≡ true) → is_granted policy a ≡ true
    rest (inl is) = subst (λ (n : ℕ). is_granted policy n ≡ true) (eqb-true g.address a is) w.1.address
    rest (inr is) = w.1.second a (number_is g.second a is)

    go : (eqb (number_of policy.address) a ≡ true) ⊎ ((eqb g.address a || is_number g.second a) ≡ true) → is_granted policy a ≡ true
    go (inl own) = ap (λ b. b || (policy.may_choose && is_unicast a)) own
    go (inr other) = rest (or_cases (eqb g.address a) (is_number g.second a) other)

pub address_granted : (h : HostState) (p a : ℕ) → p < 64 → IsWithin h → holds (slot_at h p) a ≡ true → grants (policy_of (slot_at h p)) a ≡ true
address_granted h p a small w there = held_granted (slot_at h p) a (w.policies p small) there

entry_shown : (h : HostState) (p a e : ℕ) → p < 64 → e < 128 → address_gives (addresses_of h) p a e ≡ true → IsHeldBy h p a
unfolding addresses_of
entry_shown h p a e small below gives = go (entry h e) refl (sym (ap (λ w. has_bit w 31) high) ∙ pool.0) (sym (λ i. low i + 2 ^ 32 * (high i % 2 ^ 16)) ∙ eqb-true (entry_address (addresses_of h) e) a both.1)
  where
    both : (address_has_pool (addresses_of h) p e ≡ true) × (eqb (entry_address (addresses_of h) e) a ≡ true)
    both = and_parts (address_has_pool (addresses_of h) p e) (eqb (entry_address (addresses_of h) e) a) gives

    pool : (has_bit (get_or (table 128 (high_word h)) e 0) 31 ≡ true) × (has_bit_in (two_words (table 256 pool_word) e) p ≡ true)
    pool = and_parts (has_bit (get_or (table 128 (high_word h)) e 0) 31) (has_bit_in (two_words (table 256 pool_word) e) p) both.0

    at : e % 64 ≡ p
    at = eqb-true (e % 64) p (sym (entry_pool e p below small) ∙ pool.1)

    low : get_or (table 128 (low_word h)) e 0 ≡ low_word h e
    low = table_at (low_word h) 128 e below

    high : get_or (table 128 (high_word h)) e 0 ≡ high_word h e
    high = table_at (high_word h) 128 e below

    go : (o : Option ℕ) → entry h e ≡ o → has_bit (valid (entry h e)) 31 ≡ true → low_part (entry h e) + 2 ^ 32 * (valid (entry h e) % 2 ^ 16) ≡ a → IsHeldBy h p a
    go None is bit number = absurd (true≢false (sym bit ∙ ap (λ o. has_bit (valid o) 31) is ∙ has_bit_zero 31))
    go (Some x) is bit number =
        let same : x % 2 ^ 32 + 2 ^ 32 * ((2 ^ 31 + x / 2 ^ 32 % 2 ^ 16) % 2 ^ 16) ≡ a = sym (ap (λ o. low_part o + 2 ^ 32 * (valid o % 2 ^ 16)) is) ∙ number in
        (x, (entry_held h p e x below at is, omega (arith, same)))

held_in : (h : HostState) (p a : ℕ) → p < 64 → contains (own (settings_of h) p).addresses a ≡ true → IsHeldBy h p a
unfolding settings_of has_address
held_in h p a small there =
    let some : (e : ℕ) × ((e < 0 + 128) × (address_gives (addresses_of h) p a e ≡ true)) = found (address_gives (addresses_of h) p a) 0 128 (sym (contains_own_addresses (settings_of h) p a) ∙ there) in
    entry_shown h p a some.0 small (omega (arith, some.1.0)) some.1.1

-- and so that address, since it is one of six bytes
pub address_shown : (h : HostState) (p a : ℕ) → p < 64 → IsWithin h → contains (own (settings_of h) p).addresses a ≡ true → holds (slot_at h p) a ≡ true
address_shown h p a small w there =
    let held : IsHeldBy h p a = held_in h p a small there in
    let unicast : is_unicast held.0 ≡ true = unicast_held (slot_at h p) held.0 (w.policies p small) held.1.0 in
    let fits : ltb held.0 (2 ^ 48) ≡ true = (and_parts (ltb held.0 (2 ^ 48)) _ unicast).0 in
    let below : held.0 < 2 ^ 48 = ltb-true held.0 (2 ^ 48) fits in
    let same : held.0 ≡ a = omega (arith, below, held.1.1) in
    subst (λ (n : ℕ). holds (slot_at h p) n ≡ true) same held.1.0

pub one_pool : (h : HostState) (p q a : ℕ) → p < 64 → q < 64 → q ≢ p → IsWithin h → contains (own (settings_of h) p).addresses a ≡ true → contains (own (settings_of h) q).addresses a ≡ false
one_pool h p q a small q_small other w there =
    false_from_ne_true (contains (own (settings_of h) q).addresses a)
    (λ also. true≢false (sym (address_shown h q a q_small w also) ∙ w.one_holder p q a small q_small other (address_shown h p a small w there)))

-- ---- VLANs

-- each VLAN that a function is in is one that its policy has
named : (s : Slot) (k : ℕ) → IsWithinPolicy s → has_joined s k ≡ true → is_named (policy_of s) k ≡ true
named Absent k w there = absurd (true≢false (sym there))
named (Admitted policy None) k w there = absurd (true≢false (sym there))
named (Admitted policy (Some g)) k w there = ⊎_elim (λ port. ap (λ b. b || may_join policy.vlans k) port) (λ joined. w.1.joined k joined) (or_cases (is_port_at policy.vlans k) (joined_by g k) there)

id_shown : (h : HostState) (p id k : ℕ) → p < 64 → k < 64 → IsWithin h → vlan_gives (vlans_of h) p id k ≡ true → IsNamedFor h p id
unfolding vlans_of
id_shown h p id k small below w gives = (k, (inside, (number, named (slot_at h p) k (w.policies p small) members.1)))
  where
    both : (vlan_has_pool (vlans_of h) p k ≡ true) × (eqb (entry_id (vlans_of h) k) id ≡ true)
    both = and_parts (vlan_has_pool (vlans_of h) p k) (eqb (entry_id (vlans_of h) k) id) gives

    pool : (has_bit (get_or (table 64 (id_word h)) k 0) 31 ≡ true) × (has_bit_in (two_words (table 128 (member_word h)) k) p ≡ true)
    pool = and_parts (has_bit (get_or (table 64 (id_word h)) k 0) 31) (has_bit_in (two_words (table 128 (member_word h)) k) p) both.0

    members : (ltb (2 * k + p / 32) (2 * length h.ids) ≡ true) × (joined_at h k p ≡ true)
    members = and_parts (ltb (2 * k + p / 32) (2 * length h.ids)) (joined_at h k p) (sym (entry_member h k p below small) ∙ pool.1)

    inside : k < length h.ids
    inside = let past = ltb-true (2 * k + p / 32) (2 * length h.ids) members.0 in omega (arith, past)

    word : get_or (table 64 (id_word h)) k 0 ≡ 2 ^ 31 + get_or h.ids k 0 % 4096
    word = let is : ltb k (length h.ids) ≡ true = grind (arith, nat_tests, inside) in table_at (id_word h) 64 k below ∙ ap (λ b. cond b (2 ^ 31 + get_or h.ids k 0 % 4096) 0) is

    number : get_or h.ids k 0 % 4096 ≡ id
    number = let same : get_or (table 64 (id_word h)) k 0 % 4096 ≡ id = eqb-true (entry_id (vlans_of h) k) id both.1 in omega (arith, same, word)

pub vlan_shown : (h : HostState) (p id : ℕ) → p < 64 → IsWithin h → contains (own (settings_of h) p).vlan_ids id ≡ true → IsNamedFor h p id
unfolding settings_of has_vlan is_in_entries
vlan_shown h p id small w there =
    let parts : (has_bit_in (vlans_of h).table id ≡ true) × (list_any (vlan_gives (vlans_of h) p id) (range_with_len 0 64) ≡ true) = and_parts (has_bit_in (vlans_of h).table id) (list_any (vlan_gives (vlans_of h) p id) (range_with_len 0 64)) (sym (contains_own_vlan_ids (settings_of h) p id) ∙ there) in
    let some : (k : ℕ) × ((k < 0 + 64) × (vlan_gives (vlans_of h) p id k ≡ true)) = found (vlan_gives (vlans_of h) p id) 0 64 parts.1 in
    id_shown h p id some.0 small (omega (arith, some.1.0)) w some.1.1

-- ---- source checks

check_on : (i : ℕ) → i < 16 → has_bit 0xFFFF i ≡ true
unfolding has_bit
check_on i below = ap (λ v. eqb v 1) (bit_at_ones 16 i below)

check_word : (p : ℕ) → p < 64 → ◌≡◌ {A = ℕ} (get_or (replicate 8 0xFFFF) (p / 8) 0) 0xFFFF
check_word p small = get_or-replicate 8 (p / 8) 0xFFFF 0 (omega (arith, small))

pub checks_on : (h : HostState) (p : ℕ) → p < 64 → ((own (settings_of h) p).checks_address ≡ true) × ((own (settings_of h) p).checks_vlan ≡ true)
unfolding own settings_of
checks_on h p small =
    (ap (λ w. has_bit w (p % 8)) (check_word p small) ∙ check_on (p % 8) (omega arith), ap (λ w. has_bit w (8 + p % 8)) (check_word p small) ∙ check_on (8 + p % 8) (omega arith))
