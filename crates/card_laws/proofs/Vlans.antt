-- Where policies give a group VLANs of its own, the settings keep the group apart.
use Rattle.std.proofs.Common.{◌≡◌, ℕ, ◌+◌, ◌^◌, ◌<◌, Bool, true, false, cond, not, ◌&&◌, ◌||◌, List, [], ◌∷◌, Some, None, refl, sym, ap, ◌∙◌, eqb, true≢false, ◌⊎◌, inl, inr}
use Rattle.std.specs.List.{list_any}
use Rattle.std.proofs.lemmas.Bool.{and_parts, false_from_ne_true, or_cases, eq-eqb}
use Rattle.wire_frame.specs.Bits.{has_bit}
use Rattle.vlan_table.specs.Vlans.{is_filtering}
use Rattle.pool_filter.specs.Accepts.{loops_back}
use Rattle.pool_filter.specs.Own.{OwnSettings, contains, own, port_vlan_of}
use Rattle.pool_filter.specs.Reach.{KeepsApart, have_common, may_reach, share_a_vlan, tag_arrives, vlans_meet}
use Rattle.mailbox.specs.declared.slot.Slot.{Slot}
use Rattle.mailbox.specs.declared.slot.Slot.TheVariants.{Absent, Admitted}
use Rattle.mailbox.specs.Policy.{is_port}
use Rattle.mailbox.specs.Slot.{policy_of}
use Rattle.mailbox.specs.State.{HostState, slot_at}
use Rattle.mailbox.specs.Within.{IsWithin}
use Rattle.mailbox.specs.Words.{flags_word, is_all, settings_of, vlans_of}
use Rattle.mailbox.proofs.Entries.{table_at}
use Rattle.mailbox.proofs.Shown.{checks_on, vlan_shown}
use Rattle.card_laws.specs.Erased.{ShareNoVlan, takes_untagged}

-- a number of a list that passes a test
abbrev IsFound : (ℕ → Bool) → List ℕ → Type 0
IsFound t xs = (x : ℕ) × ((contains xs x ≡ true) × (t x ≡ true))

found : (t : ℕ → Bool) (xs : List ℕ) → list_any t xs ≡ true → IsFound t xs
found t [] some = absurd (true≢false (sym some))
found t (x ∷ xs) some = go (or_cases (t x) (list_any t xs) some) (found t xs)
  where
    go : (t x ≡ true) ⊎ (list_any t xs ≡ true) → (list_any t xs ≡ true → IsFound t xs) → IsFound t (x ∷ xs)
    go (inl here) rest = (x, (ap (λ b. b || contains xs x) (eq-eqb x x refl), here))
    go (inr later) rest = let at : IsFound t xs = rest later in (at.0, (either (eqb x at.0) at.1.0, at.1.1))
      where
        either : (b : Bool) → {c : Bool} → c ≡ true → (b || c) ≡ true
        either true is = refl
        either false is = is

-- a function that takes untagged frames has a policy, and no port VLAN
flags_open : (s : Slot) → has_bit (flags_word s) 24 ≡ true → takes_untagged (policy_of s) ≡ true
unfolding has_bit
flags_open Absent on = absurd (true≢false (sym on))
flags_open (Admitted policy None) on = absurd (true≢false (sym on))
flags_open (Admitted policy (Some g)) on = go (is_port policy.vlans) (g.groups || is_all g.multicast) on
  where
    go : (port many : Bool) → has_bit (2 ^ 27 + cond port 0 (2 ^ 24) + cond many (2 ^ 28) 0) 24 ≡ true → not port ≡ true
    go true true bit = absurd (true≢false (sym bit))
    go true false bit = absurd (true≢false (sym bit))
    go false many bit = refl

untagged_open : (h : HostState) (p : ℕ) → p < 64 → (own (settings_of h) p).takes_untagged ≡ true → takes_untagged (policy_of (slot_at h p)) ≡ true
unfolding own settings_of
untagged_open h p small on = flags_open (slot_at h p) (ap (λ w. has_bit w 24) (sym (table_at (λ r. flags_word (slot_at h r)) 64 p small)) ∙ on)

-- the two share no VLAN
none_shared : (h : HostState) (q r : ℕ) → q < 64 → r < 64 → IsWithin h → ShareNoVlan h q r → share_a_vlan (own (settings_of h) q) (own (settings_of h) r) ≡ false
unfolding share_a_vlan
none_shared h q r small also within apart = false_from_ne_true _ (λ shared. go (or_cases _ _ shared))
  where
    mine : OwnSettings
    mine = own (settings_of h) q

    theirs : OwnSettings
    theirs = own (settings_of h) r

    go : (have_common mine.vlan_ids theirs.vlan_ids ≡ true) ⊎ ((mine.takes_untagged && theirs.takes_untagged) ≡ true) → ⊥
    go (inl common) =
        let at : IsFound (contains theirs.vlan_ids) mine.vlan_ids = found (contains theirs.vlan_ids) mine.vlan_ids common in
        apart.named at.0 (vlan_shown h q at.0 small within at.1.0) (vlan_shown h r at.0 also within at.1.1)
    go (inr both) =
        let parts = and_parts mine.takes_untagged theirs.takes_untagged both in
        true≢false (sym (λ i. untagged_open h q small parts.0 i && untagged_open h r also parts.1 i) ∙ apart.untagged)

filtering : (h : HostState) → is_filtering (settings_of h).vlans ≡ true
unfolding settings_of vlans_of is_filtering has_bit
filtering h = refl

out_of_reach : (h : HostState) (q r : ℕ) → q < 64 → r < 64 → IsWithin h → ShareNoVlan h q r → may_reach (settings_of h) q r ≡ false
unfolding may_reach vlans_meet
out_of_reach h q r small also within apart =
    let mine : OwnSettings = own (settings_of h) q in
    let theirs : OwnSettings = own (settings_of h) r in
    (λ i. loops_back (settings_of h) && (mine.may_transmit && (not (filtering h i) || (tag_arrives (port_vlan_of mine.port_vlan) theirs && (not ((checks_on h q small).1 i) || none_shared h q r small also within apart i)))))
    ∙ none (loops_back (settings_of h)) mine.may_transmit (tag_arrives (port_vlan_of mine.port_vlan) theirs)
  where
    none : (a b c : Bool) → (a && (b && (false || (c && (false || false))))) ≡ false
    none false b c = refl
    none true false c = refl
    none true true false = refl
    none true true true = refl

pub by_policies : (group : ℕ → Bool) (h : HostState) → IsWithin h → ((q r : ℕ) → q < 64 → r < 64 → group q ≡ true → group r ≡ false → ShareNoVlan h q r) → KeepsApart (settings_of h) group
by_policies group h within apart q r small also here there = out_of_reach h q r small also within (apart q r small also here there)
