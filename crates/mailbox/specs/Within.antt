-- What a function has at most: no more than its policy grants, and nothing that another holds.
use Rattle.std.specs.Prelude.{◌≡◌, ◌≢◌, ℕ, ◌%◌, ◌^◌, ◌<◌, Bool, true, false, ◌&&◌, ◌||◌, ◌==◌, Option, Some, None, ⊤, length, slice_index}
use Rattle.mailbox.specs.declared.message.Multicast.TheVariants.{All}
use Rattle.mailbox.specs.declared.policy.Policy.{Policy}
use Rattle.mailbox.specs.declared.slot.Guest.{Guest}
use Rattle.mailbox.specs.declared.slot.Slot.{Slot}
use Rattle.mailbox.specs.declared.slot.Slot.TheVariants.{Absent, Admitted}
use Rattle.mailbox.specs.Address.{number_of, is_unicast}
use Rattle.mailbox.specs.Policy.{is_granted, is_port_at, may_join}
use Rattle.mailbox.specs.Slot.{policy_of, joined_by, holds}
use Rattle.mailbox.specs.State.{HostState, slot_at}

abbrev pub grants : Option Policy → ℕ → Bool
grants None a = false
grants (Some policy) a = is_granted policy a

-- the policy has the VLAN at the place, as one to join or as the port VLAN
abbrev pub may_have : Policy → ℕ → Bool
may_have policy k = is_port_at policy.vlans k || may_join policy.vlans k

pub record IsGuestWithin (policy : Policy) (g : Guest) : Type 0 where
  pub address : is_granted policy g.address ≡ true
  pub second : (a : ℕ) → g.second ≡ Some a → is_granted policy a ≡ true
  pub joined : (k : ℕ) → joined_by g k ≡ true → may_have policy k ≡ true
  -- all multicast, where it may
  pub multicast : g.multicast ≡ All → policy.all_multicast ≡ true

-- where there is no guest, there is nothing that a guest may have
abbrev pub IsWithinPolicy : Slot → Type 0
IsWithinPolicy Absent = ⊤
IsWithinPolicy (Admitted policy None) = is_unicast (number_of policy.address) ≡ true
IsWithinPolicy (Admitted policy (Some g)) = (is_unicast (number_of policy.address) ≡ true) × IsGuestWithin policy g

pub record IsWithin (h : HostState) : Type 0 where
  pub policies : (p : ℕ) → p < 64 → IsWithinPolicy (slot_at h p)
  -- no two functions hold one address
  pub one_holder : (p q a : ℕ) → p < 64 → q < 64 → q ≢ p → holds (slot_at h p) a ≡ true → holds (slot_at h q) a ≡ false

-- the policy of every function is the same
abbrev pub KeepsPolicies : HostState → HostState → Type 0
KeepsPolicies h k = (q : ℕ) → policy_of (slot_at h q) ≡ policy_of (slot_at k q)

-- the policy of every function but p is the same
abbrev pub KeepsOtherPolicies : ℕ → HostState → HostState → Type 0
KeepsOtherPolicies p h k = (q : ℕ) → q ≢ p → policy_of (slot_at h q) ≡ policy_of (slot_at k q)

-- ---- in the registers

-- a policy has the VLAN at the place
abbrev pub is_named : Option Policy → ℕ → Bool
is_named None k = false
is_named (Some policy) k = may_have policy k

-- the id is that of a place which the policy of the pool's function has
abbrev pub IsNamedFor : HostState → ℕ → ℕ → Type 0
IsNamedFor h p id = (k : ℕ) × ((k < length h.ids) × ((slice_index h.ids k % 2 ^ 12 ≡ id) × (is_named (policy_of (slot_at h p)) k ≡ true)))
