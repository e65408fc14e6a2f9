-- What a policy grants.
use Rattle.std.specs.Prelude.{ℕ, Bool, true, false, ◌&&◌, ◌||◌, ◌==◌, nat_lt, suc, List, [], ◌∷◌, length, slice_get, Option, Some, None, if◌then◌else◌}
use Rattle.wire_frame.specs.Bits.{has_bit}
use Rattle.mailbox.specs.declared.message.Multicast.{Multicast}
use Rattle.mailbox.specs.declared.message.Multicast.TheVariants.{Off, Asked, All}
use Rattle.mailbox.specs.declared.policy.Policy.{Policy}
use Rattle.mailbox.specs.declared.policy.VlanPolicy.{VlanPolicy}
use Rattle.mailbox.specs.declared.policy.VlanPolicy.TheVariants.{Port, Joins}
use Rattle.mailbox.specs.Address.{number_of, is_unicast}

-- ---- addresses

-- the address is the permanent one, or one station's where the policy lets the guest choose
abbrev pub is_granted : Policy → ℕ → Bool
is_granted policy a = number_of policy.address == a || (policy.may_choose && is_unicast a)

-- ---- VLANs, by their places among the host's ids

abbrev pub is_port : VlanPolicy → Bool
is_port (Port k) = true
is_port (Joins places) = false

abbrev pub is_port_at : VlanPolicy → ℕ → Bool
is_port_at (Port j) k = j == k
is_port_at (Joins places) k = false

-- a driver may join the VLAN at the place
abbrev pub may_join : VlanPolicy → ℕ → Bool
may_join (Port j) k = false
may_join (Joins places) k = has_bit places k

-- the first place from k on that has the id
abbrev pub place_from : ℕ → List ℕ → ℕ → Option ℕ
place_from k [] id = None
place_from k (x ∷ xs) id = if x == id then Some k else place_from (suc k) xs id

-- the place, if it passes the test
abbrev pub place_where : (ℕ → Bool) → Option ℕ → Option ℕ
place_where t None = None
place_where t (Some k) = if t k then Some k else None

-- the place of the id, where it is one to join
abbrev pub place_to_join : List ℕ → VlanPolicy → ℕ → Option ℕ
place_to_join ids vlans id = place_where (may_join vlans) (place_from 0 ids id)

-- the id of a port VLAN
abbrev pub port_of : List ℕ → VlanPolicy → Option ℕ
port_of ids (Port k) = slice_get ids k
port_of ids (Joins places) = None

-- the place of a port VLAN is one of the ids'
abbrev pub is_placed : List ℕ → VlanPolicy → Bool
is_placed ids (Port k) = nat_lt k (length ids)
is_placed ids (Joins places) = true

-- ---- multicast

-- all multicast, and what is above, becomes the groups that were asked for, where the policy does not have all
abbrev pub multicast_for : Policy → Option Multicast → Option Multicast
multicast_for policy None = if policy.all_multicast then None else Some Asked
multicast_for policy (Some Off) = Some Off
multicast_for policy (Some Asked) = Some Asked
multicast_for policy (Some All) = if policy.all_multicast then Some All else Some Asked
