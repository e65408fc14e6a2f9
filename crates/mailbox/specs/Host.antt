-- What a message, a reset and a policy make of a host.
use Rattle.std.specs.Prelude.{ℕ, Bool, not, is_none, Option, Some, None, if◌then◌else◌}
use Rattle.mailbox.specs.declared.message.Message.{Message}
use Rattle.mailbox.specs.declared.not_admitted.NotAdmitted.{NotAdmitted}
use Rattle.mailbox.specs.declared.not_admitted.NotAdmitted.TheVariants.{NotUnicast, AddressOwned, NoSuchPlace}
use Rattle.mailbox.specs.declared.policy.Policy.{Policy}
use Rattle.mailbox.specs.declared.slot.Guest.{Guest}
use Rattle.mailbox.specs.declared.slot.Slot.{Slot}
use Rattle.mailbox.specs.declared.slot.Slot.TheVariants.{Absent}
use Rattle.mailbox.specs.Address.{number_of, is_unicast}
use Rattle.mailbox.specs.Granting.{found, answered}
use Rattle.mailbox.specs.Keeping.{under, without_address}
use Rattle.mailbox.specs.Policy.{is_placed}
use Rattle.mailbox.specs.Slot.{with_guest, granted_to}
use Rattle.mailbox.specs.State.{HostState, slot_at, with_slot, is_owned, holder}

-- what a message of pool p makes of its guest, or nothing where it is refused
unfoldable pub outcome : HostState → ℕ → Message → Option Guest
outcome h p message = answered h p (found (slot_at h p) message) message

-- the function of pool p after that: a message that is refused leaves it as it found it
unfoldable pub slot_after : HostState → ℕ → Message → Slot
slot_after h p message = granted_to (found (slot_at h p) message) (outcome h p message)

-- the host after a message of pool p: no other function is touched
unfoldable pub host_after : HostState → ℕ → Message → HostState
host_after h p message = with_slot h p (slot_after h p message)

-- after the guest of pool p is gone, or its function was reset
unfoldable pub host_without : HostState → ℕ → HostState
host_without h p = with_slot h p (with_guest (slot_at h p) None)

-- after no policy names the function of pool p any more
unfoldable pub host_dismissing : HostState → ℕ → HostState
host_dismissing h p = with_slot h p Absent

-- ---- policies

-- why a policy is not taken, if it is not: its address is no station's, or another function's permanent one, or the place of its
-- port VLAN is none of the ids'
unfoldable pub refusal : HostState → ℕ → Policy → Option NotAdmitted
refusal h p policy =
    if not (is_unicast (number_of policy.address)) then Some NotUnicast
    else (if is_owned h p (number_of policy.address) then Some AddressOwned
    else (if is_placed h.ids policy.vlans then None else Some NoSuchPlace))

-- the host of which that function, if there is one, has given the address up
abbrev pub freed_by : HostState → ℕ → Option ℕ → HostState
freed_by h a None = h
freed_by h a (Some q) = with_slot h q (without_address a (slot_at h q))

-- the host of which no other function than p holds the address: the one that had chosen it has given it up
unfoldable pub host_freed : HostState → ℕ → ℕ → HostState
host_freed h p a = freed_by h a (holder h p a)

-- the host with the function of pool p under the policy
unfoldable pub host_under : HostState → ℕ → Policy → HostState
host_under h p policy = with_slot h p (under policy (slot_at h p))

unfoldable pub host_admitting : HostState → ℕ → Policy → HostState
host_admitting h p policy = if is_none (refusal h p policy) then host_under (host_freed h p (number_of policy.address)) p policy else h
