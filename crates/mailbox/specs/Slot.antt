-- One function: its policy, and its guest while it is up.
use Rattle.std.specs.Prelude.{ℕ, ◌^◌, Bool, true, false, ◌&&◌, ◌||◌, ◌==◌, List, is_some, Option, Some, None}
use Rattle.wire_frame.specs.Bits.{has_bit}
use Rattle.mailbox.specs.declared.message.Api.{Api}
use Rattle.mailbox.specs.declared.message.Api.TheVariants.{V1_0, V1_1, V1_2, V1_3}
use Rattle.mailbox.specs.declared.message.Multicast.TheVariants.{Asked}
use Rattle.mailbox.specs.declared.policy.Policy.{Policy}
use Rattle.mailbox.specs.declared.slot.Guest.{Guest}
use Rattle.mailbox.specs.declared.slot.Slot.{Slot}
use Rattle.mailbox.specs.declared.slot.Slot.TheVariants.{Absent, Admitted}
use Rattle.mailbox.specs.Address.{number_of, is_number}
use Rattle.mailbox.specs.Policy.{is_port, is_port_at, place_to_join}

abbrev pub policy_of : Slot → Option Policy
policy_of Absent = None
policy_of (Admitted policy guest) = Some policy

abbrev pub guest_of : Slot → Option Guest
guest_of Absent = None
guest_of (Admitted policy guest) = guest

-- the same function with another guest, or with none
abbrev pub with_guest : Slot → Option Guest → Slot
with_guest Absent guest = Absent
with_guest (Admitted policy old) guest = Admitted policy guest

-- the function after it was granted a guest, or was refused
abbrev pub granted_to : Slot → Option Guest → Slot
granted_to s None = s
granted_to s (Some g) = with_guest s (Some g)

-- a function is up while it has a guest
abbrev pub is_up : Slot → Bool
is_up s = is_some (guest_of s)

-- the administrator has its link up
abbrev pub has_link : Slot → Bool
has_link Absent = false
has_link (Admitted policy guest) = policy.link_up

-- it may receive and transmit: it is up, and so is its link
abbrev pub is_on : Slot → Bool
is_on s = is_up s && has_link s

abbrev pub has_port : Slot → Bool
has_port Absent = false
has_port (Admitted policy guest) = is_port policy.vlans

-- ---- a guest

-- the set of that place alone, or of none
abbrev pub only : Option ℕ → ℕ
only None = 0
only (Some k) = 2 ^ k

-- as RESET leaves it: the permanent address, VLAN 0 where that is one to join, the groups that it asks for, 1,518 bytes and a
-- tag, version 1.0
abbrev pub begun : List ℕ → Policy → Guest
begun ids policy = record {
  address = number_of policy.address;
  second = None;
  joined = only (place_to_join ids policy.vlans 0);
  groups = false;
  multicast = Asked;
  frame_length = 1522;
  api = V1_0;
}

-- queues from version 1.1 on, multicast modes and the link from 1.2 on
abbrev pub has_queues : Api → Bool
has_queues V1_0 = false
has_queues V1_1 = true
has_queues V1_2 = true
has_queues V1_3 = true

abbrev pub has_modes : Api → Bool
has_modes V1_0 = false
has_modes V1_1 = false
has_modes V1_2 = true
has_modes V1_3 = true

-- the address in use, and the second one
abbrev pub first_of : Option Guest → Option ℕ
first_of None = None
first_of (Some g) = Some g.address

abbrev pub second_of : Option Guest → Option ℕ
second_of None = None
second_of (Some g) = g.second

abbrev pub own_address : Slot → Option ℕ
own_address s = first_of (guest_of s)

abbrev pub second_address : Slot → Option ℕ
second_address s = second_of (guest_of s)

abbrev pub joined_by : Guest → ℕ → Bool
joined_by g k = has_bit g.joined k

-- ---- what a function has

-- the address is the function's: its permanent one, the one in use, or its second
unfoldable pub holds : Slot → ℕ → Bool
holds Absent a = false
holds (Admitted policy guest) a = number_of policy.address == a || (is_number (first_of guest) a || is_number (second_of guest) a)

-- the address is its permanent one
abbrev pub owns : Slot → ℕ → Bool
owns Absent a = false
owns (Admitted policy guest) a = number_of policy.address == a

-- the function is up and in the VLAN at the place, by its port or since its driver joined
abbrev pub has_joined : Slot → ℕ → Bool
has_joined Absent k = false
has_joined (Admitted policy None) k = false
has_joined (Admitted policy (Some g)) k = is_port_at policy.vlans k || joined_by g k
