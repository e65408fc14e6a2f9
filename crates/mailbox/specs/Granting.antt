-- What a message makes of a function's guest.
use Rattle.std.specs.Prelude.{ℕ, ◌+◌, ◌^◌, Bool, true, not, ◌&&◌, ◌||◌, ◌==◌, nat_le, List, Option, Some, None, bit_and, if◌then◌else◌}
use Rattle.std.specs.Int.{bit_not, w64}
use Rattle.wire_frame.specs.Bits.{with_bit}
use Rattle.mailbox.specs.declared.message.Multicast.{Multicast}
use Rattle.mailbox.specs.declared.message.Multicast.TheVariants.{Off, Asked, All}
use Rattle.mailbox.specs.declared.message.Message.{Message}
use Rattle.mailbox.specs.declared.message.Message.TheVariants.{Reset, SetAddress, SetMulticast, JoinVlan, LeaveVlan, SetFrameLength, ClearSecond, ReplaceSecond, AddSecond, NegotiateApi, GetQueues, SetMulticastMode, GetLinkState, Other}
use Rattle.mailbox.specs.declared.policy.Policy.{Policy}
use Rattle.mailbox.specs.declared.slot.Guest.{Guest}
use Rattle.mailbox.specs.declared.slot.Slot.{Slot}
use Rattle.mailbox.specs.declared.slot.Slot.TheVariants.{Absent, Admitted}
use Rattle.mailbox.specs.Address.{number_of, is_unicast}
use Rattle.mailbox.specs.Policy.{is_port, place_to_join, multicast_for}
use Rattle.mailbox.specs.Slot.{begun, has_queues, has_modes}
use Rattle.mailbox.specs.State.{HostState, is_taken}

-- ---- addresses

-- beside its permanent address the function may have one that is unicast and that no other function holds, where its policy
-- lets it choose
abbrev pub may_add : HostState → ℕ → Policy → ℕ → Bool
may_add h p policy a = policy.may_choose && (is_unicast a && not (is_taken h p a))

abbrev pub moved : HostState → ℕ → Policy → Guest → ℕ → Option Guest
moved h p policy g a = if number_of policy.address == a || may_add h p policy a then Some (record g { address = a }) else None

-- a guest has one second address at most: there is room for the address where it has none, or that one
abbrev pub has_room : Option ℕ → ℕ → Bool
has_room None a = true
has_room (Some b) a = b == a

abbrev pub second_added : HostState → ℕ → Policy → Guest → ℕ → Option Guest
second_added h p policy g a = if has_room g.second a && may_add h p policy a then Some (record g { second = Some a }) else None

-- the guest as a message finds it: it has given its second address up, where that comes first, be the rest granted or refused
abbrev pub found_by : Message → Guest → Guest
found_by ClearSecond g = record g { second = None }
found_by (ReplaceSecond a) g = record g { second = None }
found_by message g = g

abbrev pub found : Slot → Message → Slot
found Absent message = Absent
found (Admitted policy None) message = Admitted policy None
found (Admitted policy (Some g)) message = Admitted policy (Some (found_by message g))

-- ---- VLANs

abbrev pub joined_at : Guest → Option ℕ → Option Guest
joined_at g None = None
joined_at g (Some k) = Some (record g { joined = with_bit g.joined k })

abbrev pub joined : HostState → Policy → Guest → ℕ → Option Guest
joined h policy g id = joined_at g (place_to_join h.ids policy.vlans id)

-- the set without place k
abbrev pub without_bit : ℕ → ℕ → ℕ
without_bit n k = bit_and n (bit_not w64 (2 ^ k))

abbrev pub left_at : Guest → Option ℕ → Option Guest
left_at g None = None
left_at g (Some k) = Some (record g { joined = without_bit g.joined k })

-- id 0 is never left; with a port VLAN nothing is joined or left
abbrev pub left : HostState → Policy → Guest → ℕ → Option Guest
left h policy g id = if id == 0 && not (is_port policy.vlans) then Some g else left_at g (place_to_join h.ids policy.vlans id)

-- ---- the others

-- up to the device's limit and 4 bytes of FCS
abbrev pub length_set : HostState → Guest → ℕ → Option Guest
length_set h g n = if nat_le n (h.limit + 4) then Some (record g { frame_length = n }) else None

abbrev pub wants_groups : Multicast → Bool
wants_groups Off = not true
wants_groups Asked = true
wants_groups All = true

abbrev pub with_multicast : Guest → Option Multicast → Option Guest
with_multicast g None = None
with_multicast g (Some m) = Some (record g { multicast = m; groups = g.groups && wants_groups m })

-- from version 1.2 on; with no multicast there are no groups
abbrev pub multicast_set : Guest → Option Multicast → Option Guest
multicast_set g m = if has_modes g.api then with_multicast g m else None

abbrev pub granted_if : Bool → Guest → Option Guest
granted_if b g = if b then Some g else None

-- the guest after a message that found it so, or nothing where the message is refused
unfoldable pub granted : HostState → ℕ → Policy → Guest → Message → Option Guest
granted h p policy g Reset = Some (begun h.ids policy)
granted h p policy g (SetAddress a) = moved h p policy g a
granted h p policy g (SetMulticast groups) = Some (record g { groups = groups })
granted h p policy g (JoinVlan id) = joined h policy g id
granted h p policy g (LeaveVlan id) = left h policy g id
granted h p policy g (SetFrameLength n) = length_set h g n
granted h p policy g ClearSecond = Some g
granted h p policy g (ReplaceSecond a) = second_added h p policy g a
granted h p policy g (AddSecond a) = second_added h p policy g a
granted h p policy g (NegotiateApi api) = Some (record g { api = api })
granted h p policy g GetQueues = granted_if (has_queues g.api) g
granted h p policy g (SetMulticastMode asked) = multicast_set g (multicast_for policy asked)
granted h p policy g GetLinkState = granted_if (has_modes g.api) g
granted h p policy g Other = None

-- a function without a guest hears RESET alone
abbrev pub when_reset : List ℕ → Policy → Message → Option Guest
when_reset ids policy Reset = Some (begun ids policy)
when_reset ids policy message = None

-- and one that no policy names hears nothing
abbrev pub answered : HostState → ℕ → Slot → Message → Option Guest
answered h p Absent message = None
answered h p (Admitted policy None) message = when_reset h.ids policy message
answered h p (Admitted policy (Some g)) message = granted h p policy g message
