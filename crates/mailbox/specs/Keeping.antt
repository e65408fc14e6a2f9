-- What a guest keeps under another policy: what that grants; and what it keeps where an address is taken from it.
use Rattle.std.specs.Prelude.{ℕ, ◌==◌, Option, Some, None, bit_and, if◌then◌else◌}
use Rattle.mailbox.specs.declared.message.Multicast.{Multicast}
use Rattle.mailbox.specs.declared.message.Multicast.TheVariants.{Off, Asked, All}
use Rattle.mailbox.specs.declared.policy.Policy.{Policy}
use Rattle.mailbox.specs.declared.policy.VlanPolicy.{VlanPolicy}
use Rattle.mailbox.specs.declared.policy.VlanPolicy.TheVariants.{Port, Joins}
use Rattle.mailbox.specs.declared.slot.Guest.{Guest}
use Rattle.mailbox.specs.declared.slot.Slot.{Slot}
use Rattle.mailbox.specs.declared.slot.Slot.TheVariants.{Absent, Admitted}
use Rattle.mailbox.specs.Address.{number_of}
use Rattle.mailbox.specs.Policy.{is_granted}
use Rattle.mailbox.specs.Slot.{guest_of}

-- the address in use, or the permanent one in its place
abbrev pub kept_address : Policy → ℕ → ℕ
kept_address policy a = if is_granted policy a then a else number_of policy.address

-- the second address, or none
abbrev pub kept_second : Policy → Option ℕ → Option ℕ
kept_second policy None = None
kept_second policy (Some a) = if is_granted policy a then Some a else None

-- the places that a driver may join
abbrev pub places_to_join : VlanPolicy → ℕ
places_to_join (Port k) = 0
places_to_join (Joins places) = places

-- all multicast, or the groups that were asked for
abbrev pub kept_multicast : Policy → Multicast → Multicast
kept_multicast policy Off = Off
kept_multicast policy Asked = Asked
kept_multicast policy All = if policy.all_multicast then All else Asked

abbrev pub kept_guest : Policy → Guest → Guest
kept_guest policy g = record g {
  address = kept_address policy g.address;
  second = kept_second policy g.second;
  joined = bit_and g.joined (places_to_join policy.vlans);
  multicast = kept_multicast policy g.multicast;
}

abbrev pub kept : Policy → Option Guest → Option Guest
kept policy None = None
kept policy (Some g) = Some (kept_guest policy g)

-- the function under the policy: a function that was up stays up
abbrev pub under : Policy → Slot → Slot
under policy s = Admitted policy (kept policy (guest_of s))

-- ---- a function that gives up an address that it chose

abbrev pub address_without : Policy → ℕ → ℕ → ℕ
address_without policy a b = if b == a then number_of policy.address else b

abbrev pub second_without : ℕ → Option ℕ → Option ℕ
second_without a None = None
second_without a (Some b) = if b == a then None else Some b

abbrev pub guest_without : Policy → ℕ → Guest → Guest
guest_without policy a g = record g { address = address_without policy a g.address; second = second_without a g.second }

abbrev pub without_address : ℕ → Slot → Slot
without_address a Absent = Absent
without_address a (Admitted policy None) = Admitted policy None
without_address a (Admitted policy (Some g)) = Admitted policy (Some (guest_without policy a g))
