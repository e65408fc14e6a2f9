-- The registers of the physical function, as they are for a host: each word by its place in its row.
use Rattle.std.specs.Prelude.{ℕ, zero, suc, ◌+◌, ◌-◌, ◌*◌, ◌/◌, ◌%◌, ◌^◌, Bool, true, false, ◌&&◌, ◌||◌, ◌==◌, nat_lt, List, length, map, replicate, Option, Some, None, slice_index, if◌then◌else◌}
use Rattle.std.specs.List.{range_with_len}
use Rattle.addr_tables.specs.Addresses.{Addresses}
use Rattle.addr_tables.specs.Registers.{VALID as ENTRY_VALID}
use Rattle.vlan_table.specs.Vlans.{Vlans}
use Rattle.vlan_table.specs.Registers.{VFE, VALID as VLAN_VALID}
use Rattle.pool_filter.specs.Registers.{AUPE, BAM, MPE, PORT_VLAN_RULE, ALWAYS, LOOPBACK, PF_VT_CTL_SET, DEFAULT_POOL, DEFAULT_POOL_OFF}
use Rattle.pool_filter.specs.Settings.{Settings}
use Rattle.pool_filter.specs.Own.{contains}
use Rattle.mailbox.specs.declared.message.Multicast.{Multicast}
use Rattle.mailbox.specs.declared.message.Multicast.TheVariants.{Off, Asked, All}
use Rattle.mailbox.specs.declared.slot.Guest.{Guest}
use Rattle.mailbox.specs.declared.slot.Slot.{Slot}
use Rattle.mailbox.specs.declared.slot.Slot.TheVariants.{Absent, Admitted}
use Rattle.mailbox.specs.declared.words.Set.{Set}
use Rattle.mailbox.specs.declared.words.Set.TheVariants.{Up, Joined, Named}
use Rattle.mailbox.specs.Address.{low_part, high_part}
use Rattle.mailbox.specs.Policy.{port_of}
use Rattle.mailbox.specs.Slot.{guest_of, is_on, has_port, own_address, second_address, has_joined}
use Rattle.mailbox.specs.State.{HostState, slot_at}

-- the number with bit i at 1 where the test holds of first + i, for each i below count
unfoldable pub mask_from : (ℕ → Bool) → ℕ → ℕ → ℕ
mask_from t first zero = 0
mask_from t first (suc count) = (if t first then 1 else 0) + 2 * mask_from t (suc first) count

-- n words, each by its place
abbrev pub table : ℕ → (ℕ → ℕ) → List ℕ
table n word = map word (range_with_len 0 n)

-- ---- sets of pools and of ids

abbrev pub up_at : HostState → ℕ → Bool
up_at h p = is_on (slot_at h p)

abbrev pub joined_at : HostState → ℕ → ℕ → Bool
joined_at h k p = has_joined (slot_at h p) k

-- the functions that are up with their links, those that joined the VLAN at place k, and the ids that policies name
abbrev pub is_in_set : HostState → Set → ℕ → Bool
is_in_set h Up = up_at h
is_in_set h (Joined k) = joined_at h k
is_in_set h Named = contains h.ids

-- the set is one of numbers up to that one: of pools, or of ids
abbrev pub reaches : Set → ℕ → Bool
reaches Up n = nat_lt n 64
reaches (Joined k) n = nat_lt k 64 && nat_lt n 64
reaches Named n = nat_lt n 4096

-- ---- receive addresses: entries p and 64 + p are pool p's

-- the address of entry e
abbrev pub entry : HostState → ℕ → Option ℕ
entry h e = if nat_lt e 64 then own_address (slot_at h e) else second_address (slot_at h (e - 64))

-- RAL: bytes 0 to 3
abbrev pub low_word : HostState → ℕ → ℕ
low_word h e = low_part (entry h e)

-- RAH: AV, and bytes 4 and 5
abbrev pub valid : Option ℕ → ℕ
valid None = 0
valid (Some a) = 2 ^ ENTRY_VALID + high_part (Some a)

abbrev pub high_word : HostState → ℕ → ℕ
high_word h e = valid (entry h e)

-- MPSAR: words 2e and 2e + 1 have the bit of pool e % 64 alone
abbrev pub pool_word : ℕ → ℕ
pool_word i = if i / 2 % 64 / 32 == i % 2 then 2 ^ (i / 2 % 64 % 32) else 0

-- ---- VLANs: entry k is the k-th id

-- VLVF: VI_En, and the id
abbrev pub id_word : HostState → ℕ → ℕ
id_word h k = if nat_lt k (length h.ids) then 2 ^ VLAN_VALID + slice_index h.ids k % 2 ^ 12 else 0

-- VFTA: every id that a policy names
abbrev pub table_word : HostState → ℕ → ℕ
table_word h i = mask_from (contains h.ids) (32 * i) 32

-- VLVFB: words 2k and 2k + 1 are the pools that joined
abbrev pub member_word : HostState → ℕ → ℕ
member_word h i = if nat_lt i (2 * length h.ids) then mask_from (joined_at h (i / 2)) (32 * (i % 2)) 32 else 0

-- ---- pools

-- PFVFRE and PFVFTE: the functions that are up with their links
abbrev pub up_word : HostState → ℕ → ℕ
up_word h half = mask_from (up_at h) (32 * half) 32

-- VMOLR of a function that is up: BAM; AUPE where there is no port VLAN; MPE where groups were asked for, or all multicast
abbrev pub is_all : Multicast → Bool
is_all Off = false
is_all Asked = false
is_all All = true

abbrev pub multicast_flag : Guest → ℕ
multicast_flag g = if g.groups || is_all g.multicast then 2 ^ MPE else 0

abbrev pub flags_with : Bool → Option Guest → ℕ
flags_with port None = 0
flags_with port (Some g) = 2 ^ BAM + (if port then 0 else 2 ^ AUPE) + multicast_flag g

abbrev pub flags_word : Slot → ℕ
flags_word s = flags_with (has_port s) (guest_of s)

-- VMVIR: a port VLAN is inserted always
abbrev pub inserted : Option ℕ → ℕ
inserted None = 0
inserted (Some id) = ALWAYS * 2 ^ PORT_VLAN_RULE + id % 2 ^ 12

abbrev pub port_word : List ℕ → Slot → ℕ
port_word ids Absent = 0
port_word ids (Admitted policy None) = 0
port_word ids (Admitted policy (Some g)) = inserted (port_of ids policy.vlans)

-- PF_VT_CTL: the default pool, or that there is none
abbrev pub control_word : Option ℕ → ℕ
control_word None = PF_VT_CTL_SET + 2 ^ DEFAULT_POOL_OFF
control_word (Some pool) = PF_VT_CTL_SET + pool % 64 * 2 ^ DEFAULT_POOL

-- PFVFSPOOF: the address check and the VLAN check of eight pools
abbrev pub CHECKS_ON : ℕ
CHECKS_ON = 0xFFFF

-- ---- all of them

unfoldable pub addresses_of : HostState → Addresses
addresses_of h = record {
  low = table 128 (low_word h);
  high = table 128 (high_word h);
  pools = table 256 pool_word;
  hashes = replicate 128 0;
  control = 0;
}

-- VLANs are filtered
unfoldable pub vlans_of : HostState → Vlans
vlans_of h = record {
  control = 2 ^ VFE;
  table = table 128 (table_word h);
  entries = table 64 (id_word h);
  pools = table 128 (member_word h);
}

-- the source checks of all pools are on, and so is loopback; the multicast table is empty
unfoldable pub settings_of : HostState → Settings
settings_of h = record {
  addresses = addresses_of h;
  vlans = vlans_of h;
  pool_control = control_word h.default_pool;
  receive_enable = table 2 (up_word h);
  transmit_enable = table 2 (up_word h);
  port_vlans = table 64 (λ p. port_word h.ids (slot_at h p));
  sender_checks = replicate 8 CHECKS_ON;
  loopback = 2 ^ LOOPBACK;
  pool_flags = table 64 (λ p. flags_word (slot_at h p));
}
