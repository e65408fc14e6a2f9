-- Which pools accept a frame, and what else the registers say of pools.
use Rattle.std.specs.Prelude.{ℕ, Bool, false, not, ◌&&◌, ◌||◌, List, Option, Some, None, slice_index, if◌then◌else◌}
use Rattle.byteorder.specs.Endian.{little_number}
use Rattle.wire_frame.specs.declared.address.AddressKind.{AddressKind}
use Rattle.wire_frame.specs.declared.address.AddressKind.TheVariants.{Broadcast, Multicast, Unicast}
use Rattle.wire_frame.specs.Address.{kind_of}
use Rattle.wire_frame.specs.Bits.{has_bit, has_bit_in, field}
use Rattle.wire_frame.specs.Frame.{destination, is_tagged, vlan_id}
use Rattle.addr_tables.specs.Addresses.{has_address, multicast_hit}
use Rattle.vlan_table.specs.Vlans.{is_filtering, has_vlan}
use Rattle.pool_filter.specs.Registers.{AUPE, ROMPE, BAM, MPE, DEFAULT_POOL, DEFAULT_POOL_SIZE, DEFAULT_POOL_OFF, LOOPBACK}
use Rattle.pool_filter.specs.Settings.{Settings}

-- ---- the flags of a pool

abbrev pub flags_of : Settings → ℕ → ℕ
flags_of s pool = slice_index s.pool_flags pool

-- AUPE: untagged frames
abbrev pub takes_untagged : Settings → ℕ → Bool
takes_untagged s pool = has_bit (flags_of s pool) AUPE

-- ROMPE: multicast frames by the multicast table
abbrev pub takes_hashed : Settings → ℕ → Bool
takes_hashed s pool = has_bit (flags_of s pool) ROMPE

-- BAM: broadcast frames
abbrev pub takes_broadcast : Settings → ℕ → Bool
takes_broadcast s pool = has_bit (flags_of s pool) BAM

-- MPE: all multicast frames
abbrev pub takes_multicast : Settings → ℕ → Bool
takes_multicast s pool = has_bit (flags_of s pool) MPE

-- ---- the filters

-- the pool takes frames to an address of that kind
abbrev pub takes_kind : Settings → ℕ → ℕ → AddressKind → Bool
takes_kind s pool address Broadcast = takes_broadcast s pool
takes_kind s pool address Multicast = takes_multicast s pool || (takes_hashed s pool && multicast_hit s.addresses address)
takes_kind s pool address Unicast = false

-- the pool takes frames to the address, which it need not have
unfoldable pub takes_group : Settings → ℕ → List ℕ → Bool
takes_group s pool address = takes_kind s pool (little_number 6 address) (kind_of address)

-- the frame's VLAN is the pool's, where VLANs are filtered
unfoldable pub is_in_vlan : Settings → ℕ → List ℕ → Bool
is_in_vlan s pool frame =
    not (is_filtering s.vlans) || (if is_tagged frame then has_vlan s.vlans pool (vlan_id frame) else takes_untagged s pool)

-- the pool accepts the frame: it has the destination or takes its kind, and the frame is in its VLANs
unfoldable pub accepts : Settings → ℕ → List ℕ → Bool
accepts s pool frame =
    (has_address s.addresses pool (little_number 6 (destination frame)) || takes_group s pool (destination frame)) && is_in_vlan s pool frame

-- ---- switches

-- the pool that takes frames from the wire which no pool accepts, if there is one
abbrev pub default_pool : Settings → Option ℕ
default_pool s = if has_bit s.pool_control DEFAULT_POOL_OFF then None else Some (field s.pool_control DEFAULT_POOL DEFAULT_POOL_SIZE)

-- frames go from pool to pool
abbrev pub loops_back : Settings → Bool
loops_back s = has_bit s.loopback LOOPBACK

abbrev pub may_receive : Settings → ℕ → Bool
may_receive s pool = has_bit_in s.receive_enable pool

abbrev pub may_transmit : Settings → ℕ → Bool
may_transmit s pool = has_bit_in s.transmit_enable pool
