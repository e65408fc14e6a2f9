-- What of the settings is a pool's own.
use Rattle.std.specs.Prelude.{◌≡◌, ℕ, ◌+◌, ◌/◌, ◌%◌, ◌^◌, Bool, false, ◌&&◌, List, [], ◌∷◌, map, ◌==◌, nat_lt, bytes_eq, slice_index, if◌then◌else◌}
use Rattle.std.specs.Bool.{beq}
use Rattle.std.specs.List.{list_any, range_with_len, filter}
use Rattle.wire_frame.specs.declared.vlan.PortVlan.{PortVlan}
use Rattle.wire_frame.specs.declared.vlan.PortVlan.TheVariants.{Descriptor, Always, Never}
use Rattle.wire_frame.specs.Bits.{has_bit, has_bit_in, field}
use Rattle.addr_tables.specs.Addresses.{Addresses, entry_address, entry_has_pool as address_has_pool}
use Rattle.vlan_table.specs.Vlans.{Vlans, entry_id, entry_has_pool as vlan_has_pool}
use Rattle.pool_filter.specs.Registers.{PORT_VLAN_RULE, PORT_VLAN_RULE_SIZE, ALWAYS, NEVER}
use Rattle.pool_filter.specs.Settings.{Settings}
use Rattle.pool_filter.specs.Accepts.{takes_untagged, may_receive, may_transmit}

-- the addresses of all entries that are valid and have the pool's bit
abbrev pub addresses_of : Addresses → ℕ → List ℕ
addresses_of a pool = map (entry_address a) (filter (address_has_pool a pool) (range_with_len 0 128))

-- the ids of all such entries that are in the VLAN table
abbrev pub vlan_ids_of : Vlans → ℕ → List ℕ
vlan_ids_of v pool = filter (has_bit_in v.table) (map (entry_id v) (filter (vlan_has_pool v pool) (range_with_len 0 64)))

-- the set of the numbers, as the one list of them that strictly rises
abbrev pub with_number : ℕ → List ℕ → List ℕ
with_number x [] = x ∷ []
with_number x (y ∷ ys) = if nat_lt x y then x ∷ y ∷ ys else (if x == y then y ∷ ys else y ∷ with_number x ys)

abbrev pub rising : List ℕ → List ℕ
rising [] = []
rising (x ∷ xs) = with_number x (rising xs)

abbrev pub contains : List ℕ → ℕ → Bool
contains xs x = list_any (λ y. y == x) xs

-- addresses as numbers, and VLAN ids, strictly rise, so that equal settings are equal sets; the port VLAN is the pool's
-- word of VMVIR
pub record OwnSettings : Type 0 where
  pub addresses : List ℕ
  pub vlan_ids : List ℕ
  pub takes_untagged : Bool
  pub may_receive : Bool
  pub may_transmit : Bool
  pub checks_address : Bool
  pub checks_vlan : Bool
  pub port_vlan : ℕ

-- those of a pool that has nothing
abbrev pub no_settings : OwnSettings
no_settings = record {
  addresses = [];
  vlan_ids = [];
  takes_untagged = false;
  may_receive = false;
  may_transmit = false;
  checks_address = false;
  checks_vlan = false;
  port_vlan = 0;
}

-- those of a pool
unfoldable pub own : Settings → ℕ → OwnSettings
own s pool = record {
  addresses = rising (addresses_of s.addresses pool);
  vlan_ids = rising (vlan_ids_of s.vlans pool);
  takes_untagged = takes_untagged s pool;
  may_receive = may_receive s pool;
  may_transmit = may_transmit s pool;
  checks_address = has_bit (slice_index s.sender_checks (pool / 8)) (pool % 8);
  checks_vlan = has_bit (slice_index s.sender_checks (pool / 8)) (8 + pool % 8);
  port_vlan = slice_index s.port_vlans pool;
}

-- what a word of VMVIR says, by its rule
abbrev pub port_vlan_of : ℕ → PortVlan
port_vlan_of word =
    if field word PORT_VLAN_RULE PORT_VLAN_RULE_SIZE == ALWAYS then Always (word % 2 ^ 16)
    else (if field word PORT_VLAN_RULE PORT_VLAN_RULE_SIZE == NEVER then Never else Descriptor)

-- two pools' own settings say the same: equal sets, equal flags, equal port VLANs
pub record SaysSame (o n : OwnSettings) : Type 0 where
  pub addresses : (address : ℕ) → contains o.addresses address ≡ contains n.addresses address
  pub vlan_ids : (id : ℕ) → contains o.vlan_ids id ≡ contains n.vlan_ids id
  pub takes_untagged : o.takes_untagged ≡ n.takes_untagged
  pub may_receive : o.may_receive ≡ n.may_receive
  pub may_transmit : o.may_transmit ≡ n.may_transmit
  pub checks_address : o.checks_address ≡ n.checks_address
  pub checks_vlan : o.checks_vlan ≡ n.checks_vlan
  pub port_vlan : o.port_vlan ≡ n.port_vlan

-- ---- the test of that

abbrev pub same_settings : OwnSettings → OwnSettings → Bool
same_settings o n = bytes_eq o.addresses n.addresses && (bytes_eq o.vlan_ids n.vlan_ids
    && (beq o.takes_untagged n.takes_untagged && (beq o.may_receive n.may_receive && (beq o.may_transmit n.may_transmit
    && (beq o.checks_address n.checks_address && (beq o.checks_vlan n.checks_vlan && (o.port_vlan == n.port_vlan)))))))
