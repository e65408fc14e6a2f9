-- The registers of the physical function: their words by offset.
use Rattle.std.specs.Prelude.{ℕ, ◌==◌, List, Option, replicate, bit_or, bit_and, if◌then◌else◌}
use Rattle.std.specs.Option.{unwrap_or}
use Rattle.wire_frame.specs.Row.{◌or◌, word_at, words_after, one_at, one_after}
use Rattle.pool_filter.specs.Registers.{PF_VT_CTL, PF_VT_CTL_INITIAL, PF_VT_CTL_KEPT, PF_VT_CTL_SET, PFVFRE, PFVFTE, VMVIR, PFVFSPOOF, PFDTXGSWC, PFDTXGSWC_KEPT, VMOLR}
use Rattle.addr_tables.specs.Addresses.{Addresses, initial_addresses, addresses_at, addresses_after}
use Rattle.vlan_table.specs.Vlans.{Vlans, initial_vlans, vlans_at, vlans_after}

-- the words of all registers but those that show resets: beside the tables PF_VT_CTL, PFVFRE, PFVFTE, VMVIR, PFVFSPOOF,
-- PFDTXGSWC and VMOLR
pub record Settings : Type 0 where
  pub addresses : Addresses
  pub vlans : Vlans
  pub pool_control : ℕ
  pub receive_enable : List ℕ
  pub transmit_enable : List ℕ
  pub port_vlans : List ℕ
  pub sender_checks : List ℕ
  pub loopback : ℕ
  pub pool_flags : List ℕ

-- as a device is made: the default pool is off, and all else is 0
unfoldable pub initial_settings : Settings
initial_settings = record {
  addresses = initial_addresses;
  vlans = initial_vlans;
  pool_control = PF_VT_CTL_INITIAL;
  receive_enable = replicate 2 0;
  transmit_enable = replicate 2 0;
  port_vlans = replicate 64 0;
  sender_checks = replicate 8 0;
  loopback = 0;
  pool_flags = replicate 64 0;
}

-- ---- the words by their offsets

-- what a read of the offset gives, if it names a word of the pools' registers
unfoldable pub pools_at : Settings → ℕ → Option ℕ
pools_at s offset = one_at PF_VT_CTL s.pool_control offset
    or word_at PFVFRE s.receive_enable offset
    or word_at PFVFTE s.transmit_enable offset
    or word_at VMVIR s.port_vlans offset
    or word_at PFVFSPOOF s.sender_checks offset
    or one_at PFDTXGSWC s.loopback offset
    or word_at VMOLR s.pool_flags offset

-- what a read of the offset gives: 0 where no register stands
unfoldable pub settings_at : Settings → ℕ → ℕ
settings_at s offset = unwrap_or (addresses_at s.addresses offset or vlans_at s.vlans offset or pools_at s offset) 0

-- PF_VT_CTL after a write: some bits are always 1
unfoldable pub pool_control_after : ℕ → ℕ → ℕ → ℕ
pool_control_after word offset x = if offset == PF_VT_CTL then bit_or (bit_and x PF_VT_CTL_KEPT) PF_VT_CTL_SET else word

-- the words after a write of x
unfoldable pub settings_after : Settings → ℕ → ℕ → Settings
settings_after s offset x = record {
  addresses = addresses_after s.addresses offset x;
  vlans = vlans_after s.vlans offset x;
  pool_control = pool_control_after s.pool_control offset x;
  receive_enable = words_after PFVFRE s.receive_enable offset x;
  transmit_enable = words_after PFVFTE s.transmit_enable offset x;
  port_vlans = words_after VMVIR s.port_vlans offset x;
  sender_checks = words_after PFVFSPOOF s.sender_checks offset x;
  loopback = one_after PFDTXGSWC PFDTXGSWC_KEPT s.loopback offset x;
  pool_flags = words_after VMOLR s.pool_flags offset x;
}
