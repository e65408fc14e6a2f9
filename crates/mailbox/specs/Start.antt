-- The writes that bring the registers of the physical function up: every word of every register, row by row.
use Rattle.std.specs.Prelude.{◌≡◌, ℕ, ◌^◌, true, List, [], ◌∷◌, ◌++◌, length}
use Rattle.wire_frame.specs.declared.row.Row.{Row}
use Rattle.addr_tables.specs.Registers.{RAL, RAH, MPSAR, MTA, MCSTCTRL}
use Rattle.vlan_table.specs.Registers.{VLNCTRL, VFTA, VLVF, VLVFB, VFE}
use Rattle.pool_filter.specs.Registers.{PF_VT_CTL, PFVFRE, PFVFTE, VMVIR, PFVFSPOOF, PFDTXGSWC, VMOLR, LOOPBACK}
use Rattle.pool_filter.specs.Map.{one_row}
use Rattle.pool_filter.specs.Settings.{Settings}
use Rattle.mailbox.specs.declared.start.Register.{Register}
use Rattle.mailbox.specs.declared.start.Register.TheVariants.{SourceChecks, LowAddress, HighAddress, AddressPools, MulticastTable, MulticastControl, VlanControl, VlanTable, VlanIds, VlanPools, PoolControl, PortVlans, Loopback, PoolFlags, ReceiveEnable, TransmitEnable}
use Rattle.mailbox.specs.declared.writes.Write.{Write}
use Rattle.mailbox.specs.State.{HostState, slot_at}
use Rattle.mailbox.specs.Words.{low_word, high_word, pool_word, table_word, id_word, member_word, up_word, flags_word, port_word, control_word, CHECKS_ON}
use Rattle.mailbox.specs.Writes.{writes_where}

-- the source checks come first, and who may receive and transmit last
abbrev pub registers : List Register
registers =
    SourceChecks ∷ LowAddress ∷ HighAddress ∷ AddressPools ∷ MulticastTable ∷ MulticastControl
    ∷ VlanControl ∷ VlanTable ∷ VlanIds ∷ VlanPools ∷ PoolControl ∷ PortVlans ∷ Loopback ∷ PoolFlags
    ∷ ReceiveEnable ∷ TransmitEnable ∷ []

abbrev pub row_of : Register → Row
row_of SourceChecks = PFVFSPOOF
row_of LowAddress = RAL
row_of HighAddress = RAH
row_of AddressPools = MPSAR
row_of MulticastTable = MTA
row_of MulticastControl = one_row MCSTCTRL
row_of VlanControl = one_row VLNCTRL
row_of VlanTable = VFTA
row_of VlanIds = VLVF
row_of VlanPools = VLVFB
row_of PoolControl = one_row PF_VT_CTL
row_of PortVlans = VMVIR
row_of Loopback = one_row PFDTXGSWC
row_of PoolFlags = VMOLR
row_of ReceiveEnable = PFVFRE
row_of TransmitEnable = PFVFTE

-- the register's word at a place, for the host
abbrev pub word_of : HostState → Register → ℕ → ℕ
word_of h SourceChecks i = CHECKS_ON
word_of h LowAddress i = low_word h i
word_of h HighAddress i = high_word h i
word_of h AddressPools i = pool_word i
word_of h MulticastTable i = 0
word_of h MulticastControl i = 0
word_of h VlanControl i = 2 ^ VFE
word_of h VlanTable i = table_word h i
word_of h VlanIds i = id_word h i
word_of h VlanPools i = member_word h i
word_of h PoolControl i = control_word h.default_pool
word_of h PortVlans i = port_word h.ids (slot_at h i)
word_of h Loopback i = 2 ^ LOOPBACK
word_of h PoolFlags i = flags_word (slot_at h i)
word_of h ReceiveEnable i = up_word h i
word_of h TransmitEnable i = up_word h i

-- all words of a register
abbrev pub register_writes : HostState → Register → List Write
register_writes h register = writes_where (λ i. true) (row_of register) (word_of h register) 0 (row_of register).count

-- all words of registers, one register after another
abbrev pub writes_to : HostState → List Register → List Write
writes_to h [] = []
writes_to h (register ∷ rest) = register_writes h register ++ writes_to h rest

unfoldable pub first_writes : HostState → List Write
first_writes h = writes_to h registers

-- each table has all its words, as in every device
pub record IsWhole (s : Settings) : Type 0 where
  pub low : length s.addresses.low ≡ 128
  pub high : length s.addresses.high ≡ 128
  pub address_pools : length s.addresses.pools ≡ 256
  pub hashes : length s.addresses.hashes ≡ 128
  pub vlan_table : length s.vlans.table ≡ 128
  pub vlan_entries : length s.vlans.entries ≡ 64
  pub vlan_pools : length s.vlans.pools ≡ 128
  pub receive_enable : length s.receive_enable ≡ 2
  pub transmit_enable : length s.transmit_enable ≡ 2
  pub port_vlans : length s.port_vlans ≡ 64
  pub sender_checks : length s.sender_checks ≡ 8
  pub pool_flags : length s.pool_flags ≡ 64
