-- The registers of pools: where they stand, what a write keeps, and their fields (82599 datasheet, 8.2.3.27: virtualization registers).
use Rattle.std.specs.Prelude.{ℕ}
use Rattle.wire_frame.specs.declared.row.Row.{Row}

-- PF_VT_CTL: DEF_PL in bits 12:7 and Dis_Def_Pool in bit 29 are kept; VT_Ena in bit 0 and Rpl_En in bit 30 are always 1
abbrev pub PF_VT_CTL : ℕ
PF_VT_CTL = 0x51B0

abbrev pub PF_VT_CTL_KEPT : ℕ
PF_VT_CTL_KEPT = 0x20001F80

abbrev pub PF_VT_CTL_SET : ℕ
PF_VT_CTL_SET = 0x40000001

-- as a device is made: the default pool is off
abbrev pub PF_VT_CTL_INITIAL : ℕ
PF_VT_CTL_INITIAL = 0x60000001

-- DEF_PL, of PF_VT_CTL: the default pool, six bits from bit 7 on
abbrev pub DEFAULT_POOL : ℕ
DEFAULT_POOL = 7

abbrev pub DEFAULT_POOL_SIZE : ℕ
DEFAULT_POOL_SIZE = 6

-- Dis_Def_Pool, of PF_VT_CTL: there is no default pool
abbrev pub DEFAULT_POOL_OFF : ℕ
DEFAULT_POOL_OFF = 29

-- PFVFRE and PFVFTE: the pools that may receive, and those that may transmit, a bit for each
abbrev pub PFVFRE : Row
PFVFRE = record { first = 0x51E0; count = 2; stride = 4; mask = 0xFFFFFFFF }

abbrev pub PFVFTE : Row
PFVFTE = record { first = 0x8110; count = 2; stride = 4; mask = 0xFFFFFFFF }

-- VMVIR: the port VLAN of a pool, its tag in bits 15:0 and VLANA, the rule, in bits 31:30
abbrev pub VMVIR : Row
VMVIR = record { first = 0x8000; count = 64; stride = 4; mask = 0xC000FFFF }

-- VLANA, of VMVIR: two bits from bit 30 on; 1 is always, 2 is never
abbrev pub PORT_VLAN_RULE : ℕ
PORT_VLAN_RULE = 30

abbrev pub PORT_VLAN_RULE_SIZE : ℕ
PORT_VLAN_RULE_SIZE = 2

abbrev pub ALWAYS : ℕ
ALWAYS = 1

abbrev pub NEVER : ℕ
NEVER = 2

-- PFVFSPOOF: for each of eight pools whether the source address is checked, in bits 7:0, and the VLAN, in bits 15:8
abbrev pub PFVFSPOOF : Row
PFVFSPOOF = record { first = 0x8200; count = 8; stride = 4; mask = 0xFFFF }

-- PFDTXGSWC: LBE in bit 0 is kept
abbrev pub PFDTXGSWC : ℕ
PFDTXGSWC = 0x8220

abbrev pub PFDTXGSWC_KEPT : ℕ
PFDTXGSWC_KEPT = 1

-- LBE, of PFDTXGSWC: frames go from pool to pool
abbrev pub LOOPBACK : ℕ
LOOPBACK = 0

-- VMOLR: the flags of a pool
abbrev pub VMOLR : Row
VMOLR = record { first = 0xF000; count = 64; stride = 4; mask = 0x1B000000 }

-- AUPE, of VMOLR: untagged frames
abbrev pub AUPE : ℕ
AUPE = 24

-- ROMPE, of VMOLR: multicast frames by the multicast table
abbrev pub ROMPE : ℕ
ROMPE = 25

-- BAM, of VMOLR: broadcast frames
abbrev pub BAM : ℕ
BAM = 27

-- MPE, of VMOLR: all multicast frames
abbrev pub MPE : ℕ
MPE = 28

-- PFVFLRE: the functions that were reset; its two words stand apart
abbrev pub PFVFLRE_LOW : ℕ
PFVFLRE_LOW = 0x600

abbrev pub PFVFLRE_HIGH : ℕ
PFVFLRE_HIGH = 0x1C0

-- PFVFLREC: a written 1 clears a bit of PFVFLRE
abbrev pub PFVFLREC_LOW : ℕ
PFVFLREC_LOW = 0x700

abbrev pub PFVFLREC_HIGH : ℕ
PFVFLREC_HIGH = 0x704
