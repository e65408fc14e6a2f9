-- The registers of VLANs: where they stand, and what a write keeps (82599 datasheet, 8.2.3.7: receive registers, and 8.2.3.27:
-- virtualization registers).
use Rattle.std.specs.Prelude.{ℕ}
use Rattle.wire_frame.specs.declared.row.Row.{Row}

-- VLNCTRL: VFE is kept
abbrev pub VLNCTRL : ℕ
VLNCTRL = 0x5088

abbrev pub VLNCTRL_KEPT : ℕ
VLNCTRL_KEPT = 0x40000000

-- VFE, of VLNCTRL: VLANs are filtered
abbrev pub VFE : ℕ
VFE = 30

-- VFTA: the VLAN table, a bit for each id
abbrev pub VFTA : Row
VFTA = record { first = 0xA000; count = 128; stride = 4; mask = 0xFFFFFFFF }

-- VLVF: an id in bits 11:0, and VI_En in bit 31
abbrev pub VLVF : Row
VLVF = record { first = 0xF100; count = 64; stride = 4; mask = 0x80000FFF }

-- VI_En, of VLVF: the entry is valid
abbrev pub VALID : ℕ
VALID = 31

-- VLVFB: the pools of an entry, in two words
abbrev pub VLVFB : Row
VLVFB = record { first = 0xF200; count = 128; stride = 4; mask = 0xFFFFFFFF }
