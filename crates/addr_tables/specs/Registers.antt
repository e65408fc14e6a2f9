-- The registers of receive addresses and of the multicast table: where they stand, and what a write keeps (82599 datasheet, 8.2.3.7:
-- receive registers).
use Rattle.std.specs.Prelude.{ℕ}
use Rattle.wire_frame.specs.declared.row.Row.{Row}

-- RAL: bytes 0 to 3 of an address, the first in the lowest bits
abbrev pub RAL : Row
RAL = record { first = 0xA200; count = 128; stride = 8; mask = 0xFFFFFFFF }

-- RAH: bytes 4 and 5 in bits 15:0, and AV in bit 31
abbrev pub RAH : Row
RAH = record { first = 0xA204; count = 128; stride = 8; mask = 0x8000FFFF }

-- AV, of RAH: the entry is valid
abbrev pub VALID : ℕ
VALID = 31

-- MPSAR: the pools of an entry, in two words
abbrev pub MPSAR : Row
MPSAR = record { first = 0xA600; count = 256; stride = 4; mask = 0xFFFFFFFF }

-- MTA: the multicast table, a bit for each hash
abbrev pub MTA : Row
MTA = record { first = 0x5200; count = 128; stride = 4; mask = 0xFFFFFFFF }

-- MCSTCTRL: MO in bits 1:0, which bits of an address are its hash, and MFE in bit 2
abbrev pub MCSTCTRL : ℕ
MCSTCTRL = 0x5090

abbrev pub MCSTCTRL_KEPT : ℕ
MCSTCTRL_KEPT = 7

-- MFE, of MCSTCTRL: the multicast table is on
abbrev pub MFE : ℕ
MFE = 2

-- a hash has twelve bits
abbrev pub HASH_SIZE : ℕ
HASH_SIZE = 12
