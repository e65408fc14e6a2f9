-- The fields of the registers of a virtual function: places of bits, the bits that a write keeps, and fixed reads (82599 datasheet, 8.3).
use Rattle.std.specs.Prelude.{ℕ}

-- RST, of VFCTRL: resets the function
abbrev pub RST : ℕ
RST = 26

-- VFLINKS as it always reads: the link is up, at 10 Gb/s
abbrev pub LINK_UP : ℕ
LINK_UP = 0x70000000

-- ENABLE, of RXDCTL and TXDCTL: the queue is on
abbrev pub ENABLE : ℕ
ENABLE = 25

-- VME, of RXDCTL: tags are taken off
abbrev pub VME : ℕ
VME = 30

-- SRRCTL: what a write keeps, which is the type of the descriptors and the size of the buffers
abbrev pub SRRCTL_KEPT : ℕ
SRRCTL_KEPT = 0xE00001F

-- DESCTYPE, of SRRCTL, from bit 25 on: 0 is one legacy descriptor for each buffer, and 1 one advanced descriptor
abbrev pub DESCTYPE : ℕ
DESCTYPE = 25

abbrev pub LEGACY : ℕ
LEGACY = 0

abbrev pub ADVANCED : ℕ
ADVANCED = 1

-- BSIZEPACKET, of SRRCTL: the low five bits are the size of a buffer in KiB, a number below this
abbrev pub BUFFER_SIZES : ℕ
BUFFER_SIZES = 32

-- the least and the most KiB that a buffer may have
abbrev pub LEAST_BUFFER : ℕ
LEAST_BUFFER = 1

abbrev pub MOST_BUFFER : ℕ
MOST_BUFFER = 16

-- Drop_En, of SRRCTL, which always reads 1
abbrev pub DROP_EN : ℕ
DROP_EN = 28

-- VTIVAR: in each byte a vector in the low two bits, and whether it is one in the highest
abbrev pub VTIVAR_KEPT : ℕ
VTIVAR_KEPT = 0x83838383

-- VTIVAR_MISC: the same in the lowest byte
abbrev pub VTIVAR_MISC_KEPT : ℕ
VTIVAR_MISC_KEPT = 0x83

-- VTEITR: what a write keeps, which is the interval
abbrev pub VTEITR_KEPT : ℕ
VTEITR_KEPT = 0xFF8

-- the interval, bits 11:3, in units of 2 microseconds
abbrev pub INTERVAL : ℕ
INTERVAL = 3

abbrev pub INTERVAL_SIZE : ℕ
INTERVAL_SIZE = 9

abbrev pub INTERVAL_UNIT : ℕ
INTERVAL_UNIT = 2

-- the bytes of VTIVAR, by the bit that each begins at: those of receive queue 0, transmit queue 0 and transmit queue 1
abbrev pub RECEIVE_VECTOR_0 : ℕ
RECEIVE_VECTOR_0 = 0

abbrev pub TRANSMIT_VECTOR_0 : ℕ
TRANSMIT_VECTOR_0 = 8

abbrev pub TRANSMIT_VECTOR_1 : ℕ
TRANSMIT_VECTOR_1 = 24

-- the byte of VTIVAR_MISC
abbrev pub OTHER_VECTOR : ℕ
OTHER_VECTOR = 0

abbrev pub VECTOR_SIZE : ℕ
VECTOR_SIZE = 8
