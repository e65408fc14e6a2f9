-- The bits that a write of a ring's registers keeps (82599 datasheet, 8.2.3.8: receive
-- DMA registers, and 8.2.3.9: transmit registers).
use Rattle.std.specs.Prelude.{ℕ}

-- RDBAL and TDBAL: the low word of the address, a multiple of 128
abbrev pub BASE_LOW_KEPT : ℕ
BASE_LOW_KEPT = 0xFFFFFF80

-- RDLEN and TDLEN: the length in bytes, in bits 19:7, a multiple of 128
abbrev pub LENGTH_KEPT : ℕ
LENGTH_KEPT = 0xFFF80
