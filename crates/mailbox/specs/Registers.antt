-- The registers of the mailbox: where they stand, and their bits (82599 datasheet, VF mailbox).
use Rattle.std.specs.Prelude.{ℕ}
use Rattle.wire_frame.specs.declared.row.Row.{Row}

-- VFMBMEM: sixteen words
abbrev pub VFMBMEM : Row
VFMBMEM = record { first = 0x200; count = 16; stride = 4; mask = 0xFFFFFFFF }

-- VFMAILBOX: REQ 0, ACK 1, VFU 2, PFU 3, PFSTS 4, PFACK 5, RSTI 6, RSTD 7
abbrev pub VFMAILBOX : ℕ
VFMAILBOX = 0x2FC

abbrev pub REQ : ℕ
REQ = 0

-- VFU alone
abbrev pub VFU : ℕ
VFU = 0x04

-- PFSTS and PFACK
abbrev pub ANSWERED : ℕ
ANSWERED = 0x30

-- PFSTS alone
abbrev pub PFSTS : ℕ
PFSTS = 0x10

-- VFU and PFACK: the driver has taken the memory, or has not looked since its message was answered
abbrev pub HELD : ℕ
HELD = 0x24

-- RSTD alone
abbrev pub RSTD : ℕ
RSTD = 0x80

-- what a read leaves: it clears PFSTS, PFACK and RSTD
abbrev pub READ_KEEPS : ℕ
READ_KEEPS = 0x4C

-- what a write leaves: PFU, PFSTS, PFACK, RSTI and RSTD
abbrev pub WRITE_KEEPS : ℕ
WRITE_KEEPS = 0xF8

-- ---- the words of messages (Linux ixgbevf, mbx.h)

-- bits of word 0: CTS, NACK and ACK
abbrev pub CTS : ℕ
CTS = 29

abbrev pub NACK : ℕ
NACK = 30

abbrev pub ACK : ℕ
ACK = 31

-- RESET is the whole word, and the others are types in bits 15:0
abbrev pub RESET : ℕ
RESET = 1

-- a message of the host's own
abbrev pub CONTROL : ℕ
CONTROL = 0x100

abbrev pub SET_MAC_ADDR : ℕ
SET_MAC_ADDR = 2

abbrev pub SET_MULTICAST : ℕ
SET_MULTICAST = 3

abbrev pub SET_VLAN : ℕ
SET_VLAN = 4

abbrev pub SET_LPE : ℕ
SET_LPE = 5

abbrev pub SET_MACVLAN : ℕ
SET_MACVLAN = 6

abbrev pub API_NEGOTIATE : ℕ
API_NEGOTIATE = 8

abbrev pub GET_QUEUES : ℕ
GET_QUEUES = 9

abbrev pub UPDATE_XCAST_MODE : ℕ
UPDATE_XCAST_MODE = 12

abbrev pub GET_LINK_STATE : ℕ
GET_LINK_STATE = 16
