-- Places of fields: in an advanced transmit context descriptor (82599 datasheet, 7.2.3.2.3), and in headers.
use Rattle.std.specs.Prelude.{ℕ}

-- ---- the first word of the descriptor: each field's lowest bit, and how many bits it has

-- IPLEN: bytes of the IP header
abbrev pub IPLEN : ℕ
IPLEN = 0

abbrev pub IPLEN_SIZE : ℕ
IPLEN_SIZE = 9

-- MACLEN: bytes in front of it
abbrev pub MACLEN : ℕ
MACLEN = 9

abbrev pub MACLEN_SIZE : ℕ
MACLEN_SIZE = 7

-- VLAN: the tag to be inserted
abbrev pub VLAN : ℕ
VLAN = 16

abbrev pub VLAN_SIZE : ℕ
VLAN_SIZE = 16

-- ---- the second word

-- TUCMD.IPV4: the header is one of IPv4, else one of IPv6
abbrev pub IPV4 : ℕ
IPV4 = 10

-- TUCMD.L4T: 0 is UDP, 1 TCP, 2 SCTP, and 3 is reserved
abbrev pub L4T : ℕ
L4T = 11

abbrev pub L4T_SIZE : ℕ
L4T_SIZE = 2

-- IDX: which of a queue's two contexts it is
abbrev pub IDX : ℕ
IDX = 36

abbrev pub IDX_SIZE : ℕ
IDX_SIZE = 1

-- L4LEN: bytes of the TCP header
abbrev pub L4LEN : ℕ
L4LEN = 40

abbrev pub L4LEN_SIZE : ℕ
L4LEN_SIZE = 8

-- MSS: the most bytes of payload that a segment has
abbrev pub MSS : ℕ
MSS = 48

abbrev pub MSS_SIZE : ℕ
MSS_SIZE = 16

-- ---- headers: bytes in front of a field, and the fewest bytes of a header

-- IPv4 (RFC 791, 3.1)
abbrev pub IPV4_LEAST : ℕ
IPV4_LEAST = 20

abbrev pub IPV4_CHECKSUM : ℕ
IPV4_CHECKSUM = 10

-- total length, identification, and both addresses with the place behind them
abbrev pub IPV4_TOTAL : ℕ
IPV4_TOTAL = 2

abbrev pub IPV4_IDENTIFICATION : ℕ
IPV4_IDENTIFICATION = 4

abbrev pub IPV4_ADDRESSES : ℕ
IPV4_ADDRESSES = 12

abbrev pub IPV4_ADDRESSES_END : ℕ
IPV4_ADDRESSES_END = 20

-- IPv6 (RFC 8200, 3)
abbrev pub IPV6_LEAST : ℕ
IPV6_LEAST = 40

abbrev pub IPV6_PAYLOAD : ℕ
IPV6_PAYLOAD = 4

abbrev pub IPV6_ADDRESSES : ℕ
IPV6_ADDRESSES = 8

abbrev pub IPV6_ADDRESSES_END : ℕ
IPV6_ADDRESSES_END = 40

-- the number of TCP as a protocol (RFC 9293, 3.1)
abbrev pub TCP : ℕ
TCP = 6

-- TCP (RFC 9293, 3.1)
abbrev pub TCP_LEAST : ℕ
TCP_LEAST = 20

abbrev pub TCP_CHECKSUM : ℕ
TCP_CHECKSUM = 16

-- the sequence number, of four bytes, the byte of flags, and of these CWR, PSH and FIN
abbrev pub TCP_SEQUENCE : ℕ
TCP_SEQUENCE = 4

abbrev pub TCP_FLAGS : ℕ
TCP_FLAGS = 13

abbrev pub CWR : ℕ
CWR = 0x80

abbrev pub PSH : ℕ
PSH = 0x08

abbrev pub FIN : ℕ
FIN = 0x01

-- UDP (RFC 768)
abbrev pub UDP_LEAST : ℕ
UDP_LEAST = 8

abbrev pub UDP_CHECKSUM : ℕ
UDP_CHECKSUM = 6

-- ---- flags of offloads: which bit of a word is which, and how many there are; ours

abbrev pub VLAN_OFFLOAD : ℕ
VLAN_OFFLOAD = 0

abbrev pub CHECKSUM_OFFLOAD : ℕ
CHECKSUM_OFFLOAD = 1

abbrev pub SEGMENTATION_OFFLOAD : ℕ
SEGMENTATION_OFFLOAD = 2

abbrev pub AUTO_MASK_OFFLOAD : ℕ
AUTO_MASK_OFFLOAD = 3

abbrev pub LEGACY_RECEIVE_OFFLOAD : ℕ
LEGACY_RECEIVE_OFFLOAD = 4

abbrev pub THROTTLE_OFFLOAD : ℕ
THROTTLE_OFFLOAD = 5

abbrev pub RECEIVE_CHECKSUM_OFFLOAD : ℕ
RECEIVE_CHECKSUM_OFFLOAD = 6

abbrev pub OFFLOADS : ℕ
OFFLOADS = 7
