-- Numbers of protocols, and places of fields in headers.
use Rattle.std.specs.Prelude.{ℕ}

-- ---- Ethernet: how long its header is (IEEE 802.3), and with a tag (IEEE 802.1Q); the type is its last word

abbrev pub HEADER : ℕ
HEADER = 14

abbrev pub TAGGED_HEADER : ℕ
TAGGED_HEADER = 18

-- types: IPv4 (RFC 894) and IPv6 (RFC 2464, 3)
abbrev pub IPV4_TYPE : ℕ
IPV4_TYPE = 0x0800

abbrev pub IPV6_TYPE : ℕ
IPV6_TYPE = 0x86DD

-- ---- IPv4 (RFC 791, 3.1): its version, the fewest bytes of its header, and bytes in front of fields

abbrev pub IPV4_VERSION : ℕ
IPV4_VERSION = 4

abbrev pub IPV4_LEAST : ℕ
IPV4_LEAST = 20

abbrev pub IPV4_TOTAL : ℕ
IPV4_TOTAL = 2

-- flags and fragment offset: of the flags the lowest, More Fragments, stands right above the offset of 13 bits
abbrev pub IPV4_FRAGMENT : ℕ
IPV4_FRAGMENT = 6

abbrev pub IPV4_FRAGMENT_BITS : ℕ
IPV4_FRAGMENT_BITS = 14

abbrev pub IPV4_PROTOCOL : ℕ
IPV4_PROTOCOL = 9

abbrev pub IPV4_CHECKSUM : ℕ
IPV4_CHECKSUM = 10

-- both addresses, and the place behind them
abbrev pub IPV4_ADDRESSES : ℕ
IPV4_ADDRESSES = 12

abbrev pub IPV4_ADDRESSES_END : ℕ
IPV4_ADDRESSES_END = 20

-- ---- IPv6 (RFC 8200, 3): the same

abbrev pub IPV6_VERSION : ℕ
IPV6_VERSION = 6

abbrev pub IPV6_HEADER : ℕ
IPV6_HEADER = 40

abbrev pub IPV6_PAYLOAD : ℕ
IPV6_PAYLOAD = 4

abbrev pub IPV6_NEXT : ℕ
IPV6_NEXT = 6

abbrev pub IPV6_ADDRESSES : ℕ
IPV6_ADDRESSES = 8

abbrev pub IPV6_ADDRESSES_END : ℕ
IPV6_ADDRESSES_END = 40

-- ---- TCP (RFC 9293, 3.1): its number as a protocol, the fewest bytes of its header, and where its checksum stands

abbrev pub TCP : ℕ
TCP = 6

abbrev pub TCP_LEAST : ℕ
TCP_LEAST = 20

abbrev pub TCP_CHECKSUM : ℕ
TCP_CHECKSUM = 16

-- ---- UDP (RFC 768): the same, and its length

abbrev pub UDP : ℕ
UDP = 17

abbrev pub UDP_LEAST : ℕ
UDP_LEAST = 8

abbrev pub UDP_LENGTH : ℕ
UDP_LENGTH = 4

abbrev pub UDP_CHECKSUM : ℕ
UDP_CHECKSUM = 6

-- ---- a sum that verifies has all bits at 1 (RFC 1071, 1)

abbrev pub ALL_ONES : ℕ
ALL_ONES = 65535
