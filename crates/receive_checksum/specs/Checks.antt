-- What a card finds of the checksums of a frame (82599 datasheet, 7.1.11).
use Rattle.std.specs.Prelude.{ℕ, ◌+◌, ◌-◌, ◌*◌, ◌/◌, ◌%◌, ◌^◌, ◌==◌, ◌&&◌, Bool, not, nat_le, nat_lt, List, length, take, drop, slice_index, slice_range, if◌then◌else◌}
use Rattle.internet_checksum.specs.Sum.{word_sum, folded, word_at}
use Rattle.wire_frame.specs.Frame.{is_tagged}
use Rattle.receive_checksum.specs.Words.{HEADER, TAGGED_HEADER, IPV4_TYPE, IPV6_TYPE, IPV4_VERSION, IPV4_LEAST, IPV4_TOTAL, IPV4_FRAGMENT, IPV4_FRAGMENT_BITS, IPV4_PROTOCOL, IPV4_ADDRESSES, IPV4_ADDRESSES_END, IPV6_VERSION, IPV6_HEADER, IPV6_PAYLOAD, IPV6_NEXT, IPV6_ADDRESSES, IPV6_ADDRESSES_END, TCP, TCP_LEAST, UDP, UDP_LEAST, UDP_LENGTH, UDP_CHECKSUM, ALL_ONES}
use Rattle.receive_checksum.specs.declared.check.Check.{Check}
use Rattle.receive_checksum.specs.declared.check.Check.TheVariants.{Unchecked, Good, Bad}
use Rattle.receive_checksum.specs.declared.check.Checks.{Checks}

-- nothing was looked at
abbrev pub unchecked : Checks
unchecked = record { ip = Unchecked; transport = Unchecked }

-- what a sum in ones' complement says, of all that a checksum covers and of itself
abbrev pub judged : ℕ → Check
judged sum = if sum == ALL_ONES then Good else Bad

-- ---- TCP and UDP, behind the addresses of an IP header

-- the sum of bytes and of their pseudo header: protocol, length and both addresses
abbrev pub transport_sum : ℕ → List ℕ → List ℕ → ℕ
transport_sum protocol addresses bytes = folded (protocol + length bytes + word_sum addresses + word_sum bytes)

-- of TCP: the sum covers the payload of IP
unfoldable pub tcp_check : List ℕ → List ℕ → Check
tcp_check addresses payload = if nat_lt (length payload) TCP_LEAST then Unchecked else judged (transport_sum TCP addresses payload)

-- how many bytes the datagram has
abbrev pub udp_length : List ℕ → ℕ
udp_length payload = word_at UDP_LENGTH payload

-- its header lies in the payload, and so does all of it
abbrev pub is_udp : List ℕ → Bool
is_udp payload = nat_le UDP_LEAST (length payload) && (nat_le UDP_LEAST (udp_length payload) && nat_le (udp_length payload) (length payload))

-- of UDP: a checksum of 0 says that there is none
unfoldable pub udp_check : List ℕ → List ℕ → Check
udp_check addresses payload =
    if not (is_udp payload) then Unchecked
    else (if word_at UDP_CHECKSUM payload == 0 then Unchecked
    else judged (transport_sum UDP addresses (take (udp_length payload) payload)))

-- by the protocol; others are not looked at
unfoldable pub transport_check : ℕ → List ℕ → List ℕ → Check
transport_check protocol addresses payload =
    if protocol == TCP then tcp_check addresses payload
    else (if protocol == UDP then udp_check addresses payload
    else Unchecked)

-- ---- IPv4

-- the length of the header is told in words of four bytes
abbrev pub header_length : List ℕ → ℕ
header_length packet = 4 * (slice_index packet 0 % 16)

-- header and payload have so many bytes; what stands behind them is padding
abbrev pub total_length : List ℕ → ℕ
total_length packet = word_at IPV4_TOTAL packet

-- version and lengths fit the packet
unfoldable pub is_ipv4 : List ℕ → Bool
is_ipv4 packet =
    nat_le IPV4_LEAST (length packet)
    && (slice_index packet 0 / 16 == IPV4_VERSION
    && (nat_le IPV4_LEAST (header_length packet)
    && (nat_le (header_length packet) (total_length packet)
    && nat_le (total_length packet) (length packet))))

-- there are more fragments, or others come first
abbrev pub is_fragment : List ℕ → Bool
is_fragment packet = not (word_at IPV4_FRAGMENT packet % 2 ^ IPV4_FRAGMENT_BITS == 0)

-- of its payload
unfoldable pub ipv4_transport : List ℕ → Check
ipv4_transport packet =
    if is_fragment packet then Unchecked
    else transport_check (slice_index packet IPV4_PROTOCOL) (slice_range packet IPV4_ADDRESSES IPV4_ADDRESSES_END) (slice_range packet (header_length packet) (total_length packet))

-- of the packet
unfoldable pub ipv4_checks : List ℕ → Checks
ipv4_checks packet =
    if is_ipv4 packet
    then record { ip = judged (folded (word_sum (take (header_length packet) packet))); transport = ipv4_transport packet }
    else unchecked

-- ---- IPv6

-- so many bytes stand behind the header; what stands behind them is padding
abbrev pub payload_length : List ℕ → ℕ
payload_length packet = word_at IPV6_PAYLOAD packet

-- version and length fit the packet
unfoldable pub is_ipv6 : List ℕ → Bool
is_ipv6 packet =
    nat_le IPV6_HEADER (length packet)
    && (slice_index packet 0 / 16 == IPV6_VERSION
    && nat_le (IPV6_HEADER + payload_length packet) (length packet))

-- of the packet, whose header has no checksum; an extension header is another protocol
unfoldable pub ipv6_checks : List ℕ → Checks
ipv6_checks packet =
    if is_ipv6 packet
    then record {
      ip = Unchecked;
      transport = transport_check (slice_index packet IPV6_NEXT) (slice_range packet IPV6_ADDRESSES IPV6_ADDRESSES_END) (slice_range packet IPV6_HEADER (IPV6_HEADER + payload_length packet));
    }
    else unchecked

-- ---- a frame

-- where its Ethernet header has that length
abbrev pub packet_checks : ℕ → List ℕ → Checks
packet_checks header frame =
    if word_at (header - 2) frame == IPV4_TYPE then ipv4_checks (drop header frame)
    else (if word_at (header - 2) frame == IPV6_TYPE then ipv6_checks (drop header frame)
    else unchecked)

-- what is found of a frame
unfoldable pub checks_of : List ℕ → Checks
checks_of frame = packet_checks (if is_tagged frame then TAGGED_HEADER else HEADER) frame
