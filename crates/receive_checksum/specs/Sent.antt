-- What a sender sums, by which the laws say what is good.
use Rattle.std.specs.Prelude.{ℕ, ◌-◌, List, [], ◌∷◌, ◌++◌}
use Rattle.byteorder.specs.Endian.{big_bytes}
use Rattle.internet_checksum.specs.Sum.{checksum, never_zero, with_word}
use Rattle.receive_checksum.specs.Words.{IPV4_CHECKSUM, TCP, TCP_CHECKSUM, UDP, UDP_CHECKSUM, ALL_ONES}
use Rattle.receive_checksum.specs.Checks.{transport_sum}

-- the pseudo header over IPv4: both addresses, a zero, the protocol, and how many bytes stand behind it (RFC 9293, 3.1; RFC 768)
abbrev pub ipv4_pseudo : ℕ → List ℕ → ℕ → List ℕ
ipv4_pseudo protocol addresses count = addresses ++ (0 ∷ protocol ∷ big_bytes 2 count)

-- and over IPv6: both addresses, the count, three zeros and the protocol (RFC 8200, 8.1)
abbrev pub ipv6_pseudo : ℕ → List ℕ → ℕ → List ℕ
ipv6_pseudo protocol addresses count = addresses ++ (big_bytes 4 count ++ (0 ∷ 0 ∷ 0 ∷ protocol ∷ []))

-- an IPv4 header with its checksum, for which the field counts as 0 (RFC 791, 3.1)
abbrev pub header_sent : List ℕ → List ℕ
header_sent header = with_word IPV4_CHECKSUM (checksum (with_word IPV4_CHECKSUM 0 header)) header

-- TCP with its checksum, for which the field counts as 0 (RFC 9293, 3.1)
abbrev pub tcp_sent : List ℕ → List ℕ → List ℕ
tcp_sent addresses bytes = with_word TCP_CHECKSUM (ALL_ONES - transport_sum TCP addresses (with_word TCP_CHECKSUM 0 bytes)) bytes

-- UDP in the same way, with all ones in the place of 0 (RFC 768)
abbrev pub udp_sent : List ℕ → List ℕ → List ℕ
udp_sent addresses bytes = with_word UDP_CHECKSUM (never_zero (ALL_ONES - transport_sum UDP addresses (with_word UDP_CHECKSUM 0 bytes))) bytes
