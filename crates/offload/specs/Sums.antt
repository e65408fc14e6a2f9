-- Checksums that a device puts into a frame.
use Rattle.std.specs.Prelude.{ℕ, ◌+◌, ◌||◌, nat_lt, not, List, ◌++◌, take, drop, slice_range, Option, Some, None, if◌then◌else◌}
use Rattle.internet_checksum.specs.Sum.{checksum, never_zero, with_word}
use Rattle.offload.specs.Words.{IPV4_LEAST, IPV4_CHECKSUM, TCP_LEAST, TCP_CHECKSUM, UDP_LEAST, UDP_CHECKSUM}
use Rattle.offload.specs.Context.{transport_at}
use Rattle.offload.specs.declared.context.Context.{Context}
use Rattle.offload.specs.declared.context.Ip.{Ip}
use Rattle.offload.specs.declared.context.Ip.TheVariants.{V4, V6}
use Rattle.offload.specs.declared.context.Transport.{Transport}
use Rattle.offload.specs.declared.context.Transport.TheVariants.{Udp, Tcp, Sctp, Reserved}
use Rattle.offload.specs.declared.sums.Sums.{Sums}
use Rattle.offload.specs.declared.sums.NotSummed.{NotSummed}
use Rattle.offload.specs.declared.sums.NotSummed.TheVariants.{NotIpv4, IpOutside, TransportOutside, SctpUnsummed, NoProtocol}

-- ---- one header

-- an IPv4 header without its checksum, and with it: the field counts as 0 (RFC 791, 3.1)
abbrev pub header_cleared : List ℕ → List ℕ
header_cleared header = with_word IPV4_CHECKSUM 0 header

unfoldable pub header_summed : List ℕ → List ℕ
header_summed header = with_word IPV4_CHECKSUM (checksum (header_cleared header)) (header_cleared header)

-- a TCP header and its payload, with their checksum over the partial sum in its field (RFC 9293, 3.1)
unfoldable pub tcp_summed : List ℕ → List ℕ
tcp_summed bytes = with_word TCP_CHECKSUM (checksum bytes) bytes

-- and UDP's (RFC 768)
unfoldable pub udp_summed : List ℕ → List ℕ
udp_summed bytes = with_word UDP_CHECKSUM (never_zero (checksum bytes)) bytes

-- by the protocol; others aren't summed
unfoldable pub transport_summed : Transport → List ℕ → List ℕ
transport_summed Udp bytes = udp_summed bytes
transport_summed Tcp bytes = tcp_summed bytes
transport_summed Sctp bytes = bytes
transport_summed Reserved bytes = bytes

-- ---- a frame

-- why the IP header can't be summed in a frame of that size
unfoldable pub ip_refusal : Context → ℕ → Option NotSummed
ip_refusal c size = by_ip c.ip
  where
    by_ip : Ip → Option NotSummed
    by_ip V6 = Some NotIpv4
    by_ip V4 = if nat_lt c.iplen IPV4_LEAST || nat_lt size (transport_at c) then Some IpOutside else None

-- and why what stands behind it can't
unfoldable pub transport_refusal : Context → ℕ → Option NotSummed
transport_refusal c size = by_transport c.transport
  where
    by_transport : Transport → Option NotSummed
    by_transport Udp = if nat_lt size (transport_at c + UDP_LEAST) then Some TransportOutside else None
    by_transport Tcp = if nat_lt size (transport_at c + TCP_LEAST) then Some TransportOutside else None
    by_transport Sctp = Some SctpUnsummed
    by_transport Reserved = Some NoProtocol

abbrev pub first_of_two : Option NotSummed → Option NotSummed → Option NotSummed
first_of_two None second = second
first_of_two (Some first) second = Some first

-- why what is asked for can't be done
unfoldable pub refusal : Context → Sums → ℕ → Option NotSummed
refusal c sums size = first_of_two (if sums.ip then ip_refusal c size else None) (if sums.transport then transport_refusal c size else None)

-- the IP header of a frame
abbrev pub ip_header : Context → List ℕ → List ℕ
ip_header c frame = slice_range frame c.maclen (transport_at c)

-- the frame with the sum of that header, and every other byte as it was
abbrev pub with_ip_sum : Context → List ℕ → List ℕ
with_ip_sum c frame = take c.maclen frame ++ (header_summed (ip_header c frame) ++ drop (transport_at c) frame)

-- the frame with the sum of what stands behind it
abbrev pub with_transport_sum : Context → List ℕ → List ℕ
with_transport_sum c frame = take (transport_at c) frame ++ transport_summed c.transport (drop (transport_at c) frame)

-- the frame with the sums that are asked for, where nothing is against them
unfoldable pub summed : Context → Sums → List ℕ → List ℕ
summed c sums frame =
    let first : List ℕ = if sums.ip then with_ip_sum c frame else frame in
    if sums.transport then with_transport_sum c first else first
