-- The segments of a frame (82599 datasheet, 7.2.4; RFC 791, 8200 and 9293).
use Rattle.std.specs.Prelude.{ℕ, ◌+◌, ◌-◌, ◌*◌, ◌%◌, ◌^◌, ◌==◌, Bool, List, [], ◌∷◌, ◌++◌, take, drop, length, slice_index, slice_set, slice_range, bit_and, if◌then◌else◌}
use Rattle.byteorder.specs.Endian.{big_bytes, big_number}
use Rattle.internet_checksum.specs.Sum.{word_sum, folded, word_at, with_word}
use Rattle.offload.specs.Words.{IPV4_TOTAL, IPV4_IDENTIFICATION, IPV4_ADDRESSES, IPV4_ADDRESSES_END, IPV6_LEAST, IPV6_PAYLOAD, IPV6_ADDRESSES, IPV6_ADDRESSES_END, TCP, TCP_SEQUENCE, TCP_FLAGS, TCP_CHECKSUM, CWR, PSH, FIN}
use Rattle.offload.specs.Context.{transport_at, payload_at}
use Rattle.offload.specs.Sums.{header_summed, tcp_summed, ip_header}
use Rattle.offload.specs.Cut.{Cutting, segment_count}
use Rattle.offload.specs.declared.context.Context.{Context}
use Rattle.offload.specs.declared.context.Ip.{Ip}
use Rattle.offload.specs.declared.context.Ip.TheVariants.{V4, V6}

-- ---- the IP header

-- of segment n, with so many bytes behind it: IPv4 counts the whole datagram, numbers it and sums its header; IPv6 counts what stands
-- behind its first 40 bytes
unfoldable pub ip_of : Ip → ℕ → ℕ → List ℕ → List ℕ
ip_of V4 n behind header =
    header_summed (with_word IPV4_IDENTIFICATION ((word_at IPV4_IDENTIFICATION header + n) % 2 ^ 16) (with_word IPV4_TOTAL (length header + behind) header))
ip_of V6 n behind header = with_word IPV6_PAYLOAD (length header - IPV6_LEAST + behind) header

-- the pseudo header that TCP's checksum covers (RFC 9293, 3.1; RFC 8200, 8.1): both addresses, the protocol, and the bytes of TCP
unfoldable pub pseudo_header : Ip → List ℕ → ℕ → List ℕ
pseudo_header V4 header behind = slice_range header IPV4_ADDRESSES IPV4_ADDRESSES_END ++ (0 ∷ TCP ∷ big_bytes 2 behind)
pseudo_header V6 header behind = slice_range header IPV6_ADDRESSES IPV6_ADDRESSES_END ++ (big_bytes 4 behind ++ (0 ∷ 0 ∷ 0 ∷ TCP ∷ []))

-- ---- the TCP header

-- the sequence number, moved on by the payload of the segments before
unfoldable pub with_sequence : ℕ → List ℕ → List ℕ
with_sequence before bytes =
    take TCP_SEQUENCE bytes ++ (big_bytes 4 ((big_number 4 (drop TCP_SEQUENCE bytes) + before) % 2 ^ 32) ++ drop (TCP_SEQUENCE + 4) bytes)

-- the flags: CWR on the first segment alone, PSH and FIN on the last alone
unfoldable pub flags_of : Bool → Bool → ℕ → ℕ
flags_of first last flags = bit_and flags (255 - (if first then 0 else CWR) - (if last then 0 else PSH + FIN))

abbrev pub with_flags : Bool → Bool → List ℕ → List ℕ
with_flags first last bytes = slice_set bytes TCP_FLAGS (flags_of first last (slice_index bytes TCP_FLAGS))

-- header and payload of segment n, with the checksum over a partial sum
unfoldable pub tcp_of : Context → ℕ → Bool → ℕ → List ℕ → List ℕ
tcp_of c n last partial bytes = tcp_summed (with_word TCP_CHECKSUM partial (with_flags (n == 0) last (with_sequence (n * c.mss) bytes)))

-- ---- the segment

-- a copy of the headers with a payload, made segment n
abbrev pub with_ip_of : Context → ℕ → List ℕ → List ℕ
with_ip_of c n bytes = take c.maclen bytes ++ (ip_of c.ip n (length bytes - transport_at c) (ip_header c bytes) ++ drop (transport_at c) bytes)

abbrev pub with_tcp_of : Context → ℕ → Bool → ℕ → List ℕ → List ℕ
with_tcp_of c n last partial bytes = take (transport_at c) bytes ++ tcp_of c n last partial (drop (transport_at c) bytes)

abbrev pub pseudo_of : Context → List ℕ → List ℕ
pseudo_of c bytes = pseudo_header c.ip (ip_header c bytes) (length bytes - transport_at c)

unfoldable pub finished : Context → ℕ → Bool → List ℕ → List ℕ
finished c n last bytes = with_tcp_of c n last (folded (word_sum (pseudo_of c bytes))) (with_ip_of c n bytes)

-- the payload of segment n, from 0 on: at most MSS bytes
abbrev pub piece : Context → List ℕ → ℕ → List ℕ
piece c frame n = take c.mss (drop (payload_at c + n * c.mss) frame)

-- segment n of a frame
unfoldable pub segment_of : Context → List ℕ → ℕ → List ℕ
segment_of c frame n = finished c n (n + 1 == segment_count c (length frame)) (take (payload_at c) frame ++ piece c frame n)
