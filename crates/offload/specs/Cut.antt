-- Which frames can be cut into segments, and into how many.
use Rattle.std.specs.Prelude.{◌≡◌, ◌≤◌, ◌<◌, ℕ, ◌+◌, ◌-◌, ◌/◌, ◌||◌, ◌==◌, nat_lt, min, Option, Some, None, if◌then◌else◌}
use Rattle.offload.specs.Words.{IPV4_LEAST, IPV6_LEAST, TCP_LEAST}
use Rattle.offload.specs.Context.{payload_at}
use Rattle.offload.specs.declared.context.Context.{Context}
use Rattle.offload.specs.declared.context.Ip.{Ip}
use Rattle.offload.specs.declared.context.Ip.TheVariants.{V4, V6}
use Rattle.offload.specs.declared.context.Transport.{Transport}
use Rattle.offload.specs.declared.context.Transport.TheVariants.{Udp, Tcp, Sctp, Reserved}
use Rattle.offload.specs.declared.cut.NotCut.{NotCut}
use Rattle.offload.specs.declared.cut.NotCut.TheVariants.{NotTcp, ShortIpHeader, ShortTcpHeader, HeadersOutside, NoPayload, NoMss, OverLimit}

-- the fewest bytes of an IP header
abbrev pub ip_least : Ip → ℕ
ip_least V4 = IPV4_LEAST
ip_least V6 = IPV6_LEAST

-- of a frame with so many bytes: how many of them are payload
abbrev pub payload_size : Context → ℕ → ℕ
payload_size c size = size - payload_at c

-- how many bytes its longest segment has: the headers, and no more payload than MSS
abbrev pub longest : Context → ℕ → ℕ
longest c size = payload_at c + min c.mss (payload_size c size)

-- into how many segments it is cut: all but the last have MSS bytes of payload
unfoldable pub segment_count : Context → ℕ → ℕ
segment_count c size = (payload_size c size + c.mss - 1) / c.mss

-- the lengths fit, for a frame of TCP with so many bytes
abbrev pub lengths_refusal : Context → ℕ → ℕ → Option NotCut
lengths_refusal c size limit =
    if nat_lt c.iplen (ip_least c.ip) then Some ShortIpHeader
    else (if nat_lt c.l4len TCP_LEAST then Some ShortTcpHeader
    else (if nat_lt size (payload_at c) then Some HeadersOutside
    else (if size == payload_at c then Some NoPayload
    else (if c.mss == 0 then Some NoMss
    else (if nat_lt limit (longest c size) then Some OverLimit
    else None)))))

-- why it can't be cut where no segment may have more bytes than the limit
unfoldable pub cut_refusal : Context → ℕ → ℕ → Option NotCut
cut_refusal c size limit = by_transport c.transport
  where
    by_transport : Transport → Option NotCut
    by_transport Tcp = lengths_refusal c size limit
    by_transport Udp = Some NotTcp
    by_transport Sctp = Some NotTcp
    by_transport Reserved = Some NotTcp

-- a frame that is cut: what its context says, and how many bytes it has
pub record Cutting : Type 0 where
  pub context : Context
  pub size : ℕ

-- where nothing is against it
pub record IsCut (c : Context) (size : ℕ) : Type 0 where
  pub ip : ip_least c.ip ≤ c.iplen
  pub tcp : TCP_LEAST ≤ c.l4len
  pub payload : payload_at c < size
  pub mss : 0 < c.mss
  pub few : longest c size ≤ 65535
