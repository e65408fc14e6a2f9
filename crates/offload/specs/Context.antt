-- What an advanced transmit context descriptor says.
use Rattle.std.specs.Prelude.{ℕ, ◌+◌, ◌==◌, if◌then◌else◌}
use Rattle.wire_frame.specs.Bits.{field, has_bit}
use Rattle.offload.specs.Words.{IPLEN, IPLEN_SIZE, MACLEN, MACLEN_SIZE, VLAN, VLAN_SIZE, IPV4, L4T, L4T_SIZE, IDX, IDX_SIZE, L4LEN, L4LEN_SIZE, MSS, MSS_SIZE}
use Rattle.offload.specs.declared.context.Context.{Context}
use Rattle.offload.specs.declared.context.Ip.{Ip}
use Rattle.offload.specs.declared.context.Ip.TheVariants.{V4, V6}
use Rattle.offload.specs.declared.context.Transport.{Transport}
use Rattle.offload.specs.declared.context.Transport.TheVariants.{Udp, Tcp, Sctp, Reserved}

-- the protocol with that number
abbrev pub transport_of : ℕ → Transport
transport_of l4t = if l4t == 0 then Udp else (if l4t == 1 then Tcp else (if l4t == 2 then Sctp else Reserved))

-- the two words of the descriptor, read; all bits that are not named are ignored
unfoldable pub context_of : ℕ → ℕ → Context
context_of first second = record {
  iplen = field first IPLEN IPLEN_SIZE;
  maclen = field first MACLEN MACLEN_SIZE;
  vlan = field first VLAN VLAN_SIZE;
  ip = if has_bit second IPV4 then V4 else V6;
  transport = transport_of (field second L4T L4T_SIZE);
  index = field second IDX IDX_SIZE;
  l4len = field second L4LEN L4LEN_SIZE;
  mss = field second MSS MSS_SIZE;
}

-- bytes of a frame in front of its transport header
abbrev pub transport_at : Context → ℕ
transport_at c = c.maclen + c.iplen

-- bytes of a frame in front of its payload
abbrev pub payload_at : Context → ℕ
payload_at c = c.maclen + c.iplen + c.l4len
