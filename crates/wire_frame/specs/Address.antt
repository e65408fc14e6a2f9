-- Whom an Ethernet address names.
use Rattle.std.specs.Prelude.{ℕ, List, ◌==◌, slice_index, if◌then◌else◌}
use Rattle.byteorder.specs.Endian.{little_number}
use Rattle.wire_frame.specs.Bits.{has_bit}
use Rattle.wire_frame.specs.declared.address.AddressKind.{AddressKind}
use Rattle.wire_frame.specs.declared.address.AddressKind.TheVariants.{Broadcast, Multicast, Unicast}

-- broadcast is six bytes 0xFF; multicast has bit 0 of its first byte, and is not broadcast; all else is unicast
abbrev pub kind_of : List ℕ → AddressKind
kind_of address = if little_number 6 address == 0xFFFFFFFFFFFF then Broadcast
    else (if has_bit (slice_index address 0) 0 then Multicast else Unicast)
