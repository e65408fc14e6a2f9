-- What a device does of that which drivers leave to their cards.
use Rattle.std.specs.Prelude.{ℕ, true, false, nat_lt, ◌^◌, Option, Some, None, if◌then◌else◌}
use Rattle.wire_frame.specs.Bits.{has_bit}
use Rattle.offload.specs.Words.{OFFLOADS, VLAN_OFFLOAD, CHECKSUM_OFFLOAD, SEGMENTATION_OFFLOAD, AUTO_MASK_OFFLOAD, LEGACY_RECEIVE_OFFLOAD, THROTTLE_OFFLOAD, RECEIVE_CHECKSUM_OFFLOAD}
use Rattle.offload.specs.declared.offloads.Offloads.{Offloads}

abbrev pub no_offloads : Offloads
no_offloads = record { vlan = false; checksum = false; segmentation = false; auto_mask = false; legacy_receive = false; throttle = false; receive_checksum = false }

abbrev pub all_offloads : Offloads
all_offloads = record { vlan = true; checksum = true; segmentation = true; auto_mask = true; legacy_receive = true; throttle = true; receive_checksum = true }

-- the flags of a word, which has no other bit
unfoldable pub offloads_of : ℕ → Option Offloads
offloads_of word = if nat_lt word (2 ^ OFFLOADS)
    then Some
    (record {
      vlan = has_bit word VLAN_OFFLOAD;
      checksum = has_bit word CHECKSUM_OFFLOAD;
      segmentation = has_bit word SEGMENTATION_OFFLOAD;
      auto_mask = has_bit word AUTO_MASK_OFFLOAD;
      legacy_receive = has_bit word LEGACY_RECEIVE_OFFLOAD;
      throttle = has_bit word THROTTLE_OFFLOAD;
      receive_checksum = has_bit word RECEIVE_CHECKSUM_OFFLOAD;
    })
    else None
