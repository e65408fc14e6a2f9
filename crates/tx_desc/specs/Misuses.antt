-- Why a transmit descriptor cannot be used.
use Rattle.std.specs.Prelude.{ℕ, ◌+◌, not, ◌&&◌, ◌||◌, ◌==◌, nat_lt, List, length, Option, Some, None, if◌then◌else◌}
use Rattle.rings.specs.Ring.{RingState, head_slot}
use Rattle.offload.specs.declared.offloads.Offloads.{Offloads}
use Rattle.tx_desc.specs.Words.{DTYP_CONTEXT, DTYP_DATA}
use Rattle.tx_desc.specs.declared.descriptor.TxDescriptor.{TxDescriptor}
use Rattle.tx_desc.specs.declared.outcome.Misuse.{Misuse}
use Rattle.tx_desc.specs.declared.outcome.Misuse.TheVariants.{UnknownType, NotOffered, PastMemory}
use Rattle.tx_desc.specs.declared.terms.Terms.{Terms}
use Rattle.tx_desc.specs.declared.sending.Segments.{Segments}
use Rattle.tx_desc.specs.declared.sending.Sending.{Sending}
use Rattle.tx_desc.specs.Transmit.{type_of, length_of, is_advanced, wants_tag, wants_segments, descriptor_at}
use Rattle.tx_desc.specs.Offloaded.{is_plain, segments_of}

-- why a card with these offloads cannot use a descriptor in a memory of that size, if it can't: the first line that fits counts
unfoldable pub misuse_of : Offloads → ℕ → TxDescriptor → Option Misuse
misuse_of o size d = if is_advanced d.word && (type_of d.word == DTYP_CONTEXT) then None
    else if is_advanced d.word && not (type_of d.word == DTYP_DATA) then Some UnknownType
    else if is_advanced d.word && (wants_segments d.word && not o.segmentation || wants_tag d.word && not o.vlan) then Some NotOffered
    else if nat_lt size (d.buffer + length_of d.word) then Some PastMemory
    else None

-- of the descriptor at an address, if there is one
abbrev pub misuse_there : Offloads → List ℕ → Option ℕ → Option Misuse
misuse_there o memory None = None
misuse_there o memory (Some address) = misuse_of o (length memory) (descriptor_at address memory)

-- where a frame is being cut, its next segment is sent and no descriptor is taken
abbrev pub misuse_unless : Option Segments → Offloads → List ℕ → Option ℕ → Option Misuse
misuse_unless (Some segments) o memory slot = None
misuse_unless None o memory slot = misuse_there o memory slot

-- why the one descriptor that a step of a queue takes cannot be used: it is the one at the head of the ring
unfoldable pub misuse_at : Terms → List ℕ → RingState → Sending → Option Misuse
misuse_at t memory ring s =
    if is_plain t.offloads then misuse_there t.offloads memory (head_slot ring) else misuse_unless (segments_of s.stage) t.offloads memory (head_slot ring)
