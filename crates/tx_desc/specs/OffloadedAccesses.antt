-- The accesses that a step of a queue makes whose driver leaves work to the card, in order, in the memory that it meets.
use Rattle.std.specs.Prelude.{ℕ, ◌+◌, Bool, List, [], ◌∷◌, ◌++◌, length, slice_range, Option, Some, None, if◌then◌else◌}
use Rattle.guest_memory.specs.Memory.{two_words}
use Rattle.live_memory.specs.Trace.{Access, Read}
use Rattle.rings.specs.Ring.{RingState, head_slot}
use Rattle.tx_desc.specs.declared.descriptor.Kind.{Kind}
use Rattle.tx_desc.specs.declared.descriptor.Kind.TheVariants.{Context, Unusable, Data}
use Rattle.tx_desc.specs.declared.descriptor.TxDescriptor.{TxDescriptor}
use Rattle.tx_desc.specs.declared.terms.Terms.{Terms}
use Rattle.tx_desc.specs.declared.sending.Segments.{Segments}
use Rattle.tx_desc.specs.declared.sending.Sending.{Sending}
use Rattle.tx_desc.specs.Transmit.{joined, length_of, descriptor_at}
use Rattle.tx_desc.specs.Accesses.{joined_reads, report_write, fetch_accesses}
use Rattle.tx_desc.specs.Offloaded.{is_plain, kind_with, first_word, segments_of, most_bytes, after_joining, next_segment}

-- the second word written back where the queue is done with the descriptor, and the driver asks for it
unfoldable pub done_write : Bool → TxDescriptor → List Access
done_write is_done d = if is_done then report_write d else []

-- what is done with a descriptor after it was read
abbrev pub taken_with_accesses : Kind → Terms → List ℕ → Sending → TxDescriptor → List Access
taken_with_accesses Context t memory s d = []
taken_with_accesses Unusable t memory s d = []
taken_with_accesses Data t memory s d =
    joined_reads (most_bytes t (first_word s.stage d.word)) s.pending d memory
    ++ done_write
    (after_joining t s (first_word s.stage d.word) d.word (joined (most_bytes t (first_word s.stage d.word)) s.pending (slice_range memory d.buffer (d.buffer + length_of d.word)))).is_done
    d

-- the descriptor is read by one access, and then taken
abbrev pub descriptor_accesses : Terms → List ℕ → Sending → TxDescriptor → List Access
descriptor_accesses t memory s d =
    Read d.at (two_words d.buffer d.word) ∷ taken_with_accesses (kind_with t.offloads (length memory) d) t memory s d

-- a segment reads nothing: the descriptor and the bytes were read before
abbrev pub accesses_at_slot : Option Segments → Terms → List ℕ → Sending → ℕ → List Access
accesses_at_slot (Some segments) t memory s address = done_write (next_segment t s segments).is_done (record { at = address; buffer = 0; word = segments.last })
accesses_at_slot None t memory s address = descriptor_accesses t memory s (descriptor_at address memory)

abbrev pub step_accesses : Terms → List ℕ → Sending → Option ℕ → List Access
step_accesses t memory s None = []
step_accesses t memory s (Some address) = accesses_at_slot (segments_of s.stage) t memory s address

-- those of one step of a queue
unfoldable pub fetch_with_accesses : Terms → List ℕ → RingState → Sending → List Access
fetch_with_accesses t memory ring s =
    if is_plain t.offloads then fetch_accesses t.limit memory ring s.pending else step_accesses t memory s (head_slot ring)
