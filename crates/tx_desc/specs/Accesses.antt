-- The accesses that taking a descriptor makes, in order, in the memory that it meets.
use Rattle.std.specs.Prelude.{ℕ, ◌+◌, min, max, Bool, false, nat_lt, nat_le, List, [], ◌∷◌, ◌++◌, length, slice_range, Option, Some, None, if◌then◌else◌}
use Rattle.guest_memory.specs.Memory.{word_bytes, two_words}
use Rattle.live_memory.specs.Trace.{Access, Read, Wrote}
use Rattle.rings.specs.Ring.{RingState, head_slot}
use Rattle.tx_desc.specs.declared.descriptor.Kind.{Kind}
use Rattle.tx_desc.specs.declared.descriptor.Kind.TheVariants.{Context, Unusable, Data}
use Rattle.tx_desc.specs.declared.descriptor.TxDescriptor.{TxDescriptor}
use Rattle.tx_desc.specs.Transmit.{Gathering, Gathered, Overlong, length_of, wants_report, done_word, kind_of, descriptor_at}

-- the bytes from one address up to another, read by one access; there is none where there are no bytes
unfoldable pub part_read : ℕ → ℕ → List ℕ → List Access
part_read from to memory = if nat_lt from to then Read from (slice_range memory from to) ∷ [] else []

-- the bytes of a descriptor: those before the 16 of the descriptor itself, and then those behind. Its own were read with it
unfoldable pub data_reads : TxDescriptor → List ℕ → List Access
data_reads d memory = part_read d.buffer (min (d.buffer + length_of d.word) d.at) memory ++ part_read (max d.buffer (d.at + 16)) (d.buffer + length_of d.word) memory

-- with so many bytes more the frame isn't too long yet
abbrev pub has_room : ℕ → Gathering → ℕ → Bool
has_room limit Overlong n = false
has_room limit (Gathered so_far) n = nat_le (length so_far + n) limit

-- the bytes of a descriptor that join the frame; those of a frame that is too long aren't read
unfoldable pub joined_reads : ℕ → Gathering → TxDescriptor → List ℕ → List Access
joined_reads limit pending d memory = if has_room limit pending (length_of d.word) then data_reads d memory else []

-- the second word written back, where the driver asks for it
unfoldable pub report_write : TxDescriptor → List Access
report_write d = if wants_report d.word then Wrote (d.at + 8) (word_bytes (done_word d.word)) ∷ [] else []

-- what is done with a descriptor after it was read: the data is read, and the descriptor is written back
abbrev pub taken_accesses : Kind → ℕ → List ℕ → Gathering → TxDescriptor → List Access
taken_accesses Context limit memory pending d = []
taken_accesses Unusable limit memory pending d = []
taken_accesses Data limit memory pending d = joined_reads limit pending d memory ++ report_write d

-- the descriptor is read by one access, and then taken
abbrev pub accesses_of : ℕ → List ℕ → Gathering → TxDescriptor → List Access
accesses_of limit memory pending d = Read d.at (two_words d.buffer d.word) ∷ taken_accesses (kind_of (length memory) d) limit memory pending d

abbrev pub accesses_at : ℕ → List ℕ → Gathering → Option ℕ → List Access
accesses_at limit memory pending None = []
accesses_at limit memory pending (Some address) = accesses_of limit memory pending (descriptor_at address memory)

-- the descriptor at the head of the ring, if there is one
unfoldable pub fetch_accesses : ℕ → List ℕ → RingState → Gathering → List Access
fetch_accesses limit memory ring pending = accesses_at limit memory pending (head_slot ring)
