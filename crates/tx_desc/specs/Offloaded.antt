-- Taking one descriptor of a transmit queue whose driver leaves work to the card: a tag, checksums, the cutting of TCP data into segments
-- (82599 datasheet, 7.2.3.2.3 and 7.2.3.2.4, advanced transmit context and data descriptors).
use Rattle.std.specs.Prelude.{ℕ, ◌+◌, ◌-◌, Bool, true, false, not, ◌&&◌, ◌||◌, ◌==◌, nat_lt, List, [], length, slice_range, Option, Some, None, is_some, if◌then◌else◌}
use Rattle.wire_frame.specs.Bits.{has_bit, field}
use Rattle.wire_frame.specs.declared.vlan.PortVlan.{PortVlan}
use Rattle.wire_frame.specs.declared.vlan.PortVlan.TheVariants.{Descriptor, Always, Never}
use Rattle.guest_memory.specs.Memory.{overwrite, word_bytes}
use Rattle.rings.specs.Ring.{RingState, head_slot}
use Rattle.offload.specs.declared.offloads.Offloads.{Offloads}
use Rattle.offload.specs.declared.context.Context.{Context}
use Rattle.offload.specs.declared.sums.Sums.{Sums}
use Rattle.offload.specs.declared.sums.NotSummed.{NotSummed}
use Rattle.offload.specs.declared.cut.NotCut.{NotCut}
use Rattle.offload.specs.Context.{context_of}
use Rattle.offload.specs.Sums.{refusal, summed}
use Rattle.offload.specs.Cut.{cut_refusal, segment_count}
use Rattle.offload.specs.Segment.{segment_of}
use Rattle.tx_desc.specs.Words.{DTYP_CONTEXT, DTYP_DATA, IDX, IDX_SIZE, IXSM, TXSM, MOST_CUT}
use Rattle.tx_desc.specs.declared.descriptor.Kind.{Kind}
use Rattle.tx_desc.specs.declared.descriptor.Kind.TheVariants.{Context as IsContext, Unusable, Data}
use Rattle.tx_desc.specs.declared.descriptor.TxDescriptor.{TxDescriptor}
use Rattle.tx_desc.specs.declared.outcome.Fetched.{Fetched}
use Rattle.tx_desc.specs.declared.outcome.Fetched.TheVariants.{Idle, More, Dropped, Faulted}
use Rattle.tx_desc.specs.declared.terms.Terms.{Terms}
use Rattle.tx_desc.specs.declared.sending.Segments.{Segments}
use Rattle.tx_desc.specs.declared.sending.Stage.{Stage}
use Rattle.tx_desc.specs.declared.sending.Stage.TheVariants.{Between, Begun, Cutting}
use Rattle.tx_desc.specs.declared.sending.Sending.{Sending}
use Rattle.tx_desc.specs.Transmit.{Gathering, Gathered, Overlong, Fetching, type_of, length_of, is_advanced, ends_frame, wants_report, wants_tag, wants_segments, done_word, tag_for, refuses, frame_with, joined, next, descriptor_at, fetch}

-- ---- what is asked for, by the second word of the descriptor with which a frame begins; a legacy one asks for nothing

-- which of the two contexts of the queue is meant
abbrev pub context_index : ℕ → ℕ
context_index word = field word IDX IDX_SIZE

-- a tag, sums or segments are asked for, and the card does that
abbrev pub is_tag_due : Offloads → ℕ → Bool
is_tag_due o first = o.vlan && (is_advanced first && wants_tag first)

abbrev pub sums_due : Offloads → ℕ → Sums
sums_due o first = record {
  ip = o.checksum && (is_advanced first && has_bit first IXSM);
  transport = o.checksum && (is_advanced first && has_bit first TXSM);
}

abbrev pub is_cut_due : Offloads → ℕ → Bool
is_cut_due o first = o.segmentation && (is_advanced first && wants_segments first)

-- a card that does none of it
abbrev pub is_plain : Offloads → Bool
is_plain o = not o.vlan && (not o.checksum && not o.segmentation)

-- what the card makes of a descriptor in a memory of that size: one that asks for what it doesn't do cannot be used
unfoldable pub kind_with : Offloads → ℕ → TxDescriptor → Kind
kind_with o size d = if is_advanced d.word && (type_of d.word == DTYP_CONTEXT) then IsContext
    else if is_advanced d.word && not (type_of d.word == DTYP_DATA) then Unusable
    else if is_advanced d.word && (wants_segments d.word && not o.segmentation || wants_tag d.word && not o.vlan) then Unusable
    else if nat_lt size (d.buffer + length_of d.word) then Unusable
    else Data

-- ---- what is being sent

abbrev pub no_context : Context
no_context = context_of 0 0

-- nothing, and no context was set
abbrev pub nothing_sent : Sending
nothing_sent = record { pending = Gathered []; stage = Between; context_0 = no_context; context_1 = no_context }

-- the frame is done with; the contexts stay
abbrev pub emptied : Sending → Sending
emptied s = record s { pending = Gathered []; stage = Between }

-- the word with which the frame began, where its next descriptor has this one
abbrev pub first_word : Stage → ℕ → ℕ
first_word Between word = word
first_word (Begun first) word = first
first_word (Cutting segments) word = segments.first

-- the frame that is being cut, if one is
abbrev pub segments_of : Stage → Option Segments
segments_of Between = None
segments_of (Begun first) = None
segments_of (Cutting segments) = Some segments

-- the context that a word means
abbrev pub context_for : Sending → ℕ → Context
context_for s word = if context_index word == 0 then s.context_0 else s.context_1

-- a context, set
abbrev pub with_context : Sending → Context → Sending
with_context s c = if c.index == 0 then record s { context_0 = c } else record s { context_1 = c }

-- ---- the end of a frame

-- the sums that are asked for, made; where they can't be, the bytes stay as they are
abbrev pub with_sums : Option NotSummed → Context → Sums → List ℕ → List ℕ
with_sums None c sums bytes = summed c sums bytes
with_sums (Some why) c sums bytes = bytes

-- the tag to insert: that of the port; else the context's, where the frame began by asking for it; else that of the last descriptor
unfoldable pub tag_due : PortVlan → Bool → ℕ → ℕ → Option ℕ
tag_due Descriptor is_due tag last = if is_due then Some tag else tag_for Descriptor last
tag_due (Always port) is_due tag last = Some port
tag_due Never is_due tag last = None

abbrev pub tag_with : Terms → Context → ℕ → ℕ → Option ℕ
tag_with t c first last = tag_due t.rule (is_tag_due t.offloads first) c.vlan last

-- bytes that leave with a tag, if any, under the port's rule: a frame within the limit, or they are dropped
abbrev pub leaving : PortVlan → ℕ → Option ℕ → List ℕ → Fetched
leaving rule limit tag bytes = if refuses rule bytes then Dropped else frame_with limit tag bytes

-- what the gathered bytes give at the last descriptor of a frame that isn't cut
unfoldable pub ended_with : Terms → Context → ℕ → ℕ → Gathering → Fetched
ended_with t c first last Overlong = Dropped
ended_with t c first last (Gathered bytes) =
    leaving t.rule t.limit (tag_with t c first last) (with_sums (refusal c (sums_due t.offloads first) (length bytes)) c (sums_due t.offloads first) bytes)

-- sums were asked for that can't be made
unfoldable pub lacks_sums : Terms → Context → ℕ → Gathering → Bool
lacks_sums t c first Overlong = false
lacks_sums t c first (Gathered bytes) = is_some (refusal c (sums_due t.offloads first) (length bytes))

-- ---- one step of a queue

-- what comes of it; whether the queue is done with its descriptor; whether something that was asked for could not be done; what is
-- being sent then
pub record Step : Type 0 where
  pub outcome : Fetched
  pub is_done : Bool
  pub falls_short : Bool
  pub sending : Sending

-- bytes of a descriptor were joined to the frame. At its last descriptor a frame ends, or is to be cut from then on
abbrev pub after_joining : Terms → Sending → ℕ → ℕ → Gathering → Step
after_joining t s first word gathered =
    if not (ends_frame word) then record { outcome = More; is_done = true; falls_short = false; sending = record s { pending = gathered; stage = Begun first } }
    else if is_cut_due t.offloads first then record {
      outcome = More;
      is_done = false;
      falls_short = false;
      sending = record s { pending = gathered; stage = Cutting (record { first = first; last = word; number = 0 }) };
    }
    else record {
      outcome = ended_with t (context_for s first) first word gathered;
      is_done = true;
      falls_short = lacks_sums t (context_for s first) first gathered;
      sending = emptied s;
    }

-- how long a segment may be, where a tag of four bytes comes to it
abbrev pub room_beside : Option ℕ → ℕ → ℕ
room_beside None limit = limit
room_beside (Some tag) limit = limit - 4

-- the bytes that are gathered; of those that are too many none is kept
abbrev pub bytes_of : Gathering → List ℕ
bytes_of (Gathered bytes) = bytes
bytes_of Overlong = []

abbrev pub count_unless : Option NotCut → Context → ℕ → ℕ
count_unless None c size = segment_count c size
count_unless (Some why) c size = 0

-- how many segments a context cuts them into, none of which may have more than so many bytes; none where they can't be cut
unfoldable pub segments_in : ℕ → Context → Gathering → ℕ
segments_in limit c Overlong = 0
segments_in limit c (Gathered bytes) = count_unless (cut_refusal c (length bytes) limit) c (length bytes)

-- a frame that can't be cut is dropped as a whole
abbrev pub uncut : Sending → Step
uncut s = record { outcome = Dropped; is_done = true; falls_short = true; sending = emptied s }

-- one of so many segments leaves; the frame is done with at the last one
abbrev pub cut_step : Terms → Sending → Segments → Context → Option ℕ → ℕ → Step
cut_step t s g c tag count = if not (nat_lt g.number count) then uncut s
    else record {
      outcome = leaving t.rule t.limit tag (segment_of c (bytes_of s.pending) g.number);
      is_done = g.number + 1 == count;
      falls_short = false;
      sending = if g.number + 1 == count then emptied s else record s { stage = Cutting (record { first = g.first; last = g.last; number = g.number + 1 }) };
    }

-- the same, under the context of the frame and with its tag
abbrev pub cut_with : Terms → Sending → Segments → Context → Option ℕ → Step
cut_with t s g c tag = cut_step t s g c tag (segments_in (room_beside tag t.limit) c s.pending)

-- the next segment of the frame that is being cut
unfoldable pub next_segment : Terms → Sending → Segments → Step
next_segment t s g = cut_with t s g (context_for s g.first) (tag_with t (context_for s g.first) g.first g.last)

-- ---- one descriptor

-- what comes of it, whether it was written back, whether something that was asked for could not be done, and what is left
pub record Serving : Type 0 where
  pub outcome : Fetched
  pub reported : Bool
  pub falls_short : Bool
  pub memory : List ℕ
  pub ring : RingState
  pub sending : Sending

-- a queue that is done with its descriptor writes it back, where the driver asks for it, and goes on to the next
abbrev pub concluded : ℕ → ℕ → List ℕ → RingState → Step → Serving
concluded at word memory ring step = record {
  outcome = step.outcome;
  reported = step.is_done && wants_report word;
  falls_short = step.falls_short;
  memory = if step.is_done && wants_report word then overwrite (at + 8) (word_bytes (done_word word)) memory else memory;
  ring = if step.is_done then next ring else ring;
  sending = step.sending;
}

-- how many bytes the frame may have: one that is to be cut may have more
abbrev pub most_bytes : Terms → ℕ → ℕ
most_bytes t first = if is_cut_due t.offloads first then MOST_CUT else t.limit

-- the descriptor taken, by its kind: a context is set; one that cannot be used turns the queue off, which forgets all that was being
-- sent; the bytes of any other join the frame
abbrev pub taken_with : Kind → Terms → List ℕ → RingState → Sending → TxDescriptor → Serving
taken_with IsContext t memory ring s d =
    record { outcome = More; reported = false; falls_short = false; memory = memory; ring = next ring; sending = with_context s (context_of d.buffer d.word) }
taken_with Unusable t memory ring s d =
    record { outcome = Faulted; reported = false; falls_short = false; memory = memory; ring = record ring { enabled = false }; sending = nothing_sent }
taken_with Data t memory ring s d =
    let first : ℕ = first_word s.stage d.word in
    let gathered : Gathering = joined (most_bytes t first) s.pending (slice_range memory d.buffer (d.buffer + length_of d.word)) in
    concluded d.at d.word memory ring (after_joining t s first d.word gathered)

-- the descriptor taken as its kind says
abbrev pub next_taken : Terms → List ℕ → RingState → Sending → TxDescriptor → Serving
next_taken t memory ring s d = taken_with (kind_with t.offloads (length memory) d) t memory ring s d

-- at the descriptor of an address: the next segment of the frame that ends with it, or the descriptor itself
abbrev pub served_at : Option Segments → Terms → List ℕ → RingState → Sending → ℕ → Serving
served_at (Some segments) t memory ring s address = concluded address segments.last memory ring (next_segment t s segments)
served_at None t memory ring s address = next_taken t memory ring s (descriptor_at address memory)

-- no descriptor, where nothing changes, or the one at the address
abbrev pub served_next : Terms → List ℕ → RingState → Sending → Option ℕ → Serving
served_next t memory ring s None =
    record { outcome = Idle; reported = false; falls_short = false; memory = memory; ring = ring; sending = s }
served_next t memory ring s (Some address) = served_at (segments_of s.stage) t memory ring s address

-- what `fetch` says, of a card that does none of it
abbrev pub plainly : Sending → Fetching → Serving
plainly s f = record { outcome = f.outcome; reported = f.reported; falls_short = false; memory = f.memory; ring = f.ring; sending = record s { pending = f.pending } }

-- one step of a queue: the one descriptor at the head of the ring taken, if there is one, or the next segment of the frame that ends
-- with it
unfoldable pub fetch_with : Terms → List ℕ → RingState → Sending → Serving
fetch_with t memory ring s =
    if is_plain t.offloads then plainly s (fetch t.limit t.rule memory ring s.pending) else served_next t memory ring s (head_slot ring)
