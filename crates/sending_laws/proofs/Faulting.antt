-- A step stops its queue just where its descriptor cannot be used.
use Rattle.std.proofs.Common.{◌≡◌, ℕ, ◌+◌, ◌==◌, Bool, true, false, not, ◌&&◌, ◌||◌, nat_lt, List, length, slice_range, Option, Some, None, refl, ap, ◌∙◌}
use Rattle.std.specs.Prelude.{is_some, if◌then◌else◌}
use Rattle.wire_frame.specs.Frame.{is_frame, is_frame_tagged, with_tag}
use Rattle.wire_frame.specs.declared.vlan.PortVlan.{PortVlan}
use Rattle.rings.specs.Ring.{RingState, head_slot}
use Rattle.offload.specs.declared.context.Context.{Context as OffloadContext}
use Rattle.offload.specs.declared.offloads.Offloads.{Offloads}
use Rattle.offload.specs.Sums.{refusal}
use Rattle.offload.specs.Segment.{segment_of}
use Rattle.tx_desc.specs.Words.{DTYP_CONTEXT, DTYP_DATA}
use Rattle.tx_desc.specs.declared.descriptor.Kind.{Kind}
use Rattle.tx_desc.specs.declared.descriptor.Kind.TheVariants.{Context, Unusable, Data}
use Rattle.tx_desc.specs.declared.descriptor.TxDescriptor.{TxDescriptor}
use Rattle.tx_desc.specs.declared.outcome.Fetched.{Fetched}
use Rattle.tx_desc.specs.declared.outcome.Fetched.TheVariants.{More, Frame, Dropped}
use Rattle.tx_desc.specs.declared.outcome.Misuse.TheVariants.{UnknownType, NotOffered, PastMemory}
use Rattle.tx_desc.specs.declared.terms.Terms.{Terms}
use Rattle.tx_desc.specs.declared.sending.Segments.{Segments}
use Rattle.tx_desc.specs.declared.sending.Stage.TheVariants.{Cutting}
use Rattle.tx_desc.specs.declared.sending.Sending.{Sending}
use Rattle.tx_desc.specs.Transmit.{Gathering, Gathered, Overlong, type_of, length_of, is_advanced, ends_frame, wants_tag, wants_segments, tag_for, refuses, frame_with, ended, joined, taken, kind_of, descriptor_at, fetch, fetch_next}
use Rattle.tx_desc.specs.Offloaded.{Step, is_plain, is_cut_due, emptied, lacks_sums, kind_with, sums_due, with_sums, tag_with, leaving, ended_with, after_joining, first_word, most_bytes, room_beside, segments_in, segments_of, context_for, bytes_of, next_segment, taken_with, served_at, served_next, plainly, fetch_with}
use Rattle.tx_desc.specs.Misuses.{misuse_of, misuse_there, misuse_unless, misuse_at}
use Rattle.tx_desc.proofs.Misused.{no_tag, no_cut}
use Rattle.sending_laws.specs.Faults.{is_fault}

-- ---- bytes that leave stop no queue

by_test : (b : Bool) (one other : Fetched) → is_fault one ≡ false → is_fault other ≡ false → is_fault (if b then one else other) ≡ false
by_test true one other first second = first
by_test false one other first second = second

framed : (limit : ℕ) (tag : Option ℕ) (bytes : List ℕ) → is_fault (frame_with limit tag bytes) ≡ false
framed limit None bytes = by_test (is_frame limit bytes) (Frame bytes) Dropped refl refl
framed limit (Some tag) bytes = by_test (is_frame_tagged limit tag bytes) (Frame (with_tag tag bytes)) Dropped refl refl

left : (rule : PortVlan) (limit : ℕ) (tag : Option ℕ) (bytes : List ℕ) → is_fault (leaving rule limit tag bytes) ≡ false
left rule limit tag bytes = by_test (refuses rule bytes) Dropped (frame_with limit tag bytes) refl (framed limit tag bytes)

ended_so : (limit : ℕ) (rule : PortVlan) (word : ℕ) (gathered : Gathering) → is_fault (ended limit rule word gathered) ≡ false
unfolding ended
ended_so limit rule word Overlong = refl
ended_so limit rule word (Gathered bytes) = left rule limit (tag_for rule word) bytes

ended_with_so : (t : Terms) (c : OffloadContext) (first last : ℕ) (gathered : Gathering) → is_fault (ended_with t c first last gathered) ≡ false
unfolding ended_with
ended_with_so t c first last Overlong = refl
ended_with_so t c first last (Gathered bytes) =
    left t.rule t.limit (tag_with t c first last) (with_sums (refusal c (sums_due t.offloads first) (length bytes)) c (sums_due t.offloads first) bytes)

by_step : (b : Bool) (one other : Step) → is_fault one.outcome ≡ false → is_fault other.outcome ≡ false → is_fault (if b then one else other).outcome ≡ false
by_step true one other first second = first
by_step false one other first second = second

joined_so : (t : Terms) (s : Sending) (first word : ℕ) (gathered : Gathering) → is_fault (after_joining t s first word gathered).outcome ≡ false
joined_so t s first word gathered =
    by_step (not (ends_frame word)) _ _ refl
    (by_step
    (is_cut_due t.offloads first)
    (record { outcome = More; is_done = false; falls_short = false; sending = record s { pending = gathered; stage = Cutting (record { first = first; last = word; number = 0 }) } })
    (record { outcome = ended_with t (context_for s first) first word gathered; is_done = true; falls_short = lacks_sums t (context_for s first) first gathered; sending = emptied s })
    refl
    (ended_with_so t (context_for s first) first word gathered))

cut_so : (t : Terms) (s : Sending) (g : Segments) → is_fault (next_segment t s g).outcome ≡ false
unfolding next_segment
cut_so t s g =
    let c : OffloadContext = context_for s g.first in
    let tag : Option ℕ = tag_with t c g.first g.last in
    by_step (not (nat_lt g.number (segments_in (room_beside tag t.limit) c s.pending))) _ _ refl (left t.rule t.limit tag (segment_of c (bytes_of s.pending) g.number))

-- ---- a descriptor that cannot be used has a reason

abbrev is_unusable : Kind → Bool
is_unusable Context = false
is_unusable Unusable = true
is_unusable Data = false

by_lines : (context type more past : Bool) → is_unusable (if context then Context else if type then Unusable else if more then Unusable else if past then Unusable else Data) ≡ is_some (if context then None else if type then Some UnknownType else if more then Some NotOffered else if past then Some PastMemory else None)
by_lines true type more past = refl
by_lines false true more past = refl
by_lines false false true past = refl
by_lines false false false true = refl
by_lines false false false false = refl

kind_told : (o : Offloads) (n : ℕ) (d : TxDescriptor) → is_unusable (kind_with o n d) ≡ is_some (misuse_of o n d)
unfolding kind_with misuse_of
kind_told o n d =
    by_lines (is_advanced d.word && (type_of d.word == DTYP_CONTEXT)) (is_advanced d.word && not (type_of d.word == DTYP_DATA)) (is_advanced d.word && (wants_segments d.word && not o.segmentation || wants_tag d.word && not o.vlan)) (nat_lt n (d.buffer + length_of d.word))

both : (a segments tag : Bool) → (a && (segments || tag)) ≡ (a && (segments && true || tag && true))
both a true tag = refl
both a false true = refl
both a false false = refl

asked : (a segments tag cuts tags : Bool) → cuts ≡ false → tags ≡ false → (a && (segments || tag)) ≡ (a && (segments && not cuts || tag && not tags))
asked a segments tag cuts tags no_cuts no_tags = rw no_cuts (rw no_tags (both a segments tag))

same_kind : (o : Offloads) (n : ℕ) (d : TxDescriptor) → is_plain o ≡ true → kind_of n d ≡ kind_with o n d
unfolding kind_of kind_with
same_kind o n d plain =
    ap (λ (more : Bool). if is_advanced d.word && (type_of d.word == DTYP_CONTEXT) then Context else if is_advanced d.word && not (type_of d.word == DTYP_DATA) then Unusable else if more then Unusable else if nat_lt n (d.buffer + length_of d.word) then Unusable else Data)
    (asked (is_advanced d.word) (wants_segments d.word) (wants_tag d.word) o.segmentation o.vlan (no_cut o.vlan o.checksum o.segmentation plain) (no_tag o.vlan o.checksum o.segmentation plain))

-- ---- one step

taken_so : (k : Kind) (limit : ℕ) (rule : PortVlan) (m : List ℕ) (ring : RingState) (pending : Gathering) (d : TxDescriptor) → is_fault (taken k limit rule m ring pending d).outcome ≡ is_unusable k
taken_so Context limit rule m ring pending d = refl
taken_so Unusable limit rule m ring pending d = refl
taken_so Data limit rule m ring pending d =
    let gathered : Gathering = joined limit pending (slice_range m d.buffer (d.buffer + length_of d.word)) in
    by_test (ends_frame d.word) (ended limit rule d.word gathered) More (ended_so limit rule d.word gathered) refl

plain_step : (limit : ℕ) (rule : PortVlan) (o : Offloads) (m : List ℕ) (ring : RingState) (pending : Gathering) (slot : Option ℕ) → is_plain o ≡ true → is_fault (fetch_next limit rule m ring pending slot).outcome ≡ is_some (misuse_there o m slot)
plain_step limit rule o m ring pending None plain = refl
plain_step limit rule o m ring pending (Some address) plain =
    let d : TxDescriptor = descriptor_at address m in
    taken_so (kind_of (length m) d) limit rule m ring pending d ∙ ap is_unusable (same_kind o (length m) d plain) ∙ kind_told o (length m) d

taken_with_so : (k : Kind) (t : Terms) (m : List ℕ) (ring : RingState) (s : Sending) (d : TxDescriptor) → is_fault (taken_with k t m ring s d).outcome ≡ is_unusable k
taken_with_so Context t m ring s d = refl
taken_with_so Unusable t m ring s d = refl
taken_with_so Data t m ring s d =
    joined_so t s (first_word s.stage d.word) d.word (joined (most_bytes t (first_word s.stage d.word)) s.pending (slice_range m d.buffer (d.buffer + length_of d.word)))

idle : (cut : Option Segments) (o : Offloads) (m : List ℕ) → false ≡ is_some (misuse_unless cut o m None)
idle None o m = refl
idle (Some g) o m = refl

slot_step : (cut : Option Segments) (t : Terms) (m : List ℕ) (ring : RingState) (s : Sending) (address : ℕ) → is_fault (served_at cut t m ring s address).outcome ≡ is_some (misuse_unless cut t.offloads m (Some address))
slot_step (Some g) t m ring s address = cut_so t s g
slot_step None t m ring s address =
    let d : TxDescriptor = descriptor_at address m in
    taken_with_so (kind_with t.offloads (length m) d) t m ring s d ∙ kind_told t.offloads (length m) d

served_step : (t : Terms) (m : List ℕ) (ring : RingState) (s : Sending) (slot : Option ℕ) → is_fault (served_next t m ring s slot).outcome ≡ is_some (misuse_unless (segments_of s.stage) t.offloads m slot)
served_step t m ring s None = idle (segments_of s.stage) t.offloads m
served_step t m ring s (Some address) = slot_step (segments_of s.stage) t m ring s address

pub fault_told : (t : Terms) (memory : List ℕ) (ring : RingState) (s : Sending) → is_fault (fetch_with t memory ring s).outcome ≡ is_some (misuse_at t memory ring s)
unfolding fetch_with misuse_at fetch
fault_told t memory ring s = by_plain (is_plain t.offloads) refl
  where
    by_plain : (plain : Bool) → is_plain t.offloads ≡ plain → is_fault (if plain then plainly s (fetch t.limit t.rule memory ring s.pending) else served_next t memory ring s (head_slot ring)).outcome ≡ is_some (if plain then misuse_there t.offloads memory (head_slot ring) else misuse_unless (segments_of s.stage) t.offloads memory (head_slot ring))
    by_plain true is = plain_step t.limit t.rule t.offloads memory ring s.pending (head_slot ring) is
    by_plain false is = served_step t memory ring s (head_slot ring)
