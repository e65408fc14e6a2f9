-- A frame that is sent under a port VLAN bears its tag, also where the card does what its driver leaves undone.
use Rattle.std.proofs.Common.{◌≡◌, ℕ, ◌+◌, Bool, true, false, ◌&&◌, List, Option, Some, None, refl, sym, ap, ◌∙◌, length}
use Rattle.std.specs.Prelude.{◌==◌, nat_lt, slice_range}
use Rattle.wire_frame.specs.Frame.{is_tagged, tag_control}
use Rattle.wire_frame.specs.declared.vlan.PortVlan.TheVariants.{Always}
use Rattle.rings.specs.Ring.{RingState, head_slot}
use Rattle.offload.specs.declared.context.Context.{Context as OffloadContext}
use Rattle.offload.specs.declared.offloads.Offloads.{Offloads}
use Rattle.offload.specs.Segment.{segment_of}
use Rattle.offload.specs.Sums.{refusal}
use Rattle.tx_desc.specs.declared.descriptor.Kind.{Kind}
use Rattle.tx_desc.specs.declared.descriptor.Kind.TheVariants.{Context, Unusable, Data}
use Rattle.tx_desc.specs.declared.descriptor.TxDescriptor.{TxDescriptor}
use Rattle.tx_desc.specs.declared.outcome.Fetched.TheVariants.{Frame}
use Rattle.tx_desc.specs.declared.terms.Terms.{Terms}
use Rattle.tx_desc.specs.declared.sending.Segments.{Segments}
use Rattle.tx_desc.specs.declared.sending.Sending.{Sending}
use Rattle.tx_desc.specs.Transmit.{Gathering, Gathered, Overlong, ends_frame, joined, length_of, descriptor_at}
use Rattle.tx_desc.specs.Offloaded.{leaving, with_sums, sums_due, ended_with, after_joining, is_cut_due, context_for, cut_step, segments_in, room_beside, next_segment, bytes_of, tag_due, first_word, most_bytes, taken_with, kind_with, served_at, served_next, segments_of, is_plain, fetch_with}
use Rattle.tx_desc.proofs.PortTags.{outcome_bears, gathered_bears, fetch_bears}

-- terms under a port VLAN
abbrev under : ℕ → ℕ → Offloads → Terms
under limit tag o = record { rule = Always tag; limit = limit; offloads = o }

leaving_bears : (limit tag : ℕ) (bytes : List ℕ) → outcome_bears tag (leaving (Always tag) limit (Some tag) bytes) ≡ true
leaving_bears limit tag bytes = gathered_bears limit tag bytes _ refl

ended_bears : (limit tag : ℕ) (o : Offloads) (c : OffloadContext) (first last : ℕ) (g : Gathering) → outcome_bears tag (ended_with (under limit tag o) c first last g) ≡ true
unfolding ended_with tag_due
ended_bears limit tag o c first last Overlong = refl
ended_bears limit tag o c first last (Gathered bytes) = leaving_bears limit tag (with_sums (refusal c (sums_due o first) (length bytes)) c (sums_due o first) bytes)

joining_bears : (limit tag : ℕ) (o : Offloads) (s : Sending) (first word : ℕ) (g : Gathering) → outcome_bears tag (after_joining (under limit tag o) s first word g).outcome ≡ true
joining_bears limit tag o s first word g = at (ends_frame word) (is_cut_due o first) refl refl
  where
    at : (ends cuts : Bool) → ends_frame word ≡ ends → is_cut_due o first ≡ cuts → outcome_bears tag (after_joining (under limit tag o) s first word g).outcome ≡ true
    at false cuts is cut = rw is refl
    at true true is cut = rw (is, cut) refl
    at true false is cut = rw (is, cut) (ended_bears limit tag o (context_for s first) first word g)

cut_bears : (limit tag : ℕ) (o : Offloads) (s : Sending) (g : Segments) (c : OffloadContext) (count : ℕ) → outcome_bears tag (cut_step (under limit tag o) s g c (Some tag) count).outcome ≡ true
cut_bears limit tag o s g c count = at (nat_lt g.number count) refl
  where
    at : (there : Bool) → nat_lt g.number count ≡ there → outcome_bears tag (cut_step (under limit tag o) s g c (Some tag) count).outcome ≡ true
    at false is = rw is refl
    at true is = rw is (leaving_bears limit tag (segment_of c (bytes_of s.pending) g.number))

segment_bears : (limit tag : ℕ) (o : Offloads) (s : Sending) (g : Segments) → outcome_bears tag (next_segment (under limit tag o) s g).outcome ≡ true
unfolding next_segment tag_due
segment_bears limit tag o s g = cut_bears limit tag o s g (context_for s g.first) (segments_in (room_beside (Some tag) limit) (context_for s g.first) s.pending)

taken_bears : (kind : Kind) (limit tag : ℕ) (o : Offloads) (memory : List ℕ) (ring : RingState) (s : Sending) (d : TxDescriptor) → outcome_bears tag (taken_with kind (under limit tag o) memory ring s d).outcome ≡ true
taken_bears Context limit tag o memory ring s d = refl
taken_bears Unusable limit tag o memory ring s d = refl
taken_bears Data limit tag o memory ring s d =
    joining_bears limit tag o s (first_word s.stage d.word) d.word (joined (most_bytes (under limit tag o) (first_word s.stage d.word)) s.pending (slice_range memory d.buffer (d.buffer + length_of d.word)))

slot_bears : (limit tag : ℕ) (o : Offloads) (memory : List ℕ) (ring : RingState) (s : Sending) (address : ℕ) (cutting : Option Segments) → outcome_bears tag (served_at cutting (under limit tag o) memory ring s address).outcome ≡ true
slot_bears limit tag o memory ring s address None =
    taken_bears (kind_with o (length memory) (descriptor_at address memory)) limit tag o memory ring s (descriptor_at address memory)
slot_bears limit tag o memory ring s address (Some segments) = segment_bears limit tag o s segments

next_bears : (limit tag : ℕ) (o : Offloads) (memory : List ℕ) (ring : RingState) (s : Sending) (slot : Option ℕ) → outcome_bears tag (served_next (under limit tag o) memory ring s slot).outcome ≡ true
next_bears limit tag o memory ring s None = refl
next_bears limit tag o memory ring s (Some address) = slot_bears limit tag o memory ring s address (segments_of s.stage)

step_bears : (limit tag : ℕ) (o : Offloads) (memory : List ℕ) (ring : RingState) (s : Sending) → outcome_bears tag (fetch_with (under limit tag o) memory ring s).outcome ≡ true
unfolding fetch_with
step_bears limit tag o memory ring s = at (is_plain o) refl
  where
    at : (plain : Bool) → is_plain o ≡ plain → outcome_bears tag (fetch_with (under limit tag o) memory ring s).outcome ≡ true
    at true is = rw is (fetch_bears limit tag memory ring s.pending)
    at false is = rw is (next_bears limit tag o memory ring s (head_slot ring))

pub bears_port_tag_with : (limit tag : ℕ) (o : Offloads) (memory : List ℕ) (ring : RingState) (s : Sending) (frame : List ℕ) → (fetch_with (under limit tag o) memory ring s).outcome ≡ Frame frame
    → (is_tagged frame && (tag_control frame == tag)) ≡ true
bears_port_tag_with limit tag o memory ring s frame is = sym (ap (outcome_bears tag) is) ∙ step_bears limit tag o memory ring s
