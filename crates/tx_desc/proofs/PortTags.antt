-- A frame that is sent under a port VLAN bears its tag.
use Rattle.std.proofs.Common.{◌≡◌, ℕ, ◌+◌, ◌-◌, ◌*◌, ◌/◌, ◌%◌, ◌≤◌, Bool, true, false, ◌&&◌, List, ◌∷◌, Option, Some, None, refl, sym, ap, ◌∙◌, length, take, drop, get_or, arith, leb-true}
use Rattle.std.proofs.lemmas.Bool.{and_parts, eq-eqb}
use Rattle.std.proofs.lemmas.Nat.{div-add-mod'}
use Rattle.std.proofs.lemmas.List.{length-take-le, get_or-append_right}
use Rattle.std.specs.Prelude.{◌==◌, nat_le, slice_range, if◌then◌else◌}
use Rattle.wire_frame.specs.Frame.{is_tagged, is_frame_tagged, with_tag, tag_control}
use Rattle.wire_frame.specs.declared.vlan.PortVlan.TheVariants.{Always}
use Rattle.rings.specs.Ring.{RingState, head_slot}
use Rattle.tx_desc.specs.declared.descriptor.Kind.{Kind}
use Rattle.tx_desc.specs.declared.descriptor.Kind.TheVariants.{Context, Unusable, Data}
use Rattle.tx_desc.specs.declared.descriptor.TxDescriptor.{TxDescriptor}
use Rattle.tx_desc.specs.declared.outcome.Fetched.{Fetched}
use Rattle.tx_desc.specs.declared.outcome.Fetched.TheVariants.{More, Frame, Dropped}
use Rattle.tx_desc.specs.Transmit.{Gathering, Gathered, Overlong, ended, ends_frame, joined, length_of, kind_of, taken, tag_for, descriptor_at, fetch_next, fetch}

-- ---- a frame with a tag put in

abbrev bears : ℕ → List ℕ → Bool
bears tag frame = is_tagged frame && (tag_control frame == tag)

at_tag : (tag : ℕ) (f : List ℕ) (i : ℕ) → 12 ≤ length f → 12 ≤ i → get_or (with_tag tag f) i 0 ≡ get_or (0x81 ∷ 0 ∷ tag / 256 ∷ tag % 256 ∷ drop 12 f) (i - 12) 0
at_tag tag f i long past = get_or-append_right (take 12 f) (0x81 ∷ 0 ∷ tag / 256 ∷ tag % 256 ∷ drop 12 f) 12 i 0 (length-take-le 12 f long) past

control-with_tag : (tag : ℕ) (f : List ℕ) → 12 ≤ length f → tag_control (with_tag tag f) ≡ tag
control-with_tag tag f long =
    (λ i. at_tag tag f 14 long (omega arith) i * 256 + at_tag tag f 15 long (omega arith) i) ∙ div-add-mod' tag 256

tagged-with_tag : (tag : ℕ) (f : List ℕ) → 12 ≤ length f → nat_le 14 (length (with_tag tag f)) ≡ true → is_tagged (with_tag tag f) ≡ true
tagged-with_tag tag f long enough =
    (λ i. enough i && ((at_tag tag f 12 long (omega arith) i == 0x81) && (at_tag tag f 13 long (omega arith) i == 0)))

-- ---- what is fetched

-- it is no frame, or one that bears the tag
abbrev pub outcome_bears : ℕ → Fetched → Bool
outcome_bears tag (Frame frame) = bears tag frame
outcome_bears tag _ = true

put_in : (limit tag : ℕ) (bytes : List ℕ) (b : Bool) → is_frame_tagged limit tag bytes ≡ b → outcome_bears tag (if b then Frame (with_tag tag bytes) else Dropped) ≡ true
put_in limit tag bytes false is = refl
put_in limit tag bytes true is =
    let parts = and_parts _ _ is in
    let long : 12 ≤ length bytes = leb-true 12 (length bytes) parts.0 in
    let frame = and_parts _ _ parts.1 in
    (λ i. tagged-with_tag tag bytes long frame.0 i && (control-with_tag tag bytes long i == tag)) ∙ eq-eqb tag tag refl

pub gathered_bears : (limit tag : ℕ) (bytes : List ℕ) (b : Bool) → is_tagged bytes ≡ b
    → outcome_bears tag (if b then Dropped else (if is_frame_tagged limit tag bytes then Frame (with_tag tag bytes) else Dropped)) ≡ true
gathered_bears limit tag bytes true is = refl
gathered_bears limit tag bytes false is = put_in limit tag bytes _ refl

ended_bears : (limit tag word : ℕ) (g : Gathering) → outcome_bears tag (ended limit (Always tag) word g) ≡ true
unfolding ended tag_for
ended_bears limit tag word Overlong = refl
ended_bears limit tag word (Gathered bytes) = gathered_bears limit tag bytes _ refl

if_ends : (tag : ℕ) (b : Bool) (t : Fetched) → outcome_bears tag t ≡ true → outcome_bears tag (if b then t else More) ≡ true
if_ends tag true t is = is
if_ends tag false t is = refl

taken_bears : (kind : Kind) (limit tag : ℕ) (memory : List ℕ) (ring : RingState) (pending : Gathering) (d : TxDescriptor) → outcome_bears tag (taken kind limit (Always tag) memory ring pending d).outcome ≡ true
taken_bears Context limit tag memory ring pending d = refl
taken_bears Unusable limit tag memory ring pending d = refl
taken_bears Data limit tag memory ring pending d =
    if_ends tag (ends_frame d.word) _ (ended_bears limit tag d.word (joined limit pending (slice_range memory d.buffer (d.buffer + length_of d.word))))

next_bears : (limit tag : ℕ) (memory : List ℕ) (ring : RingState) (pending : Gathering) (o : Option ℕ) → outcome_bears tag (fetch_next limit (Always tag) memory ring pending o).outcome ≡ true
next_bears limit tag memory ring pending None = refl
next_bears limit tag memory ring pending (Some address) =
    taken_bears (kind_of (length memory) (descriptor_at address memory)) limit tag memory ring pending (descriptor_at address memory)

pub fetch_bears : (limit tag : ℕ) (memory : List ℕ) (ring : RingState) (pending : Gathering) → outcome_bears tag (fetch limit (Always tag) memory ring pending).outcome ≡ true
unfolding fetch
fetch_bears limit tag memory ring pending = next_bears limit tag memory ring pending (head_slot ring)

pub bears_port_tag : (limit tag : ℕ) (memory : List ℕ) (ring : RingState) (pending : Gathering) (frame : List ℕ) → (fetch limit (Always tag) memory ring pending).outcome ≡ Frame frame
    → (is_tagged frame && (tag_control frame == tag)) ≡ true
bears_port_tag limit tag memory ring pending frame is = sym (ap (outcome_bears tag) is) ∙ fetch_bears limit tag memory ring pending
