-- The frame lies in the slot's first bytes, and the other slots are as they were.
use Rattle.std.proofs.Common.{◌≡◌, ◌≤◌, ◌<◌, ◌*◌, List, ℕ, true, length, arith, refl, sym, ap, subst, ◌∙◌}
use Rattle.std.specs.Prelude.{slice_set}
use Rattle.guest_memory.specs.Memory.{overwrite}
use Rattle.wire_frame.specs.Frame.{IsFrame, is_frame}
use Rattle.device.specs.Slots.{KeptFrames, AreSlots, laid_in}
use Rattle.device.proofs.SlotBytes.{count_is, limit_is, fits, fits_there, one_set, slots_set}
use Rattle.device.proofs.slots.FrameSlots.lay.Goals as goal

pub write_over-requires : goal.write_over-requires
write_over-requires c =
    let limit = c.self.inside.limit in
    let lengths = c.self.inside.lengths.items in
    let bytes = c.self.inside.bytes.items in
    let there : c.args.slot < length lengths = omega (arith, c.requires.there, count_is limit lengths bytes c.args.self.now c.self.view_is) in
    let short : length c.bytes-bytes.result.now ≤ limit = omega (arith, c.requires.short, limit_is limit lengths bytes c.args.self.now c.self.view_is, ap length c.bytes-bytes.ensures.value) in
    omega (arith, c.start_of-start.ensures, fits_there limit lengths bytes c.args.slot (length c.bytes-bytes.result.now) c.self.invariant.0 there short)

pub invariant_of-self : goal.invariant_of-self
invariant_of-self c =
    let limit = c.self.inside.limit in
    let lengths = c.self.inside.lengths.items in
    let bytes = c.self.inside.bytes.items in
    let frame = c.bytes-bytes.result.now in
    let there : c.args.slot < length lengths = omega (arith, c.requires.there, count_is limit lengths bytes c.args.self.now c.self.view_is) in
    let short : length frame ≤ limit = omega (arith, c.requires.short, limit_is limit lengths bytes c.args.self.now c.self.view_is, ap length c.bytes-bytes.ensures.value) in
    let whole : is_frame limit frame ≡ true = fits limit frame (subst IsFrame (sym c.bytes-bytes.ensures.value) c.bytes-bytes.ensures.frame) short in (
      subst (λ (bs : List ℕ). AreSlots limit (slice_set lengths c.from.result (length frame)) bs) (sym (c.write_over.ensures.items ∙ ap (λ (at : ℕ). overwrite at frame bytes) c.start_of-start.ensures))
          (subst (λ (n : ℕ). AreSlots limit (slice_set lengths n (length frame)) (overwrite (c.args.slot * limit) frame bytes)) (sym c.from.ensures) (slots_set limit lengths bytes frame c.args.slot (length frame) c.self.invariant.0 there refl whole)),
      c.self.invariant.1,
      omega (arith, c.write_over.ensures.capacity, c.self.invariant.2),
    )

pub returns-clause-frames : goal.returns-clause-frames
returns-clause-frames c =
    let limit = c.self.inside.limit in
    let lengths = c.self.inside.lengths.items in
    let bytes = c.self.inside.bytes.items in
    let frame = c.bytes-bytes.result.now in
    let there : c.args.slot < length lengths = omega (arith, c.requires.there, count_is limit lengths bytes c.args.self.now c.self.view_is) in
    let short : length frame ≤ limit = omega (arith, c.requires.short, limit_is limit lengths bytes c.args.self.now c.self.view_is, ap length c.bytes-bytes.ensures.value) in
    (λ i. laid_in limit (slice_set lengths (c.from.ensures i) (length frame)) ((c.write_over.ensures.items ∙ ap (λ (at : ℕ). overwrite at frame bytes) c.start_of-start.ensures) i))
    ∙ one_set limit lengths bytes frame c.args.slot (length frame) c.self.invariant.0 there refl short
    ∙ (λ i. slice_set (c.self.view_is i).frames c.args.slot (c.bytes-bytes.ensures.value i))
