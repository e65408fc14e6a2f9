-- The bytes end with the new slot, whose first bytes are the frame.
use Rattle.std.proofs.Common.{◌≡◌, ◌≤◌, ◌<◌, ◌+◌, ◌∷◌, ◌++◌, [], List, ℕ, true, length, take, slice_range, arith, refl, sym, ap, subst, ◌∙◌}
use Rattle.wire_frame.specs.Frame.{IsFrame, is_frame}
use Rattle.device.specs.Slots.{KeptFrames, AreSlots, laid_in}
use Rattle.device.proofs.SlotBytes.{count_is, limit_is, fits, one_more, room, slots_more}
use Rattle.device.proofs.slots.FrameSlots.add.Goals as goal

pub append-requires-clause-room : goal.append-requires-clause-room
append-requires-clause-room c =
    let count : length c.self.inside.lengths.items ≡ length c.args.self.now.frames = count_is c.self.inside.limit c.self.inside.lengths.items c.self.inside.bytes.items c.args.self.now c.self.view_is in
    let few : length c.self.inside.lengths.items < 1024 = omega (arith, c.requires.few, count) in
    omega (arith, room c.self.inside.limit c.self.inside.lengths.items c.self.inside.bytes.items c.self.invariant.0 few, c.self.invariant.2, c.get.ensures.value, c.from.ensures)

pub push_reserved-requires : goal.push_reserved-requires
push_reserved-requires c =
    let count : length c.self.inside.lengths.items ≡ length c.args.self.now.frames = count_is c.self.inside.limit c.self.inside.lengths.items c.self.inside.bytes.items c.args.self.now c.self.view_is in
    omega (arith, c.requires.few, count, c.self.invariant.1)

pub invariant_of-self : goal.invariant_of-self
invariant_of-self c =
    let limit = c.self.inside.limit in
    let lengths = c.self.inside.lengths.items in
    let bytes = c.self.inside.bytes.items in
    let frame = c.bytes-bytes.result.now in
    let count : length lengths ≡ length c.args.self.now.frames = count_is limit lengths bytes c.args.self.now c.self.view_is in
    let few : length lengths < 1024 = omega (arith, c.requires.few, count) in
    let short : length frame ≤ limit = omega (arith, c.requires.short, limit_is limit lengths bytes c.args.self.now c.self.view_is, ap length c.bytes-bytes.ensures.value) in
    let whole : is_frame limit frame ≡ true = fits limit frame (subst IsFrame (sym c.bytes-bytes.ensures.value) c.bytes-bytes.ensures.frame) short in (
      subst (λ (ls : List ℕ). AreSlots limit ls c.append.new.bytes.items) (sym c.push_reserved.ensures.items)
          (slots_more limit lengths bytes c.append.new.bytes.items frame (length frame) c.self.invariant.0 few refl whole c.append.ensures.before c.append.ensures.first (omega (arith, c.append.ensures.len, c.get.ensures.value, c.from.ensures))),
      omega (arith, c.push_reserved.ensures.capacity, c.self.invariant.1),
      omega (arith, c.append.ensures.capacity, c.self.invariant.2),
    )

pub returns-clause-frames : goal.returns-clause-frames
returns-clause-frames c =
    let limit = c.self.inside.limit in
    let lengths = c.self.inside.lengths.items in
    let bytes = c.self.inside.bytes.items in
    let frame = c.bytes-bytes.result.now in
    ap (λ (ls : List ℕ). laid_in limit ls c.append.new.bytes.items) c.push_reserved.ensures.items
    ∙ one_more limit lengths bytes c.append.new.bytes.items frame (length frame) c.self.invariant.0 refl c.append.ensures.before c.append.ensures.first
    ∙ (λ i. (c.self.view_is i).frames ++ c.bytes-bytes.ensures.value i ∷ [])
