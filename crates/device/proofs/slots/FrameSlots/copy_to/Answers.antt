-- The first bytes of the slot are its frame.
use Rattle.std.proofs.Common.{◌≡◌, ◌≤◌, ◌<◌, ◌+◌, List, ℕ, [], length, get_or, slice_range, arith, sym, ap, ◌∙◌}
use Rattle.wire_frame.specs.Frame.{is_frame}
use Rattle.device.specs.Slots.{KeptFrames, laid_at}
use Rattle.device.proofs.SlotBytes.{count_is, long_is, get_laid, inside}
use Rattle.device.proofs.slots.FrameSlots.copy_to.Goals as goal

pub index-requires : goal.index-requires
index-requires c = omega (arith, c.requires, c.from.ensures, count_is c.self.inside.limit c.self.inside.lengths.items c.self.inside.bytes.items c.args.self.now c.self.view_is)

pub overflow_add-end : goal.overflow_add-end
overflow_add-end c =
    let limit = c.self.inside.limit in
    let lengths = c.self.inside.lengths.items in
    let bytes = c.self.inside.bytes.items in
    let there : c.args.slot < length lengths = omega (arith, c.requires, count_is limit lengths bytes c.args.self.now c.self.view_is) in
    let long : c.index.result.now ≡ get_or lengths c.args.slot 0 = long_is lengths c.args.slot c.from.result c.index.result.now there c.from.ensures c.index.ensures in
    omega (arith, inside limit lengths bytes c.args.slot c.self.invariant.0 there, long, c.start_of-start.ensures, c.from-2.ensures, c.self.inside.bytes.small)

pub between-requires-clause-inside : goal.between-requires-clause-inside
between-requires-clause-inside c =
    let limit = c.self.inside.limit in
    let lengths = c.self.inside.lengths.items in
    let bytes = c.self.inside.bytes.items in
    let there : c.args.slot < length lengths = omega (arith, c.requires, count_is limit lengths bytes c.args.self.now c.self.view_is) in
    let long : c.index.result.now ≡ get_or lengths c.args.slot 0 = long_is lengths c.args.slot c.from.result c.index.result.now there c.from.ensures c.index.ensures in
    omega (arith, inside limit lengths bytes c.args.slot c.self.invariant.0 there, long, c.start_of-start.ensures, c.from-2.ensures, ap length c.deref.ensures.value)

pub refill-requires : goal.refill-requires
refill-requires c =
    let limit = c.self.inside.limit in
    let lengths = c.self.inside.lengths.items in
    let bytes = c.self.inside.bytes.items in
    let there : c.args.slot < length lengths = omega (arith, c.requires, count_is limit lengths bytes c.args.self.now c.self.view_is) in
    let long : c.index.result.now ≡ get_or lengths c.args.slot 0 = long_is lengths c.args.slot c.from.result c.index.result.now there c.from.ensures c.index.ensures in
    let laid : c.between.result.now ≡ laid_at limit lengths bytes c.args.slot =
    c.between.ensures ∙ (λ i. slice_range (c.deref.ensures.value i) (c.start_of-start.ensures i) (c.start_of-start.ensures i + (c.from-2.ensures ∙ long) i)) in
    ap (is_frame limit) laid ∙ c.self.invariant.0.frames c.args.slot there

pub returns : goal.returns
returns c =
    let limit = c.self.inside.limit in
    let lengths = c.self.inside.lengths.items in
    let bytes = c.self.inside.bytes.items in
    let there : c.args.slot < length lengths = omega (arith, c.requires, count_is limit lengths bytes c.args.self.now c.self.view_is) in
    let long : c.index.result.now ≡ get_or lengths c.args.slot 0 = long_is lengths c.args.slot c.from.result c.index.result.now there c.from.ensures c.index.ensures in
    let laid : c.between.result.now ≡ laid_at limit lengths bytes c.args.slot =
    c.between.ensures ∙ (λ i. slice_range (c.deref.ensures.value i) (c.start_of-start.ensures i) (c.start_of-start.ensures i + (c.from-2.ensures ∙ long) i)) in
    c.refill.ensures ∙ laid ∙ sym (get_laid limit lengths bytes c.args.slot [] there) ∙ ap (λ (f : KeptFrames). get_or f.frames c.args.slot []) c.self.view_is
