-- The frame in the slot that the ring has at the index.
use Rattle.std.proofs.Common.{sym, ap, ◌∙◌}
use Rattle.std.specs.Prelude.{slice_get}
use Rattle.device.specs.Slots.{KeptFrames}
use Rattle.device.proofs.SlotLemmas.{is_frame_of, none_past, slot_there}
use Rattle.device.proofs.wire_out.WireOut.at.Goals as goal

pub copy_to-requires : goal.copy_to-requires
copy_to-requires c = slot_there c.self.inside.slots.frames c.self.inside.order.items c.args.index c.in-Some.slot.now c.self.invariant.2 (sym c.in-Some.ensures)

pub returns-in-Some : goal.returns-in-Some
returns-in-Some c =
    is_frame_of c.self.inside.slots.frames c.self.inside.order.items c.args.index c.in-Some.slot.now c.copy_to.new.room c.self.invariant.2 (sym c.in-Some.ensures) c.copy_to.ensures
    ∙ ap (λ (w : KeptFrames). slice_get w.frames c.args.index) c.self.view_is

pub returns-in-None : goal.returns-in-None
returns-in-None c =
    sym (none_past c.self.inside.slots.frames c.self.inside.order.items c.args.index (sym c.in-None.ensures)) ∙ ap (λ (w : KeptFrames). slice_get w.frames c.args.index) c.self.view_is
