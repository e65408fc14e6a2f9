-- The words of messages fill the front of the room.
use Rattle.std.proofs.Common.{length, sym, ap, ◌∙◌}
use Rattle.std.proofs.lemmas.List.{length-take-le}
use Rattle.vfdev_c.proofs.events.put_messages.Goals as goal

-- there are 64 bytes of messages
pub copy_from_slice-requires : goal.copy_from_slice-requires
copy_from_slice-requires c =
    length-take-le 64 c.args.messages.now c.if-messages-ge-POOLS.true
    ∙ sym (ap length c.to_masks.ensures ∙ c.masks_are_small.ensures.length)
