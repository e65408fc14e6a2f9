-- A mask of fewer than 32 numbers has room for one more, which stands below them.
use Rattle.std.proofs.Common.{arith, ◌≡◌, ◌+◌, ◌-◌, ◌*◌, ap, ◌∙◌}
use Rattle.mailbox.specs.Words.{is_in_set}
use Rattle.mailbox.proofs.Masks.{mask_room, mask_step, reaches_below}
use Rattle.mailbox.proofs.host.Host.mask.Goals as goal

pub one_more-word-requires : goal.one_more-word-requires
one_more-word-requires c =
    rw c.loop-done.invariant (mask_room (is_in_set c.args.self.now c.args.set) (32 * c.args.i + 32 - c.loop-done.done) c.loop-done.done (omega arith))

pub loop-done-preserved : goal.loop-done-preserved
loop-done-preserved c =
    let place : 32 * c.args.i + 31 - c.loop-done.done ≡ 32 * c.args.i + 32 - 1 - c.loop-done.done = omega arith in
    c.one_more-word.ensures
    ∙ mask_step (is_in_set c.args.self.now c.args.set) (32 * c.args.i + 32) c.loop-done.done c.loop-done.word c.is_in-bit.result (omega arith) c.loop-done.invariant
    (c.is_in-bit.ensures ∙ ap (is_in_set c.args.self.now c.args.set) place)

pub is_in-bit-requires : goal.is_in-bit-requires
is_in-bit-requires c = reaches_below c.args.set (32 * c.args.i + 31) _ (omega arith) c.requires.set
