-- One frame more.
use Rattle.std.proofs.Common.{rules, ◌≡◌, ◌<◌, [], length}
use Rattle.std.specs.Prelude.{slice_index_or}
use Rattle.transcript.proofs.Known.{began_next, on_err, sent_next}
use Rattle.modes.proofs.Left.{frames_next}
use Rattle.modes.proofs.run.frames.Goals as goal

pub returns-in_err-frame-clause-err : goal.returns-in_err-frame-clause-err
returns-in_err-frame-clause-err g c =
    let fs = c.args.device.now.world.wire in
    let less : c.loop-index.index < length fs = search rules in
    let is : c.bytes.result.now ≡ slice_index_or fs c.loop-index.index [] = search rules in
    on_err c.from_residual.result
    (began_next _ _ _ _ _ _ _ _ (frames_next fs c.loop-index.index _ less is) c.loop-index.invariant c.in_err-frame.ensures.err)

pub loop-index-preserved : goal.loop-index-preserved
loop-index-preserved g c =
    let fs = c.args.device.now.world.wire in
    let less : c.loop-index.index < length fs = search rules in
    let is : c.bytes.result.now ≡ slice_index_or fs c.loop-index.index [] = search rules in
    sent_next _ _ _ _ _ _ _ _ _ (frames_next fs c.loop-index.index _ less is) c.loop-index.invariant c.in_ok-frame.ensures.ok
