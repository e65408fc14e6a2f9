-- The device is that of the shape, watched for the pool.
use Rattle.std.proofs.Common.{ℕ, List, ap, ◌∙◌, subst}
use Rattle.std.specs.Prelude.{OnErr}
use Rattle.transcript.specs.Known.{Began}
use Rattle.transcript.proofs.Known.{began_none, on_err}
use Rattle.modes.specs.Program.{device_of}
use Rattle.modes.proofs.Left.{kept_whole}
use Rattle.modes.proofs.keep.keep.Goals as goal

pub returns-in_err-device-clause-err : goal.returns-in_err-device-clause-err
returns-in_err-device-clause-err g c = on_err c.from_residual.result (began_none _ _)

pub returns-in_err-watch-clause-err : goal.returns-in_err-watch-clause-err
returns-in_err-watch-clause-err g c = on_err c.from_residual-in_err-watch.result (began_none _ _)

pub returns-clause-err : goal.returns-clause-err
returns-clause-err g c =
    let P : List ℕ → Type 0 = λ t. OnErr c.perform-told.result (Began (g.W.Write.contents c.args.writer.now) (g.W.Write.contents c.perform-told.new.writer) t) in
    subst P (kept_whole c.args.output.now _ _ _ (device_of c.args.script.now.device) c.args.pool c.args.script.now.events
    c.deref_mut.ensures.value c.in_ok-watch.ensures.ok (c.in_ok-device.ensures.ok ∙ ap device_of c.shape.ensures))
    c.perform-told.ensures.err
