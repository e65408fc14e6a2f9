-- The device and the lone function are those of the shape.
use Rattle.std.proofs.Common.{ℕ, List, ap, ◌∙◌, subst}
use Rattle.std.specs.Prelude.{OnErr}
use Rattle.script.specs.Reading.{DeviceShape}
use Rattle.transcript.specs.Known.{Began}
use Rattle.transcript.proofs.Known.{began_none}
use Rattle.modes.specs.Program.{device_of}
use Rattle.modes.proofs.Left.{seen_whole}
use Rattle.modes.proofs.alone.lone_function.Goals as goal

pub returns-then-not-is_of_size-clause-err : goal.returns-then-not-is_of_size-clause-err
returns-then-not-is_of_size-clause-err g c = began_none _ _

pub returns-clause-err : goal.returns-clause-err
returns-clause-err g c =
    let P : List ℕ → Type 0 = λ t. OnErr c.perform-told.result (Began (g.W.Write.contents c.args.writer.now) (g.W.Write.contents c.perform-told.new.writer) t) in
    subst P (seen_whole c.args.output.now _ _ _ (device_of c.args.script.now.device) c.args.pool _ _ _ c.args.script.now.events
    c.deref_mut.ensures.value c.in_ok-watch.ensures.ok (c.in_ok-device.ensures.ok ∙ ap device_of c.shape-shape.ensures)
    (c.is_of_size.ensures c.if-not-is_of_size.false ∙ ap (λ (d : DeviceShape). d.memory_size) c.shape-shape.ensures))
    c.perform-told.ensures.err
