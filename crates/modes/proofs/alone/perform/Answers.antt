-- The lone function is as it is made.
use Rattle.std.proofs.Common.{ℕ, List, ap, subst}
use Rattle.std.specs.Prelude.{OnErr}
use Rattle.script.specs.Reading.{DeviceShape}
use Rattle.transcript.specs.Known.{Began}
use Rattle.modes.proofs.Left.{seen_same}
use Rattle.modes.proofs.alone.perform.Goals as goal

pub returns-clause-err : goal.returns-clause-err
returns-clause-err g c =
    let P : List ℕ → Type 0 = λ t. OnErr c.observe-told.result (Began (g.W.Write.contents c.args.writer.now) (g.W.Write.contents c.observe-told.new.writer) t) in
    subst P (seen_same c.args.output.now _ c.args.watch.now.pool _ _ _ _ _ c.args.script.now.events c.deref_mut.ensures.value c.in_ok-lone.ensures.ok
    (ap (λ (d : DeviceShape). d.limit) c.shape.ensures)) c.observe-told.ensures.err
