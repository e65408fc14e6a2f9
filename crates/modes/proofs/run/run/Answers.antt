-- The device is that of the script, and what it answers and leaves is isolated.
use Rattle.std.proofs.Common.{◌≡◌, ◌≤◌, ap, ◌∙◌, subst}
use Rattle.device.specs.World.{world_after}
use Rattle.device.specs.Live.{TracedWorld}
use Rattle.script.specs.Reading.{DeviceShape}
use Rattle.transcript.proofs.Known.{began_none, on_err}
use Rattle.modes.specs.Program.{device_of}
use Rattle.modes.proofs.Isolated.{are_left, sent_isolated}
use Rattle.modes.proofs.Left.{began_as, run_over, sent_as}
use Rattle.modes.proofs.run.run.Goals as goal

pub returns-in_err-device-clause-err : goal.returns-in_err-device-clause-err
returns-in_err-device-clause-err g c = on_err c.from_residual.result (began_none _ _)

pub returns-in-Err-clause-err : goal.returns-in-Err-clause-err
returns-in-Err-clause-err g c =
    began_as _ _ _ _ (run_over c.args.output.now _ _ _ c.args.script.now.events (ap (λ (d : TracedWorld). d.world) c.deref_mut.ensures.value) (c.in_ok-device.ensures.ok ∙ ap device_of c.shape-shape.ensures)) c.in-Err.ensures.err

pub returns-in-Ok-clause-isolated : goal.returns-in-Ok-clause-isolated
returns-in-Ok-clause-isolated g c =
    let said = c.args.script.now in
    let made = c.in_ok-device.ensures.ok ∙ ap device_of c.shape-shape.ensures in
    let few : said.device.functions ≤ 64 = subst (λ (d : DeviceShape). d.functions ≤ 64) c.shape-shape.ensures c.shape-shape.result.most in
    let after : c.perform-told.new.device.world ≡ world_after (device_of said.device) said.events =
    c.in-Ok.ensures.world ∙ (λ k. world_after (((ap (λ (d : TracedWorld). d.world) c.deref_mut.ensures.value) ∙ made) k) said.events) in
    sent_isolated said few _ after _ _ c.args.output.now _
    (sent_as _ _ _ _ _ (run_over c.args.output.now _ _ _ said.events (ap (λ (d : TracedWorld). d.world) c.deref_mut.ensures.value) made) c.in-Ok.ensures.ok)

pub returns-in-Ok-clause-isolated_state : goal.returns-in-Ok-clause-isolated_state
returns-in-Ok-clause-isolated_state g c =
    let said = c.args.script.now in
    let made = c.in_ok-device.ensures.ok ∙ ap device_of c.shape-shape.ensures in
    are_left said (subst (λ (d : DeviceShape). d.functions ≤ 64) c.shape-shape.ensures c.shape-shape.result.most) _
    (c.in-Ok.ensures.world ∙ (λ k. world_after (((ap (λ (d : TracedWorld). d.world) c.deref_mut.ensures.value) ∙ made) k) said.events))
