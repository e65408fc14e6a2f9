-- The call that the share made is one call more of the port.
use Rattle.std.proofs.Common.{rules, ◌≡◌, ◌∙◌, ap}
use Rattle.device.specs.Request.{event_of}
use Rattle.recorder.specs.Held.{having_asked}
use Rattle.guest_port.proofs.Called.{has_called}
use Rattle.guest_port.proofs.locked_port.LockedPort.ask.Goals as goal

pub returns-clause-kept : goal.returns-clause-kept
returns-clause-kept g c =
    let last : c.in-Some.share ≡ c.self.inside.last.value = search rules in
    rw (← c.self.view_is) (has_called _ c.self.inside.first.value c.self.inside.last.value _ _ _ (event_of c.args.request) _
    (search rules)
    (c.of-self-inside.ensures ∙ c.in-Some-made.ensures.counted ∙ ap (having_asked (event_of c.args.request) _) last)
    (search rules))
