-- What comes of the event.
use Rattle.vfdev_c.proofs.HandleLemmas.{made_hands}
use Rattle.vfdev_c.proofs.handle_state.RunningDeviceKind.give.Goals as goal

pub returns : goal.returns
returns c = made_hands _ _ _ _ _ _ _ _ _ _ c.self.view_is c.requires c.as_request-request.ensures c.take-response.ensures.takes c.of.ensures c.isolates.ensures
