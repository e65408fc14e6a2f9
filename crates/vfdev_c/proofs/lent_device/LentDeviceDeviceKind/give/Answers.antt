-- What comes of the event.
use Rattle.vfdev_c.proofs.LentLemmas.{lent_hands}
use Rattle.vfdev_c.proofs.lent_device.LentDeviceDeviceKind.give.Goals as goal

pub returns : goal.returns
returns c = lent_hands _ _ _ _ _ _ _ _ _ _ c.self.view_is c.requires c.as_request-request.ensures c.take_live-response.ensures.takes c.take_live-response.ensures.listed c.of.ensures c.isolates.ensures
