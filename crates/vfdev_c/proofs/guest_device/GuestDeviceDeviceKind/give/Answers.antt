-- What the device under it gives.
use Rattle.vfdev_c.proofs.GuestLemmas.{guests_hand}
use Rattle.vfdev_c.proofs.guest_device.GuestDeviceDeviceKind.give.Goals as goal

pub returns : goal.returns
returns c = guests_hand _ _ _ _ _ _ _ c.self.view_is c.give.ensures
