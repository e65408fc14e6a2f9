-- The device is one as it is made.
use Rattle.history.proofs.ReplayLemmas.{fresh_again}
use Rattle.vfdev_c.proofs.recording.boxed.Goals as goal

pub new-requires : goal.new-requires
new-requires c = fresh_again _ _ _ c.in_ok-device.ensures.ok
