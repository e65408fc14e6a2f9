-- What comes of the event, and the call is kept.
use Rattle.std.proofs.Common.{sym, ◌∙◌}
use Rattle.vfdev_c.proofs.RecordedLemmas.{kept_hands}
use Rattle.vfdev_c.proofs.recorder.RecorderDeviceKind.give.Goals as goal

pub returns : goal.returns
returns c = kept_hands _ _ _ _ _ _ _ _ _ _ _ c.self.view_is (sym c.is_full.ensures.full ∙ c.if-is_full.false) c.requires c.as_request-request.ensures c.record-response.ensures.takes c.record-response.ensures.kept c.of.ensures
    c.device.ensures c.isolates.ensures
