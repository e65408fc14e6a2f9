-- What a worker's thread is promised to do.
use Rattle.workers.specs.declared.work.Work.{Work}
use Rattle.workers.specs.declared.work.Work.TheVariants.{Guest, Owner}
use Rattle.workers.specs.Duties.{Duty, OfPort, OfShare}

abbrev pub duty_of : {M L P : Type 0} → Work M L P → Duty
duty_of (Guest plan port) = OfPort plan.value port.value
duty_of (Owner plan share) = OfShare plan.value share.value
