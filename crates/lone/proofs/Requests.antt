-- A request is an own event of the function whose own event it stands for.
use Rattle.std.proofs.Common.{◌≡◌, ap}
use Rattle.device.specs.Request.{Request, event_of}
use Rattle.device.specs.Whose.{function_among}
use Rattle.device.specs.Lone.{pool_of}
use Rattle.device.proofs.Owners.{whose_asked}

pub same_pool : (r : Request) → pool_of r ≡ pool_of (event_of r)
same_pool r = ap function_among (whose_asked r)
