-- Whose event it is.
use Rattle.std.specs.Prelude.{ℕ, Option, Some, None}
use Rattle.device.specs.declared.event.Event.{Event as EventOf}
use Rattle.device.specs.declared.event.Event.TheVariants.{Open, End, VfRead, VfWrite, MemRead, MemWrite, Serve, Flr, PfRead, PfWrite, PfReset, Wire}
use Rattle.device.specs.declared.event.Whose.{Whose}
use Rattle.device.specs.declared.event.Whose.TheVariants.{Function, Physical, Wire as TheWire}

abbrev pub whose_of : {B F : Type 0} → EventOf B F → Whose
whose_of (Open p) = Function p
whose_of (End p) = Function p
whose_of (VfRead p offset) = Function p
whose_of (VfWrite p offset x) = Function p
whose_of (MemRead p at count) = Function p
whose_of (MemWrite p at bytes) = Function p
whose_of (Serve p q) = Function p
whose_of (Flr p) = Function p
whose_of (PfRead offset) = Physical
whose_of (PfWrite offset x) = Physical
whose_of PfReset = Physical
whose_of (Wire frame) = TheWire

-- the function, where it is one's own
abbrev pub function_among : Whose → Option ℕ
function_among (Function p) = Some p
function_among Physical = None
function_among TheWire = None
