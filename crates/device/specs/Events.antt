-- What a device is asked, with the bytes and the frame of an event as lists, and what one form of an event makes of another.
use Rattle.std.specs.Prelude.{ℕ, List}
use Rattle.device.specs.declared.event.Event.{Event as EventOf}
use Rattle.device.specs.declared.event.Event.TheVariants.{Open, End, VfRead, VfWrite, MemRead, MemWrite, Serve, Flr, PfRead, PfWrite, PfReset, Wire}

abbrev pub Event : Type 0
Event = EventOf (List ℕ) (List ℕ)

-- the same event, with other bytes and another frame: `f` gives the bytes, and `g` the frame
abbrev pub mapped : {B F C G : Type 0} → (B → C) → (F → G) → EventOf B F → EventOf C G
mapped f g (Open p) = Open p
mapped f g (End p) = End p
mapped f g (VfRead p offset) = VfRead p offset
mapped f g (VfWrite p offset x) = VfWrite p offset x
mapped f g (MemRead p at count) = MemRead p at count
mapped f g (MemWrite p at bytes) = MemWrite p at (f bytes)
mapped f g (Serve p q) = Serve p q
mapped f g (Flr p) = Flr p
mapped f g (PfRead offset) = PfRead offset
mapped f g (PfWrite offset x) = PfWrite offset x
mapped f g PfReset = PfReset
mapped f g (Wire frame) = Wire (g frame)
