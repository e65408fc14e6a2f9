-- The message that a parcel stands for.
use Rattle.std.specs.Prelude.{ℕ, List, Option, Some, None, Box}
use Rattle.std.specs.Box.{box_value}
use Rattle.wire_pump.specs.declared.message.WireMsg.{WireMsg}
use Rattle.wire_pump.specs.declared.message.WireMsg.TheVariants.{Frame, Last}

-- a frame in its box, or `Last`
abbrev pub message_in : {A : Type 0} → Option (Box (List ℕ) A) → WireMsg
message_in (Some frame) = Frame (box_value frame)
message_in None = Last
