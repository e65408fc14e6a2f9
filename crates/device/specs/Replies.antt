-- What is replied to an event, with the bytes of a memory as a list and a fault by its number, and what one form of a reply makes of
-- another.
use Rattle.std.specs.Prelude.{ℕ, Bool, true, false, List}
use Rattle.device.specs.declared.event.Reply.{Reply as ReplyOf}
use Rattle.device.specs.declared.event.Reply.TheVariants.{Done, Value, Bytes, Idle, More, Sent, Dropped, Faulted, Refused}

abbrev pub Reply : Type 0
Reply = ReplyOf (List ℕ) ℕ

-- the same reply, with other bytes and another form of a fault: `f` gives the bytes, and `g` the fault
abbrev pub replied : {B E C G : Type 0} → (B → C) → (E → G) → ReplyOf B E → ReplyOf C G
replied f g Done = Done
replied f g (Value x) = Value x
replied f g (Bytes bytes) = Bytes (f bytes)
replied f g Idle = Idle
replied f g More = More
replied f g Sent = Sent
replied f g Dropped = Dropped
replied f g Faulted = Faulted
replied f g (Refused fault) = Refused (g fault)

abbrev pub is_done : {B E : Type 0} → ReplyOf B E → Bool
is_done Done = true
is_done _ = false

abbrev pub is_sent : {B E : Type 0} → ReplyOf B E → Bool
is_sent Sent = true
is_sent _ = false
