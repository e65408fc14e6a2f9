-- The channel from the wire's reader to the pump. What was sent is a list of messages, and what was received is a beginning of
-- it. `Last` says that no frame comes any more.
use Rattle.std.specs.Prelude.{◌≡◌, ℕ, Bool, true, false, List, [], ◌∷◌, ◌++◌}
use mathlib.Core.Option.{some}
use lib.ListN.{get_elem?}
use Rattle.wire_pump.specs.declared.message.WireMsg.{WireMsg}
use Rattle.wire_pump.specs.declared.message.WireMsg.TheVariants.{Frame, Last}
use Rattle.wire_pump.specs.declared.flow.Hand.{Hand}

-- ---- lists of messages

abbrev pub is_none : List WireMsg → Bool
is_none [] = true
is_none (message ∷ messages) = false

-- whether `Last` is among them
abbrev pub is_ended : List WireMsg → Bool
is_ended [] = false
is_ended (Frame frame ∷ messages) = is_ended messages
is_ended (Last ∷ messages) = true

-- `Last` stands in it once at most, and at the end
abbrev pub is_proper : List WireMsg → Bool
is_proper [] = true
is_proper (Frame frame ∷ messages) = is_proper messages
is_proper (Last ∷ messages) = is_none messages

-- ---- what the ends did

-- the end that may send, which sent these messages
abbrev pub sender : List WireMsg → Hand
sender sent = record { sends = true; receives = false; sent = sent; received = [] }

-- the end that may receive, which received these messages
abbrev pub receiver : List WireMsg → Hand
receiver received = record { sends = false; receives = true; sent = []; received = received }

-- both in one hand
abbrev pub both : List WireMsg → List WireMsg → Hand
both sent received = record { sends = true; receives = true; sent = sent; received = received }

-- a hand that has neither
abbrev pub neither : Hand
neither = record { sends = false; receives = false; sent = []; received = [] }

-- ---- the rule

-- the hand at a seat knows what it sent or received, where it is the one that may
pub record Knows (sending receiving : ℕ) (sent received : List WireMsg) (seat : ℕ) (hand : Hand) : Type 0 where
  pub sends : hand.sends ≡ true → (seat ≡ sending) × (hand.sent ≡ sent)
  pub receives : hand.receives ≡ true → (seat ≡ receiving) × (hand.received ≡ received)

-- the channel between any two steps: what is under way, and the hands by their seats
pub record IsFlow (under_way : List WireMsg) (hands : List Hand) : Type 0 where
  pub sent : List WireMsg
  pub received : List WireMsg
  pub sending : ℕ
  pub receiving : ℕ
  -- what was received, with what is under way, is what was sent: so received is a beginning of sent
  pub whole : sent ≡ received ++ under_way
  -- Last is sent once at most, and at the end
  pub proper : is_proper sent ≡ true
  pub each : (seat : ℕ) (hand : Hand) → get_elem? hands seat ≡ some hand → Knows sending receiving sent received seat hand

-- ---- the kinds of step

-- a message is sent
abbrev pub IsSent : Hand → WireMsg → Hand → Type 0
IsSent before message after = after ≡ sender (before.sent ++ message ∷ [])

-- a message is received
abbrev pub IsReceived : Hand → WireMsg → Hand → Type 0
IsReceived before message after = (after ≡ receiver (before.received ++ message ∷ [])) × (is_proper after.received ≡ true)

-- ---- what the rule says to the hand that has both ends

-- what it received, with what is under way, is what it sent
abbrev pub IsBeside : Hand → List WireMsg → Type 0
IsBeside hand under_way = (hand.sent ≡ hand.received ++ under_way) × (is_proper hand.sent ≡ true)
