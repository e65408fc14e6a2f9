-- What a decision says, part by part.
use Rattle.std.specs.Prelude.{◌≡◌, ℕ, List, ◌++◌, drop, length, Option, Some, None}
use Rattle.vfio_session.specs.declared.decision.Ask.{Ask}
use Rattle.vfio_session.specs.declared.decision.Ask.TheVariants.{Map, Arm}
use Rattle.vfio_session.specs.declared.decision.Fate.{Fate}
use Rattle.vfio_session.specs.declared.decision.Fate.TheVariants.{Closed, Memory, Vectors}
use Rattle.vfio_session.specs.declared.decision.Breach.{Breach}
use Rattle.vfio_session.specs.declared.decision.Decision.{Decision}
use Rattle.vfio_session.specs.declared.decision.Decision.TheVariants.{Answered, Asks, Ends}
use Rattle.vfio_session.specs.declared.owed.Owed.{Owed}

-- how many bytes the reply has that was laid
abbrev pub count_of : Decision → Option ℕ
count_of (Answered count) = count
count_of (Asks ask owed) = None
count_of (Ends breach) = None

-- what is asked
abbrev pub ask_of : Decision → Option Ask
ask_of (Answered count) = None
ask_of (Asks ask owed) = Some ask
ask_of (Ends breach) = None

-- the reply that is owed for it
abbrev pub owed_of : Decision → Option Owed
owed_of (Answered count) = None
owed_of (Asks ask owed) = Some owed
owed_of (Ends breach) = None

-- why the connection ends
abbrev pub breach_of : Decision → Option Breach
breach_of (Answered count) = None
breach_of (Asks ask owed) = None
breach_of (Ends breach) = Some breach

-- what becomes of the files that came with the message
abbrev pub fate_for : Ask → Fate
fate_for (Map mapping) = Memory
fate_for (Arm vectors) = Vectors vectors.first
fate_for _ = Closed

abbrev pub fate_of : Decision → Fate
fate_of (Answered count) = Closed
fate_of (Asks ask owed) = fate_for ask
fate_of (Ends breach) = Closed

-- the reply stands in front of the room, and the rest of the room is as it was; without a reply all of it is
abbrev pub Says : Option ℕ → List ℕ → List ℕ → Option (List ℕ) → Type 0
Says (Some count) old new (Some bytes) = (count ≡ length bytes) × (new ≡ bytes ++ drop count old)
Says None old new None = new ≡ old
Says _ old new _ = ⊥
