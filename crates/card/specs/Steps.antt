-- What a step says, part by part.
use Rattle.std.specs.Prelude.{ℕ, Option, Some, None}
use Rattle.vfio_session.specs.declared.decision.Breach.{Breach}
use Rattle.vfio_session.specs.declared.decision.Fate.{Fate}
use Rattle.vfio_session.specs.declared.decision.Fate.TheVariants.{Closed, Memory, Vectors}
use Rattle.vfio_session.specs.declared.owed.Owed.{Owed}
use Rattle.card.specs.declared.step.Order.{Order}
use Rattle.card.specs.declared.step.Order.TheVariants.{Map, Unmap, Arm, Disarm}
use Rattle.card.specs.declared.step.Step.{Step}
use Rattle.card.specs.declared.step.Step.TheVariants.{Answered, Asks, Ends}

-- how many bytes the reply has that was laid
abbrev pub count_in : Step → Option ℕ
count_in (Answered count) = count
count_in (Asks order owed) = None
count_in (Ends breach) = None

-- what is left to the shell
abbrev pub order_in : Step → Option Order
order_in (Answered count) = None
order_in (Asks order owed) = Some order
order_in (Ends breach) = None

-- the reply that is owed for it
abbrev pub owed_in : Step → Option Owed
owed_in (Answered count) = None
owed_in (Asks order owed) = Some owed
owed_in (Ends breach) = None

-- why the connection ends
abbrev pub breach_in : Step → Option Breach
breach_in (Answered count) = None
breach_in (Asks order owed) = None
breach_in (Ends breach) = Some breach

-- what becomes of the files that came with the message
abbrev pub fate_for : Order → Fate
fate_for (Map mapping) = Memory
fate_for (Unmap range) = Closed
fate_for (Arm vectors) = Vectors vectors.first
fate_for (Disarm vectors) = Closed

abbrev pub fate_in : Step → Fate
fate_in (Answered count) = Closed
fate_in (Asks order owed) = fate_for order
fate_in (Ends breach) = Closed
