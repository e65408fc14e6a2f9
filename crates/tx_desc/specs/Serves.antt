-- What a step of a queue does whose driver leaves work to the card.
use Rattle.std.specs.Prelude.{◌≡◌, ℕ, List}
use Rattle.rings.specs.Ring.{RingState}
use Rattle.tx_desc.specs.declared.outcome.Turn.{Turn}
use Rattle.tx_desc.specs.declared.outcome.Ending.{Ending}
use Rattle.tx_desc.specs.declared.sending.Sending.{Sending}
use Rattle.tx_desc.specs.Offloaded.{Step, Serving}
use Rattle.tx_desc.specs.Lent.{fetched_in, lent_after}

-- the call did what is due: it answered `turn`, and left these bytes in memory, this state of the ring and what is being sent; the
-- lent frame was `lent`, and is `filled` now
pub record Serves (due : Serving) (turn : Turn) (bytes : List ℕ) (state : RingState) (left : Sending) (lent filled : List ℕ) : Type 0 where
  pub outcome : fetched_in turn.outcome filled ≡ due.outcome
  pub frame : filled ≡ lent_after due.outcome lent
  pub reported : turn.reported ≡ due.reported
  pub falls_short : turn.falls_short ≡ due.falls_short
  pub memory : bytes ≡ due.memory
  pub ring : state ≡ due.ring
  pub sending : left ≡ due.sending

-- the same of the part of it that accesses no memory
pub record Ends (due : Step) (ending : Ending) (left : Sending) (lent filled : List ℕ) : Type 0 where
  pub outcome : fetched_in ending.outcome filled ≡ due.outcome
  pub frame : filled ≡ lent_after due.outcome lent
  pub is_done : ending.is_done ≡ due.is_done
  pub falls_short : ending.falls_short ≡ due.falls_short
  pub sending : left ≡ due.sending
