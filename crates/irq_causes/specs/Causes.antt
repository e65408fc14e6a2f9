-- Interrupt causes of one virtual function: four sets of its vectors 0 to 2, and the messages that a change issues.
-- A set is a number below 8, whose bit v is 1 where vector v is in it.
use Rattle.std.specs.Prelude.{ℕ, ◌%◌, ◌^◌, ◌||◌, nat_lt, bit_and, bit_or, if◌then◌else◌}
use Rattle.std.specs.Int.{bit_not, w8}
use Rattle.wire_frame.specs.Bits.{has_bit, with_bit}

-- the causes that stand (EICR), the vectors whose messages are enabled (EIMS), those whose cause stands no more once its
-- message is issued (EIAC), and those whose messages are enabled no more once one is issued (EIAM)
pub record CauseState : Type 0 where
  pub causes : ℕ
  pub enabled : ℕ
  pub auto_clear : ℕ
  pub auto_mask : ℕ

-- what a change leaves, and the vectors whose messages it issued
pub record Change (S : Type 0) : Type 0 where
  pub state : S
  pub messages : ℕ

abbrev pub no_causes : CauseState
no_causes = record { causes = 0; enabled = 0; auto_clear = 0; auto_mask = 0 }

-- the vectors that a word of a register names: its low three bits
abbrev pub vectors_in : ℕ → ℕ
vectors_in word = word % 8

-- the vectors of one set that are not in the other
infixl 10 ◌without◌
abbrev pub ◌without◌ : ℕ → ℕ → ℕ
a without b = bit_and a (bit_not w8 b)

-- vector v joins the causes, leaves them, is enabled, is enabled no more
abbrev pub with_cause : CauseState → ℕ → CauseState
with_cause c v = record c { causes = with_bit c.causes v }

abbrev pub without_cause : CauseState → ℕ → CauseState
without_cause c v = record c { causes = c.causes without 2 ^ v }

abbrev pub with_enabled : CauseState → ℕ → CauseState
with_enabled c v = record c { enabled = with_bit c.enabled v }

abbrev pub without_enabled : CauseState → ℕ → CauseState
without_enabled c v = record c { enabled = c.enabled without 2 ^ v }

-- no message
abbrev pub silent : {S : Type 0} → S → Change S
silent s = record { state = s; messages = 0 }

-- the message of vector v alone, which is enabled no more if it is masked automatically (82599 datasheet, extended interrupt
-- auto mask enable)
unfoldable pub issued : CauseState → ℕ → Change CauseState
issued c v = record { state = if has_bit c.auto_mask v then without_enabled c v else c; messages = 2 ^ v }

-- Cause v is raised. There is no vector above 2, and a cause that stands already changes nothing. Else one that is not
-- enabled joins the causes, and one that is enabled issues its message, and joins the causes unless it is cleared
-- automatically.
unfoldable pub raised : CauseState → ℕ → Change CauseState
raised c v = if nat_lt 2 v || has_bit c.causes v then silent c
    else (if has_bit c.enabled v
    then issued (if has_bit c.auto_clear v then c else with_cause c v) v
    else silent (with_cause c v))

-- Vector v is enabled. One that is enabled already changes nothing. Else one whose cause stands issues its message, and
-- leaves the causes if it is cleared automatically.
unfoldable pub unmasked : CauseState → ℕ → Change CauseState
unmasked c v = if has_bit c.enabled v then silent c
    else (if has_bit c.causes v
    then issued (with_enabled (if has_bit c.auto_clear v then without_cause c v else c) v) v
    else silent (with_enabled c v))

-- one change and then another: the messages are those of both
infixl 10 ◌and_then◌
abbrev pub ◌and_then◌ : Change CauseState → (CauseState → Change CauseState) → Change CauseState
first and_then next = record { state = (next first.state).state; messages = bit_or first.messages (next first.state).messages }

-- cause v is raised, vector v is enabled, where the word names it
abbrev pub raised_in : ℕ → ℕ → CauseState → Change CauseState
raised_in word v c = if has_bit word v then raised c v else silent c

abbrev pub unmasked_in : ℕ → ℕ → CauseState → Change CauseState
unmasked_in word v c = if has_bit word v then unmasked c v else silent c

-- a write of EICS: each cause that the word names is raised, in rising order
unfoldable pub all_raised : CauseState → ℕ → Change CauseState
all_raised c word = raised_in word 0 c and_then raised_in word 1 and_then raised_in word 2

-- a write of EIMS: each vector that the word names is enabled, in rising order
unfoldable pub all_unmasked : CauseState → ℕ → Change CauseState
all_unmasked c word = unmasked_in word 0 c and_then unmasked_in word 1 and_then unmasked_in word 2

-- a write of EIMC: the vectors that the word names are enabled no more
abbrev pub masked : CauseState → ℕ → CauseState
masked c word = record c { enabled = c.enabled without vectors_in word }

-- a write of EIAC: the vectors that the word names, and no others, are cleared automatically
abbrev pub auto_clearing : CauseState → ℕ → CauseState
auto_clearing c word = record c { auto_clear = vectors_in word }

-- a write of EIAM: the vectors that the word names, and no others, are masked automatically
abbrev pub auto_masking : CauseState → ℕ → CauseState
auto_masking c word = record c { auto_mask = vectors_in word }

-- a write of EICR: the causes that the word names stand no more
abbrev pub cleared : CauseState → ℕ → CauseState
cleared c word = record c { causes = c.causes without vectors_in word }

-- a read of EICR, which gives the causes: none stands any more
abbrev pub emptied : CauseState → CauseState
emptied c = record c { causes = 0 }

-- an entry of VTIVAR raises the cause of the vector in its bits 1:0, where bit 7 is 1
unfoldable pub raised_by : CauseState → ℕ → Change CauseState
raised_by c entry = if has_bit entry 7 then raised c (entry % 4) else silent c
