-- What a card does besides messages: it takes descriptors of busy queues, takes frames from the wire, and hands vectors out.
use Rattle.std.specs.Prelude.{◌≡◌, ◌⊎◌, ℕ, ◌+◌, ◌*◌, ◌≤◌, ◌||◌, Bool, true, false, List, Result, Ok, Err, bit_and, slice_index_or, slice_set}
use Rattle.irq_causes.specs.Messages.{both}
use Rattle.vf_unit.specs.declared.registers.Queue.{Queue}
use Rattle.vf_unit.specs.declared.registers.Queue.TheVariants.{Q0, Q1}
use Rattle.live_run.specs.Arrivals.{IsWireBurst}
use Rattle.live_run.specs.Bursts.{IsBurst}
use Rattle.live_run.specs.Frames.{FramesState, has_room}
use Rattle.live_run.specs.declared.bursts.Burst.{Burst}
use Rattle.live_run.specs.declared.wire_bursts.WireBurst.{WireBurst}
use Rattle.wire_frame.specs.declared.fault.Fault.{Fault}
use Rattle.device.specs.declared.event.Answer.{Answer}
use Rattle.device.specs.declared.event.Reply.TheVariants.{Done}
use Rattle.device.specs.Outcome.{messages_or_refused}
use Rattle.card.specs.Card.{CardState, EndState, end_at}
use Rattle.card.specs.declared.serving.WireCount.{WireCount}

-- ---- descriptors

-- how many descriptors of a queue one call takes at most
abbrev pub MOST_SERVICES : ℕ
MOST_SERVICES = 128

abbrev pub busy_of : EndState → Queue → Bool
busy_of e Q0 = e.busy_0
busy_of e Q1 = e.busy_1

abbrev pub with_busy : EndState → Queue → Bool → EndState
with_busy e Q0 b = record e { busy_0 = b }
with_busy e Q1 b = record e { busy_1 = b }

-- a burst of the queue was done, and all of its messages are among those that wait
pub record IsServed (shared : Bool) (p : ℕ) (q : Queue) (old : CardState) (room : FramesState) (new : CardState) (filled : FramesState) : Type 0 where
  pub done : Burst
  pub burst : IsBurst shared p q old.hosted.device room new.hosted.device filled done
  pub most : done.taken ≤ MOST_SERVICES
  -- it ended since the queue has no more, or for one of these reasons
  pub why : done.goes_on ≡ true → (done.taken ≡ MOST_SERVICES) ⊎ (has_room filled ≡ false)
  pub host : new.hosted.host ≡ old.hosted.host
  pub mailboxes : new.hosted.mailboxes ≡ old.hosted.mailboxes
  pub ends : new.ends ≡ slice_set old.ends p (with_busy (end_at old p) q done.goes_on)
  pub raised : new.raised ≡ both old.raised done.messages

-- nothing was done
pub record IsLeft (old : CardState) (room : FramesState) (new : CardState) (filled : FramesState) : Type 0 where
  pub card : new ≡ old
  pub frames : filled ≡ room

-- the one where the queue is busy, the other where it isn't
abbrev pub IsServedIfBusy : Bool → Bool → ℕ → Queue → CardState → FramesState → CardState → FramesState → Type 0
IsServedIfBusy true shared p q old room new filled = IsServed shared p q old room new filled
IsServedIfBusy false shared p q old room new filled = IsLeft old room new filled

-- first queue 0, then queue 1
pub record AreServed (shared : Bool) (p : ℕ) (old : CardState) (room : FramesState) (new : CardState) (filled : FramesState) : Type 0 where
  pub between : CardState
  pub half : FramesState
  pub first : IsServedIfBusy (end_at old p).busy_0 shared p Q0 old room between half
  pub second : IsServedIfBusy (end_at between p).busy_1 shared p Q1 between half new filled

abbrev pub is_busy : EndState → Bool
is_busy e = e.busy_0 || e.busy_1

-- ---- frames from the wire

-- the messages of a frame that was taken are among those that wait; a frame that is refused raises none
abbrev pub RaisedOrRefused : {X : Type 0} → Result X Fault → List ℕ → List ℕ → Answer → Type 0
RaisedOrRefused (Ok x) old new answer = (answer.reply ≡ Done) × (new ≡ both old answer.raised)
RaisedOrRefused (Err fault) old new answer = (answer ≡ messages_or_refused (Err fault)) × (new ≡ old)

-- frames came one after another, by where they lie and end, and the messages of all are among those that wait
pub record AreWired (shared : Bool) (ends_at bytes : List ℕ) (old new : CardState) (count : WireCount) : Type 0 where
  pub done : WireBurst
  pub burst : IsWireBurst shared old.hosted.device ends_at bytes new.hosted.device done
  pub taken : count.taken ≡ done.taken
  pub refused : count.refused ≡ done.refused
  pub host : new.hosted.host ≡ old.hosted.host
  pub mailboxes : new.hosted.mailboxes ≡ old.hosted.mailboxes
  pub ends : new.ends ≡ old.ends
  pub raised : new.raised ≡ both old.raised done.messages

-- ---- vectors

-- the set of all three vectors
abbrev pub ALL_VECTORS : ℕ
ALL_VECTORS = 7

-- the vectors that have a file, as a set: bit v is 1 where vector v has one
abbrev pub bit_for : Bool → ℕ
bit_for true = 1
bit_for false = 0

abbrev pub armed_set : List Bool → ℕ
armed_set armed = bit_for (slice_index_or armed 0 false) + 2 * bit_for (slice_index_or armed 1 false) + 4 * bit_for (slice_index_or armed 2 false)

-- a vector that has no file is not signalled
abbrev pub signalled : ℕ → List Bool → ℕ
signalled raised armed = bit_and raised (armed_set armed)
