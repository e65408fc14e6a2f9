-- Services of a queue one after another, in one call.
use Rattle.std.specs.Prelude.{◌≡◌, ℕ, Bool, true, false, List, [], ◌∷◌, replicate}
use Rattle.std.specs.List.{cons_option}
use Rattle.irq_causes.specs.Messages.{both, no_messages}
use Rattle.vf_unit.specs.declared.registers.Queue.{Queue}
use Rattle.device.specs.Events.{Event}
use Rattle.device.specs.declared.event.Event.TheVariants.{Serve}
use Rattle.device.specs.declared.event.Reply.{Reply as ReplyOf}
use Rattle.device.specs.declared.event.Reply.TheVariants.{More, Sent, Dropped}
use Rattle.device.specs.declared.event.Answer.{Answer}
use Rattle.device.specs.Live.{TracedWorld, told_world}
use Rattle.device.specs.Outcome.{left_by}
use Rattle.device.specs.World.{World, step}
use Rattle.live_run.specs.Frames.{FramesState, with_frames}
use Rattle.live_run.specs.Live.{Noted, IsLiveRun}
use Rattle.live_run.specs.declared.bursts.Burst.{Burst}

-- so many services of a queue
abbrev pub services : ℕ → ℕ → Queue → List Event
services n p q = replicate n (Serve p q)

-- the messages of all answers, with those that were there before
unfoldable pub united : List ℕ → List Answer → List ℕ
united raised [] = raised
united raised (a ∷ rest) = united (both raised a.raised) rest

-- the frames that leave for the wire, in order: of each event in the world in which it is taken
unfoldable pub live_left : World → Noted → List Event → List Noted → List (List ℕ)
live_left w b [] ts = []
live_left w b (e ∷ es) [] = []
live_left w b (e ∷ es) (t ∷ ts) = cons_option (left_by (told_world b t w) e) (live_left (step (told_world b t w) e).world t es ts)

-- after this reply the queue may have more
abbrev pub goes_on : {B E : Type 0} → ReplyOf B E → Bool
goes_on More = true
goes_on Sent = true
goes_on Dropped = true
goes_on _ = false

-- and after the last of these answers; nothing is known before the first
unfoldable pub may_have_more : List Answer → Bool
may_have_more [] = true
may_have_more (a ∷ []) = goes_on a.reply
may_have_more (a ∷ b ∷ rest) = may_have_more (b ∷ rest)

-- a burst is a run of that many services, with all their messages, and with the frames that left behind those that stood in the room
pub record IsBurst (shared : Bool) (p : ℕ) (q : Queue) (old : TracedWorld) (room : FramesState) (new : TracedWorld) (filled : FramesState) (done : Burst) : Type 0 where
  pub answers : List Answer
  pub run : IsLiveRun shared old (services done.taken p q) answers new
  pub raised : done.messages ≡ united no_messages answers
  pub left : filled ≡ with_frames room (live_left old.world old.accesses (services done.taken p q) run.noted)
  pub more : done.goes_on ≡ may_have_more answers
