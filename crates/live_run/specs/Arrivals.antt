-- Frames from the wire one after another, in one call.
use Rattle.std.specs.Prelude.{◌≡◌, ℕ, ◌+◌, ◌&&◌, Bool, nat_le, List, [], ◌∷◌, filter, length, map, slice_range, if◌then◌else◌}
use Rattle.wire_frame.specs.Frame.{is_frame}
use Rattle.irq_causes.specs.Messages.{both, no_messages}
use Rattle.device.specs.Accesses.{accesses_by}
use Rattle.device.specs.Events.{Event}
use Rattle.device.specs.declared.event.Answer.{Answer}
use Rattle.device.specs.declared.event.Event.TheVariants.{Wire}
use Rattle.device.specs.Live.{TracedWorld, told_world, AreListed, AreMet}
use Rattle.device.specs.Replies.{is_done}
use Rattle.device.specs.World.{step}
use Rattle.live_run.specs.Bursts.{united}
use Rattle.live_run.specs.Live.{IsLiveRun}
use Rattle.live_run.specs.declared.wire_bursts.WireBurst.{WireBurst}

-- ---- where the frames lie

-- the bytes from a place to an end: none, where that is before it or past them all
abbrev pub cut : List ℕ → ℕ → ℕ → List ℕ
cut bytes start end = if nat_le start end && nat_le end (length bytes) then slice_range bytes start end else []

-- what lies behind one another in bytes: the first begins at a place, and each other where the one before it ends
unfoldable pub cuts : ℕ → List ℕ → List ℕ → List (List ℕ)
cuts start [] bytes = []
cuts start (end ∷ ends) bytes = cut bytes start end ∷ cuts end ends bytes

-- those of them that are frames, and that each of these comes from the wire
unfoldable pub arrivals : List ℕ → List ℕ → List Event
arrivals ends bytes = map Wire (filter (is_frame 9018) (cuts 0 ends bytes))

-- ---- what came of them

-- one frame came: it is an event, whose messages join those before
pub record IsArrival (shared : Bool) (frame : List ℕ) (old new : TracedWorld) (before after : List ℕ) (is_taken : Bool) : Type 0 where
  pub world : new.world ≡ (step (told_world old.accesses new.accesses old.world) (Wire frame)).world
  pub met : AreMet shared old.accesses new.accesses old.world
  pub listed : AreListed (accesses_by (told_world old.accesses new.accesses old.world) (Wire frame)) old.accesses new.accesses
  pub messages : after ≡ both before (step (told_world old.accesses new.accesses old.world) (Wire frame)).answer.raised
  pub taken : is_taken ≡ is_done (step (told_world old.accesses new.accesses old.world) (Wire frame)).answer.reply

-- of so many frames the device took
unfoldable pub how_many_taken : List Answer → ℕ
how_many_taken [] = 0
how_many_taken (a ∷ rest) = (if is_done a.reply then 1 else 0) + how_many_taken rest

-- all came, each in the world that it met, with all their messages; those that were not taken were refused, and so was what is no frame
pub record IsWireBurst (shared : Bool) (old : TracedWorld) (ends bytes : List ℕ) (new : TracedWorld) (done : WireBurst) : Type 0 where
  pub answers : List Answer
  pub run : IsLiveRun shared old (arrivals ends bytes) answers new
  pub raised : done.messages ≡ united no_messages answers
  pub taken : done.taken ≡ how_many_taken answers
  pub refused : done.taken + done.refused ≡ length ends
