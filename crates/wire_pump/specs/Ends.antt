-- What contracts see of the ends of a channel.
use Rattle.std.specs.Prelude.{◌≡◌, ℕ, ◌+◌, ◌≤◌, ⊤, Bool, true, false, Option, Some, List, [], ◌∷◌, ◌++◌, map, take}
use Rattle.atomic_table.specs.Seated.{TableId}
use Rattle.atomic_table.specs.declared.badge.Badge.{Badge}
use Rattle.crossbeam_channel.specs.Claims.{Pass, view}
use Rattle.crossbeam_channel.specs.declared.flavors.array.Key.{Key}
use Rattle.device.specs.Events.{Event}
use Rattle.device.specs.declared.event.Event.TheVariants.{Wire}
use Rattle.recorder.specs.Callers.{is_frame}
use Rattle.wire_pump.specs.declared.message.WireMsg.{WireMsg}
use Rattle.wire_pump.specs.declared.message.WireMsg.TheVariants.{Frame, Last as LastMsg}
use Rattle.wire_pump.specs.declared.flow.Hand.{Hand}
use Rattle.wire_pump.specs.declared.feeding.FeedEnd.{FeedEnd}
use Rattle.wire_pump.specs.declared.feeding.FeedEnd.TheVariants.{All, Gone}
use Rattle.wire_pump.specs.declared.pumping.PumpEnd.{PumpEnd}
use Rattle.wire_pump.specs.declared.pumping.PumpEnd.TheVariants.{Last, Full, Gone as SenderGone}
use Rattle.wire_pump.specs.Pump.{is_proper}

-- one of the two ways of a channel
pub record Way : Type 0 where
  pub table : TableId
  pub key : Badge (Key WireMsg)

abbrev pub way_of : Pass WireMsg Hand → Way
way_of pass = record { table = pass.table_id; key = pass.me.0.of }

-- which channel it is: the way of its messages, and the way on which boxes come back
pub record Channel : Type 0 where
  pub forth : Way
  pub back : Way

abbrev pub channel_of : Pass WireMsg Hand → Pass WireMsg Hand → Channel
channel_of forth back = record { forth = way_of forth; back = way_of back }

-- what the holder of a pass did
abbrev pub hand_of : Pass WireMsg Hand → Hand
hand_of pass = view pass

-- the end that sends: its channel, how many messages that holds, and what was sent
pub record SendEnd : Type 0 where
  pub channel : Channel
  pub capacity : ℕ
  pub sent : List WireMsg
  -- how many boxes are there to be filled
  pub boxes : ℕ
  -- the frames whose boxes came back, in order
  pub came_back : List WireMsg

-- an end that sent more messages, whatever came back meanwhile
abbrev pub HasSent : List WireMsg → SendEnd → SendEnd → Type 0
HasSent messages old new = new ≡ record old { sent = old.sent ++ messages; boxes = new.boxes; came_back = new.came_back }

-- how many of the messages are frames
abbrev pub count_frames : List WireMsg → ℕ
count_frames [] = 0
count_frames (Frame frame ∷ messages) = count_frames messages + 1
count_frames (LastMsg ∷ messages) = count_frames messages

-- none of the 66 boxes is lost here: each that went out came back, or has not yet
abbrev pub HasAllBoxes : SendEnd → Type 0
HasAllBoxes end = end.boxes + count_frames end.sent ≡ 66 + count_frames end.came_back

-- the end that receives: its channel, and what was received
pub record ReceiveEnd : Type 0 where
  pub channel : Channel
  pub received : List WireMsg
  -- the frames whose boxes it gave back to be filled again, in order
  pub given : List WireMsg
  -- a box could not be given back, since the end that sends is gone
  pub is_alone : Bool

-- all boxes of a channel: those to be filled, those under way and on their way back, and those of frames that were received, of
-- which these were given back
abbrev pub AreAllBoxes : ℕ → List WireMsg → List WireMsg → ReceiveEnd → Type 0
AreAllBoxes boxes under_way back_way end = boxes + count_frames under_way + count_frames back_way + count_frames end.received ≡ 66 + count_frames end.given

-- an end that received more messages, whatever it gave back meanwhile
abbrev pub HasReceived : List WireMsg → ReceiveEnd → ReceiveEnd → Type 0
HasReceived messages old new = new ≡ record old { received = old.received ++ messages; given = new.given; is_alone = new.is_alone }

-- an end that gave the boxes of these frames back, unless the other end is gone
abbrev pub HasGivenBack : List WireMsg → ReceiveEnd → ReceiveEnd → Type 0
HasGivenBack frames old new = new.is_alone ≡ false → new.given ≡ old.given ++ frames

-- ---- events from the wire

-- whether an event is a frame that comes from the wire
abbrev pub is_wire : Event → Bool
is_wire event = is_frame event

-- the frame of such an event
abbrev pub frame_in : Event → List ℕ
frame_in (Wire frame) = frame
frame_in _ = []

-- ---- how a feed and a pump end

-- what a feed sent
abbrev pub fed : List (List ℕ) → FeedEnd → List WireMsg
fed frames All = map Frame frames ++ LastMsg ∷ []
fed frames (Gone sent) = map Frame (take sent frames)

-- the number of frames that a feed says it sent is no more than it had
abbrev pub IsCounted : ℕ → FeedEnd → Type 0
IsCounted count All = ⊤
IsCounted count (Gone sent) = sent ≤ count

-- what a pump received: the frames that the door took, and after them `Last`, or the one that it did not take
abbrev pub pumped : List (List ℕ) → PumpEnd → List WireMsg
pumped frames Last = map Frame frames ++ LastMsg ∷ []
pumped frames (Full event) = map Frame frames ++ Frame (frame_in event) ∷ []
pumped frames SenderGone = map Frame frames

-- the frames among what a pump received: those that the door took, and the one that it did not take
abbrev pub emptied : List (List ℕ) → PumpEnd → List WireMsg
emptied frames Last = map Frame frames
emptied frames (Full event) = map Frame frames ++ Frame (frame_in event) ∷ []
emptied frames SenderGone = map Frame frames

-- a pump is full where its door refused the event that the pump hands back, and took none since
abbrev pub IsRefused : PumpEnd → Option Event → Type 0
IsRefused Last refused = ⊤
IsRefused (Full event) refused = refused ≡ Some event
IsRefused SenderGone refused = ⊤

-- after `Last` nothing is sent: what was received is the only list that begins with it and may have been sent
abbrev pub IsAll : List WireMsg → PumpEnd → Type 0
IsAll received Last = (more : List WireMsg) → is_proper (received ++ more) ≡ true → more ≡ []
IsAll received (Full event) = ⊤
IsAll received SenderGone = ⊤

-- the event that a door did not take is a frame from the wire
abbrev pub IsFromWire : PumpEnd → Type 0
IsFromWire Last = ⊤
IsFromWire (Full event) = is_wire event ≡ true
IsFromWire SenderGone = ⊤
