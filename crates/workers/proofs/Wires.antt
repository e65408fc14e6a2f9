-- The own events of the pump are frames.
use Rattle.std.proofs.Common.{◌≡◌, ℕ, ◌<◌, ◌≤◌, ◌+◌, Bool, true, false, List, [], ◌∷◌, ◌++◌, length, map, take, refl, sym, ap, ◌∙◌, subst}
use Rattle.std.specs.Prelude.{slice_index_or}
use Rattle.std.specs.List.{AllByRecursion}
use Rattle.std.proofs.lemmas.Bool.{false≢true}
use Rattle.std.proofs.lemmas.List.{append_assoc, get_or-map, length-map, map-append, take_all, take_more}
use Rattle.std.proofs.lemmas.List.Elements.{All-from_get_or, recursion_from_All}
use Rattle.device.specs.Request.{event_of}
use Rattle.device.specs.Request.{Request}
use Rattle.device.specs.Events.{Event}
use Rattle.device.specs.declared.event.Event.TheVariants.{PfReset, Wire}
use Rattle.device.specs.declared.event.Whose.{Whose}
use Rattle.device.specs.declared.event.Whose.TheVariants.{Function, Physical, Wire as TheWire}
use Rattle.device.specs.Whose.{whose_of}
use Rattle.device.proofs.Owners.{whose_asked}
use Rattle.history.specs.declared.caller.Caller.{Caller}
use Rattle.history.specs.declared.caller.Caller.TheVariants.{Driver, Pump, Service}
use Rattle.recorder.specs.Callers.{is_of_wire}
use Rattle.recorder.specs.Held.{HasAsked, CallerLog}
use Rattle.wire_pump.specs.declared.feeding.FeedEnd.{FeedEnd}
use Rattle.wire_pump.specs.declared.message.WireMsg.TheVariants.{Frame, Last}
use Rattle.wire_pump.specs.declared.message.WireMsg.{WireMsg}
use Rattle.wire_pump.specs.declared.pumping.PumpEnd.{PumpEnd}
use Rattle.wire_pump.specs.Ends.{ReceiveEnd, SendEnd, HasReceived, fed, frame_in, is_wire, pumped}
use Rattle.wire_pump.specs.Pump.{is_ended}
use Rattle.workers.specs.Callers.{caller_among, caller_of, is_of_host}
use Rattle.workers.specs.declared.worker.Came.{Came}
use Rattle.workers.specs.Duties.{Duty, HaveDone, OfShare}
use Rattle.workers.specs.Frames.{came_by, frames_of}
use Rattle.workers.specs.Pair.{AreNew, HasPumped, HasRead}
use Rattle.workers.specs.Plans.{Planned, own_events}
use Rattle.workers.proofs.Turns.{apart, not_port, own_at}
use Rattle.workers.proofs.Whose.{a_frame}
use Rattle.workers.proofs.Worked.{one_done}

abbrev pub IsWire : Event → Type 0
IsWire e = e ≡ Wire (frame_in e)

a_wire : (e : Event) → is_wire e ≡ true → IsWire e
a_wire e is = let (frame, same) = a_frame e is in same ∙ ap Wire (sym (ap frame_in same))

from_wire : (ports : List Bool) (e : Event) → caller_of ports e ≡ Pump → IsWire e
from_wire ports e is = a_wire e (go (is_of_host e) (whose_of e) is)
  where
    go : (of_host : Bool) (whose : Whose) → caller_among ports of_host whose ≡ Pump → is_of_wire whose ≡ true
    go true (Function q) by = absurd (apart Service Pump refl by)
    go false (Function q) by = absurd (apart Pump Service refl (not_port ports q Pump refl by))
    go of_host Physical by = absurd (apart Driver Pump refl by)
    go of_host TheWire by = refl

frames_all : (es : List Event) → AllByRecursion IsWire es → frames_of es ≡ map frame_in es
frames_all [] all = refl
frames_all (e ∷ es) all = ap (λ (x : Event). frames_of (x ∷ es)) all.0 ∙ ap (λ (fs : List (List ℕ)). frame_in e ∷ fs) (frames_all es all.1)

own_all : (plan : Planned) → AllByRecursion IsWire (own_events plan Pump)
own_all plan = recursion_from_All IsWire (own_events plan Pump) (All-from_get_or IsWire (own_events plan Pump) PfReset (λ i less. from_wire plan.ports _ (own_at plan Pump i less)))

own_frames : (plan : Planned) → frames_of (own_events plan Pump) ≡ map frame_in (own_events plan Pump)
own_frames plan = frames_all (own_events plan Pump) (own_all plan)

wires_again : (es : List Event) → AllByRecursion IsWire es → map Wire (map frame_in es) ≡ es
wires_again [] all = refl
wires_again (e ∷ es) all = (λ i. sym all.0 i ∷ wires_again es all.1 i)

-- the pump's own events are all of frames
pub own_wire : (plan : Planned) → map Wire (frames_of (own_events plan Pump)) ≡ own_events plan Pump
own_wire plan = ap (map Wire) (own_frames plan) ∙ wires_again (own_events plan Pump) (own_all plan)

pub frames_count : (plan : Planned) → length (frames_of (own_events plan Pump)) ≡ length (own_events plan Pump)
frames_count plan = ap length (own_frames plan) ∙ length-map (own_events plan Pump) frame_in

pub frame_at : (plan : Planned) (turn : ℕ) (frame : List ℕ) → turn < length (own_events plan Pump) → Wire frame ≡ slice_index_or (own_events plan Pump) turn PfReset
    → frame ≡ slice_index_or (frames_of (own_events plan Pump)) turn []
frame_at plan turn frame less is =
    ap frame_in is ∙ sym (get_or-map frame_in (own_events plan Pump) turn PfReset [] less) ∙ ap (λ (fs : List (List ℕ)). slice_index_or fs turn []) (sym (own_frames plan))

no_other : (plan : Planned) (turn : ℕ) (e : Event) → turn < length (own_events plan Pump) → e ≡ slice_index_or (own_events plan Pump) turn PfReset → IsWire e
no_other plan turn e less is = subst IsWire (sym is) (from_wire plan.ports _ (own_at plan Pump turn less))

-- a request of a frame from the wire is none of the others
other_request : (r : Request) → is_wire (event_of r) ≡ true → ((frame : _) → r ≡ Wire frame → ⊥) → ⊥
other_request r is other = let (frame, same) = a_frame r (ap is_of_wire (whose_asked r) ∙ is) in other frame same

pub only_frames : (plan : Planned) (turn : ℕ) (r : Request) → turn < length (frames_of (own_events plan Pump)) → event_of r ≡ slice_index_or (own_events plan Pump) turn PfReset
    → ((frame : _) → r ≡ Wire frame → ⊥) → ⊥
only_frames plan turn r less is other =
    other_request r (ap is_wire (no_other plan turn (event_of r) (subst (λ (n : ℕ). turn < n) (frames_count plan) less) is)) other

-- ---- what is sent of them

pub sent_more : (before old new : List WireMsg) (frames : List (List ℕ)) (k : ℕ) (frame : List ℕ) → k < length frames → frame ≡ slice_index_or frames k []
    → old ≡ before ++ map Frame (take k frames) → new ≡ old ++ Frame frame ∷ [] → new ≡ before ++ map Frame (take (k + 1) frames)
sent_more before old new frames k frame less is so_far more =
    more ∙ (λ i. so_far i ++ Frame (is i) ∷ [])
    ∙ append_assoc before (map Frame (take k frames)) (Frame (slice_index_or frames k []) ∷ [])
    ∙ ap (λ (xs : List WireMsg). before ++ xs) (sym (map-append Frame (take k frames) (slice_index_or frames k [] ∷ [])))
    ∙ ap (λ (fs : List (List ℕ)). before ++ map Frame fs) (sym (take_more frames k [] less))

pub sent_all : (before old new : List WireMsg) (frames : List (List ℕ)) (k : ℕ) → length frames ≤ k
    → old ≡ before ++ map Frame (take k frames) → new ≡ old ++ Last ∷ [] → new ≡ before ++ (map Frame frames ++ Last ∷ [])
sent_all before old new frames k end so_far more =
    more ∙ ap (λ (xs : List WireMsg). xs ++ Last ∷ []) so_far ∙ append_assoc before (map Frame (take k frames)) (Last ∷ [])
    ∙ ap (λ (fs : List (List ℕ)). before ++ (map Frame fs ++ Last ∷ [])) (take_all k frames end)

-- ---- what was sent is what was received, once `Last` was

ended_all : (frames : List (List ℕ)) → is_ended (map Frame frames ++ Last ∷ []) ≡ true
ended_all [] = refl
ended_all (f ∷ frames) = ended_all frames

never_ended : (frames : List (List ℕ)) → is_ended (map Frame frames) ≡ false
never_ended [] = refl
never_ended (f ∷ frames) = never_ended frames

-- the frames among messages
abbrev frames_in : List WireMsg → List (List ℕ)
frames_in [] = []
frames_in (Frame f ∷ messages) = f ∷ frames_in messages
frames_in (Last ∷ messages) = frames_in messages

frames_back : (frames : List (List ℕ)) → frames_in (map Frame frames ++ Last ∷ []) ≡ frames
frames_back [] = refl
frames_back (f ∷ frames) = ap (λ (fs : List (List ℕ)). f ∷ fs) (frames_back frames)

-- a feed that sent what ends with `Last` sent all its frames, and these are the ones received
same_frames : (all frames : List (List ℕ)) (end : FeedEnd) → fed all end ≡ map Frame frames ++ Last ∷ [] → frames ≡ all
same_frames all frames FeedEnd.All is = sym (frames_back frames) ∙ (sym (ap frames_in is) ∙ frames_back all)
same_frames all frames (FeedEnd.Gone sent) is = absurd (false≢true (sym (never_ended (take sent all)) ∙ (ap is_ended is ∙ ended_all frames)))

-- ---- the pump and the reader

abbrev is_last : Came → Bool
is_last Came.Last = true
is_last _ = false

full_not_last : Came.Full ≡ Came.Last → ⊥
full_not_last is = false≢true (ap is_last is)

gone_not_last : Came.Gone ≡ Came.Last → ⊥
gone_not_last is = false≢true (ap is_last is)

pub has_pumped : (frames : List (List ℕ)) (end : PumpEnd) (share left : CallerLog) (old new : ReceiveEnd) → share.caller ≡ Pump → came_by end ≡ Came.Last → HasReceived (pumped frames end) old new
    → HasAsked (map Wire frames) (record share { caller = Pump }) left → HasPumped share left old new
has_pumped frames PumpEnd.Last share left old new is came received asked = record {
  frames = frames;
  received = received;
  asked = subst (λ (c : Caller). HasAsked (map Wire frames) (record share { caller = c }) left) (sym is) asked;
}
has_pumped frames (PumpEnd.Full event) share left old new is came received asked = absurd (full_not_last came)
has_pumped frames PumpEnd.Gone share left old new is came received asked = absurd (gone_not_last came)

-- the ends are of one channel still
pub one_channel : (plan : Planned) (share left : CallerLog) (sender sent : SendEnd) (receiver received : ReceiveEnd) → AreNew sender receiver → HasRead plan sender sent → HasPumped share left receiver received → received.channel ≡ sent.channel
one_channel plan share left sender sent receiver received new read came =
    ap (λ (r : ReceiveEnd). r.channel) came.received ∙ (new.one ∙ sym (ap (λ (s : SendEnd). s.channel) read.sent))

-- the two ends were compared, which changed neither
pub pair_done : (duty : Duty) (plan : Planned) (share left : CallerLog) (sender sent beside : SendEnd) (receiver received back : ReceiveEnd) (old new : List CallerLog) → duty ≡ OfShare plan share → share.caller ≡ Pump → AreNew sender receiver → HasRead plan sender sent
    → HasPumped share left receiver received → beside ≡ sent → back ≡ received → (is_ended back.received ≡ true → beside.sent ≡ back.received) → new ≡ old ++ left ∷ [] → HaveDone (duty ∷ []) old new
pair_done duty plan share left sender sent beside receiver received back old new to is first read came same_sender same_receiver whole behind =
    let all : List (List ℕ) = frames_of (own_events plan Pump) in
    let last : List WireMsg = map Frame came.frames ++ Last ∷ [] in
    let got : back.received ≡ last = ap (λ (r : ReceiveEnd). r.received) (same_receiver ∙ came.received) ∙ ap (λ (xs : List WireMsg). xs ++ last) first.received in
    let gave : beside.sent ≡ fed all read.end = ap (λ (s : SendEnd). s.sent) (same_sender ∙ read.sent) ∙ ap (λ (xs : List WireMsg). xs ++ fed all read.end) first.sent in
    let same : came.frames ≡ all = same_frames all came.frames read.end (sym gave ∙ (whole (ap is_ended got ∙ ended_all came.frames) ∙ got)) in
    let events : map Wire came.frames ≡ own_events plan share.caller = ap (map Wire) same ∙ (read.wire ∙ ap (own_events plan) (sym is)) in
    subst (λ (d : Duty). HaveDone (d ∷ []) old new) (sym to) (one_done (OfShare plan share) left old new (left, refl, subst (λ (es : List Event). HasAsked es share left) events came.asked) behind)
