-- What a call over a card leaves of it, and what it answers.
use Rattle.std.specs.Prelude.{◌≡◌, ◌≢◌, ℕ, ◌<◌, ◌&&◌, ◌||◌, ◌⊎◌, Bool, true, false, not, bit_and, nat_eq, nat_le, nat_lt, List, [], ◌∷◌, ◌++◌, drop, length, replicate, slice_index, slice_index_or, slice_set, Option, Some, None, if◌then◌else◌}
use Rattle.wire_frame.specs.Bits.{has_bit}
use Rattle.wire_frame.specs.Fault.{number_of}
use Rattle.wire_frame.specs.Frame.{is_frame}
use Rattle.wire_frame.specs.declared.fault.Fault.{Fault}
use Rattle.wire_frame.specs.declared.fault.Fault.TheVariants.{BadFrame}
use Rattle.irq_causes.specs.Causes.{◌without◌, vectors_in}
use Rattle.irq_causes.specs.Messages.{both}
use Rattle.live_run.specs.Frames.{FramesState}
use Rattle.device.specs.Accesses.{accesses_by}
use Rattle.device.specs.declared.event.Event.TheVariants.{Wire}
use Rattle.device.specs.Guests.{attach_refusal, attached, detached, is_vacant}
use Rattle.device.specs.Live.{AreListed, AreMet, told_world}
use Rattle.device.specs.World.{World, function_of, step}
use Rattle.vf_unit.specs.Unit.{Function, counts_of, interval_of, size_of}
use Rattle.vf_unit.specs.declared.intervals.Vector.{Vector}
use Rattle.vf_unit.specs.declared.intervals.Vector.TheVariants.{V0, V1, V2}
use Rattle.mailbox.specs.Address.{number_of as number_of_address}
use Rattle.mailbox.specs.Host.{refusal}
use Rattle.mailbox.specs.Mailbox.{blank, notice_in}
use Rattle.mailbox.specs.Replies.{notified}
use Rattle.mailbox.specs.State.{holder}
use Rattle.mailbox.specs.declared.mailbox.Notice.{Notice}
use Rattle.mailbox.specs.declared.mailbox.Notice.TheVariants.{Raises, Waits}
use Rattle.mailbox.specs.declared.not_admitted.NotAdmitted.{NotAdmitted}
use Rattle.mailbox.specs.declared.not_admitted.NotAdmitted.TheVariants.{NotUnicast, AddressOwned, NoSuchPlace}
use Rattle.mailbox.specs.declared.policy.Policy.{Policy}
use Rattle.mailbox.specs.declared.policy.VlanPolicy.{VlanPolicy}
use Rattle.mailbox.specs.declared.policy.VlanPolicy.TheVariants.{Port, Joins}
use Rattle.mailbox_laws.specs.Turns.Turn.{Admits, Dismisses, Forgets}
use Rattle.hosted.specs.Hosted.{HaveTaken, LeavesUnconcerned, mailbox_at, with_world}
use Rattle.hosted.specs.Turns.{prompted_by, vectors_by}
use Rattle.vfio_user.specs.declared.request.Access.{Access}
use Rattle.vfio_user.specs.declared.request.Access.TheVariants.{ReadOnly, WriteOnly, ReadWrite}
use Rattle.vfio_session.specs.Answers.{answer_to}
use Rattle.vfio_session.specs.declared.decision.Breach.{Breach}
use Rattle.vfio_session.specs.declared.decision.Breach.TheVariants.{NoHeader, WrongSize, NoVersion, OtherVersion, SecondVersion, StrayFiles}
use Rattle.vfio_session.specs.declared.owed.Owed.{Owed}
use Rattle.vfio_session.specs.declared.owed.Settled.TheVariants.{Finished}
use Rattle.card.specs.Card.{LeavesAlone, cleared, end_at, with_offer}
use Rattle.card.specs.Served.{AreServed, AreWired, is_busy, signalled}
use Rattle.card.specs.Told.{Told, after_reset, joined, told}
use Rattle.card.specs.declared.step.Order.{Order}
use Rattle.card.specs.declared.step.Order.TheVariants.{Map, Unmap, Arm, Disarm}
use Rattle.card.specs.declared.step.Step.{Step}
use Rattle.card.specs.declared.step.Step.TheVariants.{Answered, Asks, Ends}
use Rattle.mapped_memory.specs.declared.map_error.MapError.TheVariants.{NoBytes, PastEnd, Overlaps, TooMany}
use Rattle.spare_memory.specs.Refused.{no_guest, without_place}
use Rattle.spare_memory.specs.Spares.{IsRemapped}
use Rattle.spare_memory.specs.declared.regions.NotMapped.{NotMapped}
use Rattle.spare_memory.specs.declared.regions.NotMapped.TheVariants.{NoSuchVf, Vacant, Refused, NotThere}
use Rattle.vfdev_c.specs.Cards.{HeldCard}
use Rattle.vfdev_c.specs.Handle.{Held, refused_as, shown}
use Rattle.vfdev_c.specs.declared.card_frames.VfdevCardMore.{VfdevCardMore}
use Rattle.vfdev_c.specs.declared.card_policies.VfdevCardAdmission.{VfdevCardAdmission}
use Rattle.vfdev_c.specs.declared.card_policies.VfdevCardPolicy.{VfdevCardPolicy}
use Rattle.vfdev_c.specs.declared.card_step.VfdevCardStep.{VfdevCardStep}
use Rattle.vfdev_c.specs.declared.handle_state.HandleState.TheVariants.{Card}
use Rattle.vfdev_c.specs.declared.reply.VfdevReply.{VfdevReply}
use Rattle.vfdev_c.specs.declared.wired.VfdevWired.{VfdevWired}

-- a card as a call leaves it, where the handle leads to one
abbrev pub on_card : Held → (HeldCard → HeldCard) → Held
on_card (Some (Card c)) f = Some (Card (f c))
on_card held f = held

-- what a call answers of a card, and what it answers where the handle leads to none
abbrev pub of_card : {A : Type 0} → Held → A → (HeldCard → A) → A
of_card (Some (Card c)) none f = f c
of_card held none f = none

-- the handle leads to a card of which this is so
abbrev pub LeadsTo : (HeldCard → Type 0) → Held → Type 0
LeadsTo is (Some (Card c)) = is c
LeadsTo is held = ⊥

-- this is so of a card before and after a call and of the answer; where the handle leads to none, nothing changes and this is answered
abbrev pub OnCard : {A : Type 0} → A → (HeldCard → HeldCard → A → Type 0) → Held → Held → A → Type 0
OnCard none r (Some (Card c)) (Some (Card d)) answer = r c d answer
OnCard none r (Some (Card c)) other answer = ⊥
OnCard none r held other answer = (other ≡ held) × (answer ≡ none)

-- every function but p's is as it was
abbrev pub OthersStay : ℕ → Held → Held → Type 0
OthersStay p (Some (Card c)) (Some (Card d)) = LeavesAlone p c.card d.card
OthersStay p held other = Unit

-- ---- messages

-- what a device may do with memory
abbrev pub access_of : Access → ℕ
access_of ReadOnly = 1
access_of WriteOnly = 2
access_of ReadWrite = 3

abbrev pub breach_number : Breach → ℕ
breach_number (NoHeader why) = 1
breach_number WrongSize = 2
breach_number NoVersion = 3
breach_number OtherVersion = 4
breach_number SecondVersion = 5
breach_number StrayFiles = 6

-- of that kind, and else 0
abbrev pub of_kind : ℕ → VfdevCardStep
of_kind kind = record { kind = kind; reply = 0; access = 0; breach = 0; offset = 0; address = 0; size = 0; first = 0; count = 0 }

abbrev pub order_as : Order → VfdevCardStep
order_as (Map m) = record (of_kind 1) { access = access_of m.access; offset = m.offset; address = m.range.address; size = m.range.size }
order_as (Unmap range) = record (of_kind 2) { address = range.address; size = range.size }
order_as (Arm vectors) = record (of_kind 3) { first = vectors.first; count = vectors.count }
order_as (Disarm vectors) = record (of_kind 4) { first = vectors.first; count = vectors.count }

abbrev pub step_by : Option Order → Option Breach → VfdevCardStep
step_by (Some order) ends = order_as order
step_by None (Some breach) = record (of_kind 5) { breach = breach_number breach }
step_by None None = of_kind 0

-- the reply that the client gets once the order is done
abbrev pub reply_in : Option Owed → Option (List ℕ) → Option (List ℕ)
reply_in (Some owed) reply = answer_to owed Finished
reply_in None reply = reply

abbrev pub bytes_in : Option (List ℕ) → ℕ
bytes_in (Some bytes) = length bytes
bytes_in None = 0

-- it stands in front of the room, whose rest is as it was
abbrev pub laid : Option (List ℕ) → List ℕ → List ℕ
laid (Some bytes) room = bytes ++ drop (length bytes) room
laid None room = room

-- the same of what the card said
abbrev pub count_or : Option ℕ → ℕ
count_or (Some n) = n
count_or None = 0

abbrev pub step_as : Step → VfdevCardStep
step_as (Answered count) = record (of_kind 0) { reply = count_or count }
step_as (Asks order owed) = record (order_as order) { reply = bytes_in (answer_to owed Finished) }
step_as (Ends breach) = record (of_kind 5) { breach = breach_number breach }

-- and the room once what is owed is laid
abbrev pub room_after : Step → List ℕ → List ℕ
room_after (Asks order owed) room = laid (answer_to owed Finished) room
room_after (Answered count) room = room
room_after (Ends breach) room = room

abbrev pub step_of : Told → VfdevCardStep
step_of t = record (step_by t.order t.ends) { reply = bytes_in (reply_in t.owed t.reply) }

abbrev pub receives : ℕ → List ℕ → ℕ → HeldCard → HeldCard
receives p message files c = if nat_lt p 64 then record c { card = (told c.card p message files).card } else c

abbrev pub step_for : ℕ → List ℕ → ℕ → HeldCard → VfdevCardStep
step_for p message files c = if nat_lt p 64 then step_of (told c.card p message files) else of_kind 7

-- the room after it
abbrev pub laid_for : ℕ → List ℕ → ℕ → List ℕ → HeldCard → List ℕ
laid_for p message files room c = if nat_lt p 64 then laid (reply_in (told c.card p message files).owed (told c.card p message files).reply) room else room

-- ---- guests

abbrev pub fault_number : Option Fault → ℕ
fault_number None = 0
fault_number (Some fault) = number_of fault

-- a guest came: it has as many addresses as the spare memory, of which none is mapped, and a client that said nothing
pub record HasCome (p : ℕ) (c d : HeldCard) : Type 0 where
  pub came : HaveTaken (Forgets p ∷ []) (with_world c.card.hosted (attached c.card.hosted.device.world p (replicate (slice_index c.spares p) 0))) d.card.hosted
  pub mailboxes : d.card.hosted.mailboxes ≡ slice_set c.card.hosted.mailboxes p blank
  pub ends : d.card.ends ≡ (cleared c.card p).ends
  pub raised : d.card.raised ≡ (cleared c.card p).raised

pub record Attaches (p : ℕ) (c d : HeldCard) (answer : ℕ) : Type 0 where
  pub answered : answer ≡ fault_number (attach_refusal c.card.hosted.device.world p (slice_index c.spares p))
  pub came : answer ≡ 0 → HasCome p c d
  pub spares : answer ≡ 0 → d.spares ≡ slice_set c.spares p 0
  pub refused : answer ≢ 0 → (d.card ≡ c.card) × (d.spares ≡ c.spares)
  pub frames : d.frames ≡ c.frames

-- a guest went: nothing of it is left
pub record HasGone (p : ℕ) (c d : HeldCard) : Type 0 where
  pub went : HaveTaken (Forgets p ∷ []) (with_world c.card.hosted (detached c.card.hosted.device.world p)) d.card.hosted
  pub mailboxes : d.card.hosted.mailboxes ≡ slice_set c.card.hosted.mailboxes p blank
  pub ends : d.card.ends ≡ (cleared c.card p).ends
  pub raised : d.card.raised ≡ (cleared c.card p).raised

-- nobody is there to go: the function is vacant, or its spare memory has bytes, which only a vacant function's has
abbrev pub nobody_goes : ℕ → HeldCard → Bool
nobody_goes p c = is_vacant c.card.hosted.device.world p || not (nat_eq (slice_index c.spares p) 0)

pub record Detaches (p : ℕ) (c d : HeldCard) (answer : ℕ) : Type 0 where
  pub answered : answer ≡ (if nat_lt p 64 then (if nobody_goes p c then 2 else 0) else 1)
  pub went : answer ≡ 0 → HasGone p c d
  pub spares : answer ≡ 0 → d.spares ≡ slice_set c.spares p (size_of (function_of p c.card.hosted.device.world))
  pub refused : answer ≢ 0 → (d.card ≡ c.card) × (d.spares ≡ c.spares)
  pub frames : d.frames ≡ c.frames

abbrev pub reason_number : NotMapped → ℕ
reason_number NoSuchVf = 1
reason_number Vacant = 10
reason_number (Refused NoBytes) = 10
reason_number (Refused PastEnd) = 35
reason_number (Refused Overlaps) = 13
reason_number (Refused TooMany) = 33
reason_number NotThere = 34

-- a block is mapped: 0; else the first reason that fits, or, by what is mapped already, 13 or 33
abbrev pub IsMapAnswer : Option NotMapped → ℕ → Type 0
IsMapAnswer (Some reason) answer = answer ≡ reason_number reason
IsMapAnswer None answer = (answer ≡ 0) ⊎ ((answer ≡ 13) ⊎ (answer ≡ 33))

-- a region is unmapped: 0; else the first reason that fits, or 34, where none begins at the address
abbrev pub IsUnmapAnswer : Option NotMapped → ℕ → Type 0
IsUnmapAnswer (Some reason) answer = answer ≡ reason_number reason
IsUnmapAnswer None answer = (answer ≡ 0) ⊎ (answer ≡ 34)

-- regions of a function's memory came or went, or they didn't: all that the card knows stays as it is
pub record Remaps (p : ℕ) (c d : HeldCard) : Type 0 where
  pub card : IsRemapped p c.card d.card
  pub spares : d.spares ≡ c.spares
  pub frames : d.frames ≡ c.frames

pub record Maps (p at count : ℕ) (c d : HeldCard) (answer : ℕ) : Type 0 where
  pub answered : IsMapAnswer (without_place (no_guest c.card.hosted.device.world p) at count) answer
  pub remaps : Remaps p c d

pub record Unmaps (p : ℕ) (c d : HeldCard) (answer : ℕ) : Type 0 where
  pub answered : IsUnmapAnswer (no_guest c.card.hosted.device.world p) answer
  pub remaps : Remaps p c d

-- a function's client is offered an area of its registers
abbrev pub offers : ℕ → HeldCard → HeldCard
offers p c = if nat_lt p 64 then record c { card = with_offer c.card p } else c

-- ---- frames and interrupts

abbrev pub number_if : Bool → ℕ
number_if true = 1
number_if false = 0

-- frames of a former call are gone
abbrev pub emptied : FramesState → FramesState
emptied r = record r { frames = []; used = 0 }

abbrev pub none_more : VfdevCardMore
none_more = record { goes_on = 0; frames = 0 }

pub record Serves (p : ℕ) (c d : HeldCard) (more : VfdevCardMore) : Type 0 where
  pub served : p < 64 → AreServed true p c.card (emptied c.frames) d.card d.frames
  pub goes_on : p < 64 → more.goes_on ≡ number_if (is_busy (end_at d.card p))
  pub nobody : nat_lt p 64 ≡ false → (d.card ≡ c.card) × (d.frames ≡ emptied c.frames) × (more.goes_on ≡ 0)
  pub frames : more.frames ≡ length d.frames.frames
  pub spares : d.spares ≡ c.spares

-- the frame of that number, where there is room for it
abbrev pub frame_in_room : ℕ → List ℕ → FramesState → Option (List ℕ)
frame_in_room n out r =
    if nat_lt n (length r.frames) && nat_le (length (slice_index_or r.frames n [])) (length out)
    then Some (slice_index_or r.frames n [])
    else None

abbrev pub frame_at : ℕ → List ℕ → HeldCard → Option (List ℕ)
frame_at n out c = frame_in_room n out c.frames

abbrev pub busy_at : ℕ → HeldCard → Bool
busy_at p c = nat_lt p 64 && is_busy (end_at c.card p)

-- how often something could not be done that a function's driver left to the card
abbrev pub shortfalls_at : ℕ → HeldCard → ℕ
shortfalls_at p c = if nat_lt p 64 then (counts_of (function_of p c.card.hosted.device.world)).shortfalls else 0

-- a vector by its number
abbrev pub vector_numbered : ℕ → Option Vector
vector_numbered n = if nat_eq n 0 then Some V0 else (if nat_eq n 1 then Some V1 else (if nat_eq n 2 then Some V2 else None))

-- how many microseconds apart a driver wants the messages of a vector, if there is one of that number
abbrev pub interval_for : Option Vector → Function → ℕ
interval_for None f = 0
interval_for (Some v) f = interval_of f v

abbrev pub interval_at : ℕ → ℕ → HeldCard → ℕ
interval_at p n c = if nat_lt p 64 then interval_for (vector_numbered n) (function_of p c.card.hosted.device.world) else 0

-- a frame from the wire was taken: all of it is the device's step, in the world in which each function's memory holds what was read of it
pub record IsWired (frame : List ℕ) (c d : HeldCard) (reply : VfdevReply) : Type 0 where
  pub met : World
  pub told : met ≡ told_world c.card.hosted.device.accesses d.card.hosted.device.accesses c.card.hosted.device.world
  pub world : d.card.hosted.device.world ≡ (step met (Wire frame)).world
  pub replied : reply ≡ shown (step met (Wire frame)).answer.reply
  pub raised : d.card.raised ≡ (if nat_eq reply.kind 0 then both c.card.raised (step met (Wire frame)).answer.raised else c.card.raised)
  pub listed : AreListed (accesses_by met (Wire frame)) c.card.hosted.device.accesses d.card.hosted.device.accesses
  pub possible : AreMet true c.card.hosted.device.accesses d.card.hosted.device.accesses c.card.hosted.device.world
  pub host : d.card.hosted.host ≡ c.card.hosted.host
  pub mailboxes : d.card.hosted.mailboxes ≡ c.card.hosted.mailboxes
  pub ends : d.card.ends ≡ c.card.ends

pub record Wires (frame : List ℕ) (c d : HeldCard) (reply : VfdevReply) : Type 0 where
  pub taken : is_frame 9018 frame ≡ true → IsWired frame c d reply
  pub no_frame : is_frame 9018 frame ≡ false → (d.card ≡ c.card) × (reply ≡ refused_as BadFrame)
  pub spares : d.spares ≡ c.spares
  pub frames : d.frames ≡ c.frames

abbrev pub none_wired : VfdevWired
none_wired = record { taken = 0; refused = 0 }

-- frames came one after another, by where they lie and end
pub record WiresAll (ends_at bytes : List ℕ) (c d : HeldCard) (wired : VfdevWired) : Type 0 where
  pub came : AreWired true ends_at bytes c.card d.card (record { taken = wired.taken; refused = wired.refused })
  pub spares : d.spares ≡ c.spares
  pub frames : d.frames ≡ c.frames

pub record Signals (p : ℕ) (c d : HeldCard) (vectors : ℕ) : Type 0 where
  pub handed_out : vectors ≡ (if nat_lt p 64 then signalled (slice_index c.card.raised p) (end_at c.card p).session.armed else 0)
  pub raised : d.card.raised ≡ (if nat_lt p 64 then slice_set c.card.raised p 0 else c.card.raised)
  pub hosted : d.card.hosted ≡ c.card.hosted
  pub ends : d.card.ends ≡ c.card.ends
  pub spares : d.spares ≡ c.spares
  pub frames : d.frames ≡ c.frames

-- those alone that a word names, by its low three bits; the others go on waiting
pub record SignalsSome (p named : ℕ) (c d : HeldCard) (vectors : ℕ) : Type 0 where
  pub handed_out : vectors ≡ (if nat_lt p 64 then signalled (bit_and (slice_index c.card.raised p) (vectors_in named)) (end_at c.card p).session.armed else 0)
  pub raised : d.card.raised ≡ (if nat_lt p 64 then slice_set c.card.raised p (slice_index c.card.raised p without vectors_in named) else c.card.raised)
  pub hosted : d.card.hosted ≡ c.card.hosted
  pub ends : d.card.ends ≡ c.card.ends
  pub spares : d.spares ≡ c.spares
  pub frames : d.frames ≡ c.frames

-- a pool is in the set where it has vectors that were raised and not handed out
abbrev pub IsRaised : ℕ → HeldCard → Type 0
IsRaised set c = (p : ℕ) → p < 64 → has_bit set p ≡ nat_lt 0 (slice_index c.card.raised p)

abbrev pub AreRaised : Held → ℕ → Type 0
AreRaised (Some (Card c)) set = IsRaised set c
AreRaised held set = set ≡ 0

-- ---- policies

abbrev pub vlans_of : VfdevCardPolicy → VlanPolicy
vlans_of policy = if nat_eq policy.has_port 0 then Joins policy.joins else Port policy.port

abbrev pub policy_of : VfdevCardPolicy → Policy
policy_of policy = record {
  address = record { 0 = policy.address };
  may_choose = not (nat_eq policy.may_choose 0);
  vlans = vlans_of policy;
  all_multicast = not (nat_eq policy.all_multicast 0);
  link_up = not (nat_eq policy.link_up 0);
}

abbrev pub refusal_number : Option NotAdmitted → ℕ
refusal_number None = 0
refusal_number (Some NotUnicast) = 1
refusal_number (Some AddressOwned) = 2
refusal_number (Some NoSuchPlace) = 3

abbrev pub loser_number : Option ℕ → ℕ
loser_number None = 255
loser_number (Some p) = p

-- a policy was taken: it is one turn of the host, and every function that it doesn't concern is as it was
pub record IsAdmitted (p : ℕ) (policy : Policy) (c d : HeldCard) (taker : ℕ) : Type 0 where
  pub taken : HaveTaken (Admits p policy ∷ []) c.card.hosted d.card.hosted
  pub loser : taker ≡ loser_number (holder c.card.hosted.host p (number_of_address policy.address))
  pub accesses : d.card.hosted.device.accesses ≡ c.card.hosted.device.accesses
  pub others : LeavesUnconcerned p policy c.card.hosted d.card.hosted
  pub ends : d.card.ends ≡ c.card.ends
  pub raised : d.card.raised ≡ c.card.raised

abbrev pub refused_by : ℕ → VfdevCardAdmission
refused_by why = record { refusal = why; loser = 255 }

pub record Admitting (p : ℕ) (policy : Policy) (c d : HeldCard) (admission : VfdevCardAdmission) : Type 0 where
  pub answered : admission.refusal ≡ (if nat_lt p 64 then refusal_number (refusal c.card.hosted.host p policy) else 5)
  pub taken : admission.refusal ≡ 0 → IsAdmitted p policy c d admission.loser
  pub refused : admission.refusal ≢ 0 → (d.card ≡ c.card) × (admission.loser ≡ 255)
  pub spares : d.spares ≡ c.spares
  pub frames : d.frames ≡ c.frames

pub record Dismissing (p : ℕ) (c d : HeldCard) (answer : ℕ) : Type 0 where
  pub answered : answer ≡ (if nat_lt p 64 then 0 else 1)
  pub taken : p < 64 → HaveTaken (Dismisses p ∷ []) c.card.hosted d.card.hosted
  pub nobody : nat_lt p 64 ≡ false → d.card ≡ c.card
  pub mailboxes : d.card.hosted.mailboxes ≡ c.card.hosted.mailboxes
  pub accesses : d.card.hosted.device.accesses ≡ c.card.hosted.device.accesses
  pub ends : d.card.ends ≡ c.card.ends
  pub raised : d.card.raised ≡ c.card.raised
  pub spares : d.spares ≡ c.spares
  pub frames : d.frames ≡ c.frames

abbrev pub notice_number : Notice → ℕ
notice_number Raises = 1
notice_number Waits = 0

-- the host's own message; where it stands in the mailbox the cause "other" is raised, whose vectors wait then
pub record Notifying (p : ℕ) (c d : HeldCard) (answer : ℕ) : Type 0 where
  pub answered : answer ≡ (if nat_lt p 64 then notice_number (notice_in (mailbox_at c.card.hosted p)) else 0)
  pub mailboxes : d.card.hosted.mailboxes ≡ (if nat_lt p 64 then slice_set c.card.hosted.mailboxes p (notified c.card.hosted.host p (mailbox_at c.card.hosted p)) else c.card.hosted.mailboxes)
  pub world : d.card.hosted.device.world ≡ (if nat_lt p 64 then prompted_by (notice_in (mailbox_at c.card.hosted p)) c.card.hosted.device.world p else c.card.hosted.device.world)
  pub host : d.card.hosted.host ≡ c.card.hosted.host
  pub accesses : d.card.hosted.device.accesses ≡ c.card.hosted.device.accesses
  pub ends : d.card.ends ≡ c.card.ends
  pub raised : d.card.raised ≡ (if nat_lt p 64 then joined c.card.raised p (vectors_by (notice_in (mailbox_at c.card.hosted p)) c.card.hosted.device.world p) else c.card.raised)
  pub spares : d.spares ≡ c.spares
  pub frames : d.frames ≡ c.frames

-- a reset from outside
abbrev pub resets : ℕ → HeldCard → HeldCard
resets p c = if nat_lt p 64 then record c { card = after_reset c.card p } else c
