-- A life of a card: deed by deed what it does, what function p shows, and what p is given of it.
use Rattle.std.specs.Prelude.{◌≡◌, ℕ, ◌<◌, ◌&&◌, ◌==◌, Bool, false, List, [], ◌∷◌, ◌++◌, map, length, Option, Some, None, bit_and, is_none, slice_index, slice_set, if◌then◌else◌}
use Rattle.std.specs.List.{cons_option}
use Rattle.std.specs.Option.{option_map}
use Rattle.irq_causes.specs.Causes.{◌without◌}
use Rattle.irq_causes.specs.Messages.{both}
use Rattle.live_memory.specs.Trace.{Access}
use Rattle.wire_frame.specs.declared.fault.Fault.{Fault}
use Rattle.vf_unit.specs.declared.registers.Queue.{Queue}
use Rattle.vf_unit.specs.declared.registers.Queue.TheVariants.{Q0, Q1}
use Rattle.local_switch.specs.Switch.{is_pool}
use Rattle.device.specs.declared.event.Event.TheVariants.{Serve, VfRead}
use Rattle.device.specs.Accesses.{accesses_by}
use Rattle.device.specs.Across.{Sight, sight_in, stepped}
use Rattle.device.specs.Across.Step.{Happens as DeviceHappens, Comes as DeviceComes, Goes as DeviceGoes, Replaces as DeviceReplaces}
use Rattle.device.specs.Events.{Event}
use Rattle.device.specs.Guests.{attach_refusal, attached, detached, is_vacant}
use Rattle.device.specs.Lone.{Item, kept_of, pool_of}
use Rattle.device.specs.Replies.{Reply}
use Rattle.device.specs.World.{World, Stepped, sent_by, step}
use Rattle.live_run.specs.Bursts.{goes_on, services}
use Rattle.live_run.specs.Live.{AllMet, Noted, last_of, with_writes}
use Rattle.mailbox.specs.declared.mailbox.Notice.{Notice}
use Rattle.mailbox.specs.declared.not_admitted.NotAdmitted.{NotAdmitted}
use Rattle.mailbox.specs.declared.policy.Policy.{Policy}
use Rattle.mailbox.specs.Address.{is_number, number_of}
use Rattle.mailbox.specs.Host.{refusal}
use Rattle.mailbox.specs.Mailbox.{blank, notice_in}
use Rattle.mailbox.specs.Replies.{notified}
use Rattle.mailbox.specs.State.{HostState, holder, is_owned}
use Rattle.mailbox_laws.specs.Turns.{events_of, sets_registers}
use Rattle.mailbox_laws.specs.Turns.Turn.{Admits as AdmitsTurn, Dismisses as DismissesTurn, Forgets}
use Rattle.vfio_session.specs.declared.decision.Ask.{Ask}
use Rattle.vfio_session.specs.declared.decision.Ask.TheVariants.{Read, Write, Reset}
use Rattle.vfio_session.specs.declared.decision.Breach.{Breach}
use Rattle.vfio_session.specs.declared.owed.Owed.{Owed}
use Rattle.vfio_session.specs.Received.{received}
use Rattle.vfio_session.specs.Sessions.{Received}
use Rattle.hosted.specs.Hosted.{mailbox_at, with_world}
use Rattle.hosted.specs.Turns.{prompted_by, reset_turns, vectors_by, write_turns}
use Rattle.card.specs.declared.step.Order.{Order}
use Rattle.card.specs.Alike.{AreAlike, is_address_held}
use Rattle.card.specs.Card.{CardState, EndState, cleared, end_at, with_offer}
use Rattle.card.specs.Served.{signalled, with_busy}
use Rattle.card.specs.Told.{Told, after_reset, joined, told, turned}

-- what one call does, or happens meanwhile: a whole message of a function's client is heard; the device has an event of frames or of memory, as
-- a service, a frame from the wire, or a guest's own write; of the vectors of a function these are handed out; it is reset; a guest comes to it,
-- with its memory; a guest goes from it; it gets another memory; it gets a policy; it loses its policy; the host leaves it a message, and raises
-- its cause "other" where the message stands; its client is offered an area of its registers
pub data Deed : Type 0 where
  Hears : (pool : ℕ) → (message : List ℕ) → (files : ℕ) → Deed
  Happens : (event : Event) → Deed
  Signals : (pool : ℕ) → (vectors : ℕ) → Deed
  Resets : (pool : ℕ) → Deed
  Comes : (pool : ℕ) → (memory : List ℕ) → Deed
  Goes : (pool : ℕ) → Deed
  Replaces : (pool : ℕ) → (memory : List ℕ) → Deed
  Admits : (pool : ℕ) → (policy : Policy) → Deed
  Dismisses : (pool : ℕ) → Deed
  Notifies : (pool : ℕ) → Deed
  Offers : (pool : ℕ) → Deed

-- there are 64 pools, and the registers of the physical function are the host's alone to change
abbrev pub IsDeed : Deed → Type 0
IsDeed (Hears p message files) = p < 64
IsDeed (Happens e) = sets_registers e ≡ false
IsDeed (Signals p vectors) = p < 64
IsDeed (Resets p) = p < 64
IsDeed (Comes p memory) = p < 64
IsDeed (Goes p) = p < 64
IsDeed (Replaces p memory) = p < 64
IsDeed (Admits p policy) = p < 64
IsDeed (Dismisses p) = p < 64
IsDeed (Notifies p) = p < 64
IsDeed (Offers p) = p < 64

-- ---- what a deed does

abbrev pub world_of : CardState → World
world_of c = c.hosted.device.world

-- the same over another world
abbrev pub over_world : CardState → World → CardState
over_world c w = record c { hosted = with_world c.hosted w }

-- once a descriptor was taken, or none was there, the queue may have more, or it may not
abbrev pub ends_after : CardState → Event → Reply → List EndState
ends_after c (Serve p q) reply = slice_set c.ends p (with_busy (end_at c p) q (goes_on reply))
ends_after c _ reply = c.ends

abbrev pub after_event : CardState → Event → Stepped → CardState
after_event c e s = record {
  hosted = with_world c.hosted s.world;
  ends = ends_after c e s.answer.reply;
  raised = both c.raised s.answer.raised;
}

-- the host forgets what the guest of p asked for, the mailbox is blank, and nothing of its client is left
abbrev pub without_guest : CardState → ℕ → CardState
without_guest c p = record (cleared c p) { hosted = turned c.hosted (Forgets p ∷ []) (slice_set c.hosted.mailboxes p blank) }

-- a guest that is refused changes nothing
abbrev pub after_coming : CardState → ℕ → List ℕ → Option Fault → CardState
after_coming c p memory None = without_guest (over_world c (attached (world_of c) p memory)) p
after_coming c p memory (Some fault) = c

-- the host's own message is in the mailbox of p, or waits; the vectors that its cause "other" issues wait with the others
abbrev pub after_notice : CardState → ℕ → Notice → CardState
after_notice c p notice = record {
  hosted = record (with_world c.hosted (prompted_by notice (world_of c) p)) { mailboxes = slice_set c.hosted.mailboxes p (notified c.hosted.host p (mailbox_at c.hosted p)) };
  ends = c.ends;
  raised = joined c.raised p (vectors_by notice (world_of c) p);
}

abbrev pub after_deed : CardState → Deed → CardState
after_deed c (Hears p message files) = (told c p message files).card
after_deed c (Happens e) = after_event c e (step (world_of c) e)
after_deed c (Signals p vectors) = record c { raised = slice_set c.raised p (slice_index c.raised p without vectors) }
after_deed c (Resets p) = after_reset c p
after_deed c (Comes p memory) = after_coming c p memory (attach_refusal (world_of c) p (length memory))
after_deed c (Goes p) = if is_vacant (world_of c) p then c else without_guest (over_world c (detached (world_of c) p)) p
after_deed c (Replaces p memory) = over_world c (stepped (world_of c) (DeviceReplaces p memory))
after_deed c (Admits p policy) = record c { hosted = turned c.hosted (AdmitsTurn p policy ∷ []) c.hosted.mailboxes }
after_deed c (Dismisses p) = record c { hosted = turned c.hosted (DismissesTurn p ∷ []) c.hosted.mailboxes }
after_deed c (Notifies p) = after_notice c p (notice_in (mailbox_at c.hosted p))
after_deed c (Offers p) = with_offer c p

-- a life: one deed after another
abbrev pub card_after : CardState → List Deed → CardState
card_after c [] = c
card_after c (x ∷ xs) = card_after (after_deed c x) xs

-- ---- what function p shows

-- to its client, and to the shell for it; of the device: what it sees of an event, whether its guest was taken, what its guest left behind, and
-- whether it has another memory; the vectors that are handed out; why its policy is not taken, if it isn't; whether its driver could be told
pub data Show : Type 0 where
  Heard : (reply : Option (List ℕ)) → (order : Option Order) → (owed : Option Owed) → (ends : Option Breach) → Show
  Seen : (sight : Sight) → Show
  Signalled : (vectors : ℕ) → Show
  Judged : (refusal : Option NotAdmitted) → Show
  Noticed : (notice : Notice) → Show

abbrev pub heard_in : Told → Show
heard_in t = Heard t.reply t.order t.owed t.ends

abbrev pub shown_in : ℕ → CardState → Deed → Option Show
shown_in p c (Hears q message files) = if q == p then Some (heard_in (told c q message files)) else None
shown_in p c (Happens e) = option_map Seen (sight_in p (world_of c) (DeviceHappens e))
shown_in p c (Signals q vectors) = if q == p then Some (Signalled (signalled (bit_and (slice_index c.raised q) vectors) (end_at c q).session.armed)) else None
shown_in p c (Resets q) = None
shown_in p c (Comes q memory) = option_map Seen (sight_in p (world_of c) (DeviceComes q memory))
shown_in p c (Goes q) = option_map Seen (sight_in p (world_of c) (DeviceGoes q))
shown_in p c (Replaces q memory) = option_map Seen (sight_in p (world_of c) (DeviceReplaces q memory))
shown_in p c (Admits q policy) = if q == p then Some (Judged (refusal c.hosted.host q policy)) else None
shown_in p c (Dismisses q) = None
shown_in p c (Notifies q) = if q == p then Some (Noticed (notice_in (mailbox_at c.hosted q))) else None
shown_in p c (Offers q) = None

abbrev pub shows : ℕ → CardState → List Deed → List Show
shows p c [] = []
shows p c (x ∷ xs) = cons_option (shown_in p c x) (shows p (after_deed c x) xs)

-- the accesses to its memory, in order: events alone make any
abbrev pub accesses_in : ℕ → CardState → Deed → List Access
accesses_in p c (Happens e) = accesses_by (world_of c) e p
accesses_in p c _ = []

abbrev pub accesses : ℕ → CardState → List Deed → List Access
accesses p c [] = []
accesses p c (x ∷ xs) = accesses_in p c x ++ accesses p (after_deed c x) xs

-- the frames that it sends, in order
abbrev pub sent_in : ℕ → CardState → Deed → Option (List ℕ)
sent_in p c (Happens e) = if is_pool (pool_of e) p then sent_by (world_of c) e else None
sent_in p c _ = None

abbrev pub sends : ℕ → CardState → List Deed → List (List ℕ)
sends p c [] = []
sends p c (x ∷ xs) = cons_option (sent_in p c x) (sends p (after_deed c x) xs)

-- ---- what function p is given

-- the function whose own deed this is
abbrev pub whose : Deed → Option ℕ
whose (Hears p message files) = Some p
whose (Happens e) = pool_of e
whose (Signals p vectors) = Some p
whose (Resets p) = Some p
whose (Comes p memory) = Some p
whose (Goes p) = Some p
whose (Replaces p memory) = Some p
whose (Admits p policy) = Some p
whose (Dismisses p) = Some p
whose (Notifies p) = Some p
whose (Offers p) = Some p

-- what its own deed tells it of the others: whether one holds the address that its driver asks for and may choose, or owns that of its policy
abbrev pub is_told_of_others : ℕ → CardState → Deed → Bool
is_told_of_others p c (Hears q message files) = is_address_held c p message files
is_told_of_others p c (Admits q policy) = is_owned c.hosted.host p (number_of policy.address)
is_told_of_others p c _ = false

-- its own deed, with that; what the device keeps for it of an event that is not its own, which is a frame; and that a policy takes an address
-- from it that its driver had chosen
pub data Given : Type 0 where
  Own : (deed : Deed) → (is_told : Bool) → Given
  Kept : (item : Item) → Given
  Loses : (address : ℕ) → Given

-- a policy that q gets takes its address from p
abbrev pub loses_to : HostState → ℕ → Policy → ℕ → Bool
loses_to h q policy p = is_none (refusal h q policy) && is_number (holder h q (number_of policy.address)) p

-- another's deed gives it nothing else
abbrev pub given_by_others : ℕ → CardState → Deed → Option Given
given_by_others p c (Happens e) = option_map Kept (kept_of p (world_of c) e)
given_by_others p c (Admits q policy) = if loses_to c.hosted.host q policy p then Some (Loses (number_of policy.address)) else None
given_by_others p c _ = None

abbrev pub given_in : ℕ → CardState → Deed → Option Given
given_in p c x = if is_pool (whose x) p then Some (Own x (is_told_of_others p c x)) else given_by_others p c x

abbrev pub given : ℕ → CardState → List Deed → List Given
given p c [] = []
given p c (x ∷ xs) = cons_option (given_in p c x) (given p (after_deed c x) xs)

-- ---- the work of a message

-- what the session asks is one event of the device, and where the driver rings or resets, the writes of one answer of the host
abbrev pub events_asked : CardState → ℕ → Ask → List Event
events_asked c p (Read offset) = VfRead p offset ∷ []
events_asked c p (Write offset x) = events_of c.hosted.host (write_turns c.hosted p offset x)
events_asked c p Reset = events_of c.hosted.host (reset_turns c.hosted p)
events_asked c p _ = []

abbrev pub events_by : CardState → ℕ → Option Ask → Option Owed → List Event
events_by c p (Some ask) (Some owed) = events_asked c p ask
events_by c p _ _ = []

-- the events that the device has of a message
abbrev pub events_heard : CardState → ℕ → List ℕ → ℕ → List Event
events_heard c p message files = let r : Received = received (end_at c p).session message files in events_by c p r.asks r.owed

-- ---- one life is as the other, to function p

pub record IsLivedAlike (p : ℕ) (c : CardState) (xs : List Deed) (d : CardState) (ys : List Deed) : Type 0 where
  pub shows : shows p c xs ≡ shows p d ys
  pub accesses : accesses p c xs ≡ accesses p d ys
  pub sends : sends p c xs ≡ sends p d ys
  pub cards : AreAlike p (card_after c xs) (card_after d ys)

-- ---- calls as deeds

-- the same card, with these accesses noted of each memory
abbrev pub with_notes : CardState → List (List Access) → CardState
with_notes c notes = record {
  hosted = record { device = record { world = world_of c; accesses = notes }; host = c.hosted.host; mailboxes = c.hosted.mailboxes };
  ends = c.ends;
  raised = c.raised;
}

-- a call had the card live these deeds. What it noted of the memories' accesses is told apart
abbrev pub HasLived : List Deed → CardState → CardState → Type 0
HasLived xs old new = with_notes new old.hosted.device.accesses ≡ card_after old xs

-- events while guests write their memories: before each one, each function writes itself just what its memory answered, and then it comes
abbrev pub live_deeds : CardState → List Event → List Noted → List Deed
live_deeds c events noted = map Happens (with_writes (length (world_of c).functions) c.hosted.device.accesses events noted)

-- services of a queue, one after another, or none. Each write of a guest's is of bytes that were noted as read from its memory
pub record HasServed (shared : Bool) (p : ℕ) (q : Queue) (old new : CardState) : Type 0 where
  pub count : ℕ
  pub noted : List Noted
  pub each : length noted ≡ count
  pub met : AllMet shared (world_of old) old.hosted.device.accesses (services count p q) noted
  pub last : new.hosted.device.accesses ≡ last_of old.hosted.device.accesses noted
  pub lived : HasLived (live_deeds old (services count p q) noted) old new

-- first those of queue 0, then those of queue 1
pub record HaveServed (shared : Bool) (p : ℕ) (old new : CardState) : Type 0 where
  pub between : CardState
  pub first : HasServed shared p Q0 old between
  pub second : HasServed shared p Q1 between new
