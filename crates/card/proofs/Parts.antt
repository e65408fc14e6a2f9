-- A message of p's client makes the same of two cards in which p is the same.
use Rattle.std.proofs.Common.{◌≡◌, ℕ, ◌<◌, Bool, true, false, List, [], ◌∷◌, Option, Some, None, length, refl, sym, ap, ◌∙◌, subst, arith}
use Rattle.std.specs.Prelude.{◌==◌, ◌&&◌, slice_index, slice_index_or, slice_set, if◌then◌else◌}
use Rattle.std.specs.List.{All}
use Rattle.std.proofs.lemmas.Bool.{eq-eqb}
use Rattle.std.proofs.lemmas.List.{append-nil, get_or-set_same, length-set}
use Rattle.irq_causes.specs.Messages.{either}
use Rattle.pool_filter.specs.Own.{own}
use Rattle.device.specs.Events.{Event}
use Rattle.device.specs.declared.event.Event.TheVariants.{VfRead, VfWrite, Flr}
use Rattle.device.specs.Lone.{is_own, lone_of, with_settings}
use Rattle.device.specs.World.{World, step, world_after}
use Rattle.mailbox.specs.declared.message.Message.{Message}
use Rattle.mailbox.specs.declared.message.Message.TheVariants.{Other}
use Rattle.mailbox.specs.Mailbox.{MailboxState, after_read as box_read, after_reset as box_reset, after_write as box_written, blank, read_at}
use Rattle.mailbox.specs.Message.{message_of}
use Rattle.mailbox.specs.Replies.{reply_to}
use Rattle.mailbox.specs.State.{HostState}
use Rattle.mailbox.specs.Words.{settings_of}
use Rattle.mailbox.specs.Writes.{writes_after, writes_without}
use Rattle.mailbox_laws.specs.Turns.{IsTurn, Turn, events_of, host_at_end, write_events}
use Rattle.mailbox_laws.specs.Turns.Turn.{Answers, Forgets}
use Rattle.mailbox_laws.proofs.Kept.{run_settles}
use Rattle.hosted.specs.Hosted.{mailbox_at}
use Rattle.hosted.specs.Turns.{by_mailbox, is_taken, mailboxes_read, mailboxes_reset, mailboxes_written, mailed, read_reply, reset_turns, resets, rings, takes, write_turns}
use Rattle.hosted.proofs.Others.{are_turns, own_reset, own_write}
use Rattle.vfio_session.specs.declared.decision.Ask.{Ask}
use Rattle.vfio_session.specs.declared.decision.Ask.TheVariants.{Read, Write, Map, Unmap, Reset, Arm, Disarm}
use Rattle.vfio_session.specs.declared.owed.Owed.{Owed}
use Rattle.vfio_session.specs.declared.owed.Settled.TheVariants.{Value}
use Rattle.vfio_session.specs.Answers.{answer_to}
use Rattle.vfio_session.specs.Received.{received}
use Rattle.vfio_session.specs.Sessions.{Received}
use Rattle.card.specs.Card.{CardState, EndState, end_at, quiet, with_end}
use Rattle.card.specs.Told.{after_read, after_reset, after_write, asked, marked, told, told_by, told_with, value_in}
use Rattle.card.specs.Alike.{AreAlike, IsCard, IsToldAlike, Part, asked_address, asked_by, asked_in, is_address_held, is_held}
use Rattle.card.proofs.Hosts.{HostsAlike, own_alike}
use Rattle.card.proofs.Own.{EventsAlike, answer_alike, events_alike, forgotten_alike, lone_written, reply_alike}

-- two cards, and what is so of both
pub record Pair (p : ℕ) (c d : CardState) : Type 0 where
  pub below : p < 64
  pub one : IsCard c
  pub two : IsCard d
  pub there : p < length c.hosted.device.world.functions
  pub also_there : p < length d.hosted.device.world.functions
  pub alike : AreAlike p c d

pub hosts : (p : ℕ) (c d : CardState) → Pair p c d → HostsAlike p c.hosted.host d.hosted.host
hosts p c d b = record {
  slot = ap (λ (r : Part). r.slot) b.alike.part;
  ids = b.alike.ids;
  pool = b.alike.default_pool;
  limit = b.alike.limit;
  many = b.one.hosted.slots;
  also_many = b.two.hosted.slots;
  few = b.one.hosted.ids;
}

pub events : (p : ℕ) (c d : CardState) (e : Event) → is_own p e ≡ true → Pair p c d → EventsAlike p c.hosted.device.world d.hosted.device.world e
events p c d e mine b = events_alike p c.hosted.device.world d.hosted.device.world e mine b.there b.one.hosted.functions b.also_there b.two.hosted.functions (ap (λ (r : Part). r.lone) b.alike.part)

pub mine : (p : ℕ) → (p == p) ≡ true
mine p = eq-eqb p p refl

pub boxes : (p : ℕ) (c d : CardState) → Pair p c d → mailbox_at c.hosted p ≡ mailbox_at d.hosted p
boxes p c d b = ap (λ (r : Part). r.mailbox) b.alike.part

pub ends : (p : ℕ) (c d : CardState) → Pair p c d → end_at c p ≡ end_at d p
ends p c d b = ap (λ (r : Part). r.end) b.alike.part

-- p's mailbox once it was set, or not
box_if : (bs : List MailboxState) (p : ℕ) (m : MailboxState) → p < length bs → (t : Bool) → slice_index_or (if t then slice_set bs p m else bs) p blank ≡ (if t then m else slice_index_or bs p blank)
box_if bs p m inside true = get_or-set_same bs p m blank inside
box_if bs p m inside false = refl

pub boxes_in : (c : CardState) (p : ℕ) → IsCard c → p < 64 → p < length c.hosted.mailboxes
boxes_in c p is below = omega (arith, below, is.hosted.many)

-- ---- a read

takes_alike : (p : ℕ) (c d : CardState) (e : Event) → EventsAlike p c.hosted.device.world d.hosted.device.world e → takes c.hosted e ≡ takes d.hosted e
takes_alike p c d e same = ap is_taken same.reply

read_alike : (p offset : ℕ) (c d : CardState) → Pair p c d → AreAlike p (after_read c p offset) (after_read d p offset)
read_alike p offset c d b = record {
  part = λ i. record { lone = same.lone i; slot = (hosts p c d b).slot i; mailbox = box i; end = ends p c d b i; raised = (b.alike.part i).raised };
  ids = b.alike.ids;
  default_pool = b.alike.default_pool;
  limit = b.alike.limit;
}
  where
    same : EventsAlike p c.hosted.device.world d.hosted.device.world (VfRead p offset)
    same = events p c d (VfRead p offset) (mine p) b

    box : slice_index_or (mailboxes_read c.hosted p offset) p blank ≡ slice_index_or (mailboxes_read d.hosted p offset) p blank
    box =
        box_if c.hosted.mailboxes p (box_read (mailbox_at c.hosted p) offset) (boxes_in c p b.one b.below) (takes c.hosted (VfRead p offset))
        ∙ (λ i. if takes_alike p c d (VfRead p offset) same i then box_read (boxes p c d b i) offset else boxes p c d b i)
        ∙ sym (box_if d.hosted.mailboxes p (box_read (mailbox_at d.hosted p) offset) (boxes_in d p b.two b.below) (takes d.hosted (VfRead p offset)))

value_alike : (p offset : ℕ) (c d : CardState) → Pair p c d → read_reply c.hosted p offset ≡ read_reply d.hosted p offset
value_alike p offset c d b = λ i. by_mailbox (read_at (boxes p c d b i) offset) ((events p c d (VfRead p offset) (mine p) b).reply i)

-- ---- turns of p's own

-- what the device does in them
pub settled : (p : ℕ) (c : CardState) (ts : List Turn) → IsCard c → All IsTurn ts → (world_after c.hosted.device.world (events_of c.hosted.host ts)).settings ≡ settings_of (host_at_end c.hosted.host ts)
settled p c ts is all = run_settles c.hosted.host c.hosted.device.world ts is.hosted.settings is.hosted.ids all

-- what the host does, where the device took the write: it answers, or it forgets
abbrev mail_if : Bool → Bool → Bool → ℕ → Message → List Turn
mail_if t r s p m = if t then (if r then Answers p m ∷ [] else (if s then Forgets p ∷ [] else [])) else []

abbrev asked_if : Bool → Bool → Message → Option ℕ
asked_if t r m = if t && r then asked_address m else None

-- of p alone its settings change by that
abbrev pub KeepsFunction : ℕ → World → List Event → Type 0
KeepsFunction p w es = lone_of p (world_after w es) ≡ with_settings (lone_of p w) (own (world_after w es).settings p)

lone_mail : (t r s : Bool) (p : ℕ) (m : Message) (h : HostState) (w : World) → KeepsFunction p w (events_of h (mail_if t r s p m))
lone_mail true true s p m h w = subst (KeepsFunction p w) (sym (append-nil (write_events (writes_after h p m)))) (lone_written p w (writes_after h p m))
lone_mail true false true p m h w = subst (KeepsFunction p w) (sym (append-nil (write_events (writes_without h p)))) (lone_written p w (writes_without h p))
lone_mail true false false p m h w = refl
lone_mail false r s p m h w = refl

hosts_mail : (t r s : Bool) (p : ℕ) (m : Message) (h k : HostState) → p < 64 → HostsAlike p h k → is_held h p (asked_if t r m) ≡ is_held k p (asked_if t r m) → HostsAlike p (host_at_end h (mail_if t r s p m)) (host_at_end k (mail_if t r s p m))
hosts_mail true true s p m h k below is held = answer_alike p h k m below is held
hosts_mail true false true p m h k below is held = forgotten_alike p h k below is
hosts_mail true false false p m h k below is held = is
hosts_mail false r s p m h k below is held = is

-- the mailbox after it
abbrev box_after : Bool → Bool → Bool → HostState → ℕ → MailboxState → MailboxState → MailboxState
box_after t r s h p m b = if t then (if r then reply_to h p b else (if s then blank else b)) else m

box_mail : (t r s : Bool) (p : ℕ) (m b : MailboxState) (h k : HostState) → HostsAlike p h k → is_held h p (asked_if t r (message_of b.words)) ≡ is_held k p (asked_if t r (message_of b.words)) → box_after t r s h p m b ≡ box_after t r s k p m b
box_mail true true s p m b h k is held = reply_alike p h k b is held
box_mail true false s p m b h k is held = refl
box_mail false r s p m b h k is held = refl

-- ---- a write

write_alike : (p offset x : ℕ) (c d : CardState) → Pair p c d → is_held c.hosted.host p (asked_by c p offset x) ≡ is_held d.hosted.host p (asked_by d p offset x) → AreAlike p (after_write c p offset x) (after_write d p offset x)
write_alike p offset x c d b held = record {
  part = λ i. record { lone = lone i; slot = after.slot i; mailbox = box i; end = end i; raised = raised i };
  ids = after.ids;
  default_pool = after.pool;
  limit = after.limit;
}
  where
    e : Event
    e = VfWrite p offset x

    r : Bool
    r = rings offset x

    s : Bool
    s = resets offset x

    same : EventsAlike p c.hosted.device.world d.hosted.device.world e
    same = events p c d e (mine p) b

    taken : takes c.hosted e ≡ takes d.hosted e
    taken = takes_alike p c d e same

    written : box_written (mailbox_at c.hosted p) offset x ≡ box_written (mailbox_at d.hosted p) offset x
    written = ap (λ (m : MailboxState). box_written m offset x) (boxes p c d b)

    t : Bool
    t = takes c.hosted e

    new : MailboxState
    new = box_written (mailbox_at c.hosted p) offset x

    m : Message
    m = message_of new.words

    once : is_held c.hosted.host p (asked_if t r m) ≡ is_held d.hosted.host p (asked_if t r m)
    once = held ∙ sym (λ i. is_held d.hosted.host p (asked_if (taken i) r (message_of (written i).words)))

    after : HostsAlike p (host_at_end c.hosted.host (write_turns c.hosted p offset x)) (host_at_end d.hosted.host (write_turns d.hosted p offset x))
    after = subst (λ (ts : List Turn). HostsAlike p (host_at_end c.hosted.host (mail_if t r s p m)) (host_at_end d.hosted.host ts))
        (λ i. mail_if (taken i) r s p (message_of (written i).words))
        (hosts_mail t r s p m c.hosted.host d.hosted.host b.below (hosts p c d b) once)

    lone_at : (y : CardState) → IsCard y → p < 64 → lone_of p (after_write y p offset x).hosted.device.world ≡ with_settings (lone_of p (step y.hosted.device.world e).world) (own (settings_of (host_at_end y.hosted.host (write_turns y.hosted p offset x))) p)
    lone_at y is below =
        lone_mail (takes y.hosted e) r s p (message_of (box_written (mailbox_at y.hosted p) offset x).words) y.hosted.host (step y.hosted.device.world e).world
        ∙ ap (λ set. with_settings (lone_of p (step y.hosted.device.world e).world) (own set p))
        (settled p y (write_turns y.hosted p offset x) is (are_turns p (write_turns y.hosted p offset x) below (own_write y.hosted p offset x)))

    lone : lone_of p (after_write c p offset x).hosted.device.world ≡ lone_of p (after_write d p offset x).hosted.device.world
    lone =
        lone_at c b.one b.below
        ∙ (λ i. with_settings (same.lone i) (own_alike p (host_at_end c.hosted.host (write_turns c.hosted p offset x)) (host_at_end d.hosted.host (write_turns d.hosted p offset x)) b.below after i))
        ∙ sym (lone_at d b.two b.below)

    box : slice_index_or (mailboxes_written c.hosted p offset x) p blank ≡ slice_index_or (mailboxes_written d.hosted p offset x) p blank
    box =
        box_if c.hosted.mailboxes p (mailed c.hosted.host p (mailbox_at c.hosted p) offset x) (boxes_in c p b.one b.below) (takes c.hosted e)
        ∙ box_mail t r s p (mailbox_at c.hosted p) new c.hosted.host d.hosted.host (hosts p c d b) once
        ∙ (λ i. box_after (taken i) r s d.hosted.host p (boxes p c d b i) (written i))
        ∙ sym (box_if d.hosted.mailboxes p (mailed d.hosted.host p (mailbox_at d.hosted p) offset x) (boxes_in d p b.two b.below) (takes d.hosted e))

    end : end_at (after_write c p offset x) p ≡ end_at (after_write d p offset x) p
    end =
        get_or-set_same c.ends p (marked (end_at c p) offset) quiet (omega (arith, b.below, b.one.ends))
        ∙ ap (λ (n : EndState). marked n offset) (ends p c d b)
        ∙ sym (get_or-set_same d.ends p (marked (end_at d p) offset) quiet (omega (arith, b.below, b.two.ends)))

    raised : slice_index (after_write c p offset x).raised p ≡ slice_index (after_write d p offset x).raised p
    raised =
        get_or-set_same c.raised p _ 0 (omega (arith, b.below, b.one.raised))
        ∙ (λ i. either ((b.alike.part i).raised) (same.raised i))
        ∙ sym (get_or-set_same d.raised p _ 0 (omega (arith, b.below, b.two.raised)))

-- ---- a reset

pub reset_alike : (p : ℕ) (c d : CardState) → Pair p c d → AreAlike p (after_reset c p) (after_reset d p)
reset_alike p c d b = record {
  part = λ i. record { lone = lone i; slot = after.slot i; mailbox = box i; end = end i; raised = raised i };
  ids = after.ids;
  default_pool = after.pool;
  limit = after.limit;
}
  where
    e : Event
    e = Flr p

    same : EventsAlike p c.hosted.device.world d.hosted.device.world e
    same = events p c d e (mine p) b

    taken : takes c.hosted e ≡ takes d.hosted e
    taken = takes_alike p c d e same

    t : Bool
    t = takes c.hosted e

    -- as where a write has the host forget
    after : HostsAlike p (host_at_end c.hosted.host (reset_turns c.hosted p)) (host_at_end d.hosted.host (reset_turns d.hosted p))
    after = subst (λ (ts : List Turn). HostsAlike p (host_at_end c.hosted.host (mail_if t false true p Other)) (host_at_end d.hosted.host ts))
        (λ i. mail_if (taken i) false true p Other)
        (hosts_mail t false true p Other c.hosted.host d.hosted.host b.below (hosts p c d b) (none t))
      where
        none : (u : Bool) → is_held c.hosted.host p (asked_if u false Other) ≡ is_held d.hosted.host p (asked_if u false Other)
        none true = refl
        none false = refl

    lone_at : (y : CardState) → IsCard y → p < 64 → lone_of p (after_reset y p).hosted.device.world ≡ with_settings (lone_of p (step y.hosted.device.world e).world) (own (settings_of (host_at_end y.hosted.host (reset_turns y.hosted p))) p)
    lone_at y is below =
        lone_mail (takes y.hosted e) false true p Other y.hosted.host (step y.hosted.device.world e).world
        ∙ ap (λ set. with_settings (lone_of p (step y.hosted.device.world e).world) (own set p))
        (settled p y (reset_turns y.hosted p) is (are_turns p (reset_turns y.hosted p) below (own_reset y.hosted p)))

    lone : lone_of p (after_reset c p).hosted.device.world ≡ lone_of p (after_reset d p).hosted.device.world
    lone =
        lone_at c b.one b.below
        ∙ (λ i. with_settings (same.lone i) (own_alike p (host_at_end c.hosted.host (reset_turns c.hosted p)) (host_at_end d.hosted.host (reset_turns d.hosted p)) b.below after i))
        ∙ sym (lone_at d b.two b.below)

    box : slice_index_or (mailboxes_reset c.hosted p) p blank ≡ slice_index_or (mailboxes_reset d.hosted p) p blank
    box =
        box_if c.hosted.mailboxes p box_reset (boxes_in c p b.one b.below) (takes c.hosted e)
        ∙ (λ i. if taken i then box_reset else boxes p c d b i)
        ∙ sym (box_if d.hosted.mailboxes p box_reset (boxes_in d p b.two b.below) (takes d.hosted e))

    end : end_at (after_reset c p) p ≡ end_at (after_reset d p) p
    end =
        get_or-set_same c.ends p (record (end_at c p) { busy_0 = false; busy_1 = false }) quiet (omega (arith, b.below, b.one.ends))
        ∙ ap (λ (n : EndState). record n { busy_0 = false; busy_1 = false }) (ends p c d b)
        ∙ sym (get_or-set_same d.ends p (record (end_at d p) { busy_0 = false; busy_1 = false }) quiet (omega (arith, b.below, b.two.ends)))

    raised : slice_index (after_reset c p).raised p ≡ slice_index (after_reset d p).raised p
    raised =
        get_or-set_same c.raised p 0 0 (omega (arith, b.below, b.one.raised))
        ∙ sym (get_or-set_same d.raised p 0 0 (omega (arith, b.below, b.two.raised)))

-- ---- a message

-- with another end of p, the same in both
pub session_pair : (p : ℕ) (c d : CardState) (e f : EndState) → Pair p c d → e ≡ f → Pair p (with_end c p e) (with_end d p f)
session_pair p c d e f b same = record {
  below = b.below;
  one = record { hosted = b.one.hosted; ends = length-set c.ends p e ∙ b.one.ends; raised = b.one.raised; sets = b.one.sets };
  two = record { hosted = b.two.hosted; ends = length-set d.ends p f ∙ b.two.ends; raised = b.two.raised; sets = b.two.sets };
  there = b.there;
  also_there = b.also_there;
  alike = record {
    part = λ i. record { lone = (b.alike.part i).lone; slot = (b.alike.part i).slot; mailbox = (b.alike.part i).mailbox; end = end i; raised = (b.alike.part i).raised };
    ids = b.alike.ids;
    default_pool = b.alike.default_pool;
    limit = b.alike.limit;
  };
}
  where
    end : end_at (with_end c p e) p ≡ end_at (with_end d p f) p
    end = get_or-set_same c.ends p e quiet (omega (arith, b.below, b.one.ends)) ∙ same ∙ sym (get_or-set_same d.ends p f quiet (omega (arith, b.below, b.two.ends)))

asked_alike : (p : ℕ) (c d : CardState) (a : Ask) (o : Owed) → Pair p c d → is_held c.hosted.host p (asked_in c p (Some a)) ≡ is_held d.hosted.host p (asked_in d p (Some a)) → IsToldAlike p (asked c p a o) (asked d p a o)
asked_alike p c d (Read offset) o b held = record { cards = read_alike p offset c d b; reply = λ i. answer_to o (Value (value_in (value_alike p offset c d b i))); order = refl; owed = refl; ends = refl }
asked_alike p c d (Write offset x) o b held = record { cards = write_alike p offset x c d b held; reply = refl; order = refl; owed = refl; ends = refl }
asked_alike p c d Reset o b held = record { cards = reset_alike p c d b; reply = refl; order = refl; owed = refl; ends = refl }
asked_alike p c d (Map mapping) o b held = record { cards = b.alike; reply = refl; order = refl; owed = refl; ends = refl }
asked_alike p c d (Unmap range) o b held = record { cards = b.alike; reply = refl; order = refl; owed = refl; ends = refl }
asked_alike p c d (Arm vectors) o b held = record { cards = b.alike; reply = refl; order = refl; owed = refl; ends = refl }
asked_alike p c d (Disarm vectors) o b held = record { cards = b.alike; reply = refl; order = refl; owed = refl; ends = refl }

by_alike : (p : ℕ) (c d : CardState) (r : Received) (a : Option Ask) (o : Option Owed) → Pair p c d → is_held c.hosted.host p (asked_in c p a) ≡ is_held d.hosted.host p (asked_in d p a) → IsToldAlike p (told_by c p r a o) (told_by d p r a o)
by_alike p c d r (Some a) (Some o) b held = asked_alike p c d a o b held
by_alike p c d r (Some a) None b held = record { cards = b.alike; reply = refl; order = refl; owed = refl; ends = refl }
by_alike p c d r None o b held = record { cards = b.alike; reply = refl; order = refl; owed = refl; ends = refl }

with_alike : (p : ℕ) (c d : CardState) (r : Received) → Pair p c d → is_held c.hosted.host p (asked_in c p r.asks) ≡ is_held d.hosted.host p (asked_in d p r.asks) → IsToldAlike p (told_with c p r) (told_with d p r)
with_alike p c d r b held =
    by_alike p (with_end c p (record (end_at c p) { session = r.session })) (with_end d p (record (end_at d p) { session = r.session })) r r.asks r.owed
    (session_pair p c d (record (end_at c p) { session = r.session }) (record (end_at d p) { session = r.session }) b (ap (λ (n : EndState). record n { session = r.session }) (ends p c d b)))
    (asked_same r.asks held)
  where
    asked_same : (a : Option Ask) → is_held c.hosted.host p (asked_in c p a) ≡ is_held d.hosted.host p (asked_in d p a)
        → is_held c.hosted.host p (asked_in (with_end c p (record (end_at c p) { session = r.session })) p a) ≡ is_held d.hosted.host p (asked_in (with_end d p (record (end_at d p) { session = r.session })) p a)
    asked_same None same = same
    asked_same (Some (Read offset)) same = same
    asked_same (Some (Write offset x)) same = same
    asked_same (Some Reset) same = same
    asked_same (Some (Map mapping)) same = same
    asked_same (Some (Unmap range)) same = same
    asked_same (Some (Arm vectors)) same = same
    asked_same (Some (Disarm vectors)) same = same

pub told_alike : (p : ℕ) (c d : CardState) (message : List ℕ) (files : ℕ) → p < 64 → IsCard c → IsCard d → p < length c.hosted.device.world.functions → p < length d.hosted.device.world.functions
    → is_address_held c p message files ≡ is_address_held d p message files → AreAlike p c d → IsToldAlike p (told c p message files) (told d p message files)
unfolding told
told_alike p c d message files below one two there also_there held alike =
    subst (λ (r : Received). IsToldAlike p (told_with c p (received (end_at c p).session message files)) (told_with d p r))
    (λ i. received (ends p c d b i).session message files)
    (with_alike p c d (received (end_at c p).session message files) b once)
  where
    b : Pair p c d
    b = record { below = below; one = one; two = two; there = there; also_there = also_there; alike = alike }

    once : is_held c.hosted.host p (asked_in c p (received (end_at c p).session message files).asks) ≡ is_held d.hosted.host p (asked_in d p (received (end_at c p).session message files).asks)
    once = held ∙ sym (λ i. is_held d.hosted.host p (asked_in d p (received (ends p c d b i).session message files).asks))
