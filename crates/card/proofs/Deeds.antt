-- One deed: where it gives function p nothing, p is as it was and shows nothing; and two deeds that give it the same, from cards in which it is the
-- same, are the same to it.
use Rattle.std.proofs.Common.{[], lt-ltb, ◌≡◌, ◌≢◌, ℕ, zero, suc, ◌<◌, ◌≤◌, Bool, true, false, List, ◌∷◌, ◌++◌, Option, Some, None, length, refl, sym, ap, ◌∙◌, subst, arith}
use Rattle.std.specs.Prelude.{◌==◌, ◌&&◌, ◌||◌, bit_and, is_none, not, slice_index, slice_index_or, slice_set, if◌then◌else◌}
use Rattle.std.specs.List.{cons_option}
use Rattle.std.specs.Option.{option_map}
use Rattle.std.proofs.lemmas.Bool.{eq-eqb, eqb-true, false≢true, lt-leb}
use Rattle.std.proofs.lemmas.List.{append-nil, get_or-set_other, get_or-set_same, length-set}
use Rattle.std.proofs.lemmas.List.Elements.{All-cons, All-nil}
use Rattle.irq_causes.specs.Causes.{◌without◌}
use Rattle.irq_causes.specs.Messages.{both, either}
use Rattle.wire_frame.specs.declared.fault.Fault.{Fault}
use Rattle.vf_unit.specs.Unit.{Closed, size_of}
use Rattle.vf_unit.specs.declared.registers.Queue.{Queue}
use Rattle.pool_filter.specs.Own.{own}
use Rattle.local_switch.specs.Switch.{is_pool}
use Rattle.device.specs.Across.{Attach, Came, Detach, GuestItem, Kept as StepKept, Prompt, Prompted, Replace, Saw, Sight, Step, accesses_in as device_accesses_in, after_steps, all_accesses, came, kept_in, sight_in, sights, stepped}
use Rattle.device.specs.Across.Step.{Happens as DeviceHappens, Comes as DeviceComes, Goes as DeviceGoes, Prompts as DevicePrompts, Replaces as DeviceReplaces}
use Rattle.device.proofs.Across.{same_for}
use Rattle.device.specs.Act.{serve}
use Rattle.device.specs.Events.{Event}
use Rattle.device.specs.declared.event.Event.TheVariants.{Serve}
use Rattle.device.specs.Guests.{attach_refusal, attached, detached, is_vacant, prompt_messages}
use Rattle.device.specs.Lone.{Lone, Item, OwnEvent, Replied, Interrupted, interrupted, is_own, kept, kept_of, lone_of, pool_of, with_settings}
use Rattle.device.specs.Replies.{Reply}
use Rattle.device.specs.World.{World, function_of, sent_by, service, step, with_function, world_after}
use Rattle.live_run.specs.Bursts.{goes_on}
use Rattle.mailbox.specs.declared.mailbox.Notice.{Notice}
use Rattle.mailbox.specs.declared.mailbox.Notice.TheVariants.{Raises, Waits}
use Rattle.mailbox.specs.declared.not_admitted.NotAdmitted.TheVariants.{NotUnicast, AddressOwned, NoSuchPlace}
use Rattle.mailbox.specs.declared.not_admitted.NotAdmitted.{NotAdmitted}
use Rattle.mailbox.specs.declared.policy.Policy.{Policy}
use Rattle.mailbox.specs.declared.slot.Slot.{Slot}
use Rattle.mailbox.specs.declared.slot.Slot.TheVariants.{Absent}
use Rattle.mailbox.specs.declared.writes.Write.{Write}
use Rattle.mailbox.specs.Address.{is_number, is_unicast, number_of}
use Rattle.mailbox.specs.Host.{freed_by, host_admitting, host_dismissing, host_freed, host_under, host_without, refusal}
use Rattle.mailbox.specs.Keeping.{under, without_address}
use Rattle.mailbox.specs.Mailbox.{MailboxState, blank, notice_in, noticed}
use Rattle.mailbox.specs.Policy.{is_placed}
use Rattle.mailbox.specs.Replies.{notice_head, notified}
use Rattle.mailbox.specs.Slot.{holds}
use Rattle.mailbox.specs.State.{HostState, first_where, holder, is_owned, other_holds, slot_at, with_slot}
use Rattle.mailbox.specs.Words.{settings_of}
use Rattle.mailbox.specs.Writes.{writes_dismissing, writes_without}
use Rattle.mailbox.proofs.Isolation.{slot_stays}
use Rattle.mailbox.proofs.Turns.{some_is}
use Rattle.mailbox_laws.specs.Turns.{IsTurn, Turn, events_of, host_at_end, write_events, writes_admitting}
use Rattle.mailbox_laws.specs.Turns.Turn.{Admits as AdmitsTurn, Dismisses as DismissesTurn, Forgets}
use Rattle.mailbox_laws.proofs.Kept.{run_settles}
use Rattle.hosted.specs.Hosted.{mailbox_at}
use Rattle.hosted.specs.Turns.{prompted_by, vectors_by}
use Rattle.card.specs.Alike.{AreAlike, IsToldAlike, Part, is_address_held}
use Rattle.card.specs.Card.{CardState, end_at, quiet}
use Rattle.card.specs.Life.{Deed, Hears, Happens, Signals, Resets, Comes, Goes, Replaces, Admits, Dismisses, Notifies, Show, Heard, Seen, Signalled, Judged, Noticed, accesses_in, sent_in, after_coming, after_deed, ends_after, heard_in, loses_to, over_world, shown_in, without_guest, world_of}
use Rattle.card.specs.Served.{signalled, with_busy}
use Rattle.card.specs.Told.{told, turned}
use Rattle.card.proofs.Hosts.{HostsAlike, own_alike}
use Rattle.card.proofs.Own.{EventsAlike, forgotten_alike, lone_written, with_alike}
use Rattle.card.proofs.Parts.{KeepsFunction, Pair, boxes, boxes_in, ends, events, hosts, mine, reset_alike, told_alike}
use Rattle.card.proofs.Raised.{both_here, either_none}
use Rattle.card.proofs.Standing.{IsSameForAll, admitting_same}

-- ---- what is shown of a deed, and what is left

-- a deed that leaves p as it is, and of which it shows nothing
pub record Passes (p : ℕ) (c : CardState) (x : Deed) : Type 0 where
  pub cards : AreAlike p (after_deed c x) c
  pub shown : shown_in p c x ≡ None
  pub accesses : accesses_in p c x ≡ []
  pub sent : sent_in p c x ≡ None

-- two deeds that are the same to p
pub record Meets (p : ℕ) (c : CardState) (x : Deed) (d : CardState) (y : Deed) : Type 0 where
  pub cards : AreAlike p (after_deed c x) (after_deed d y)
  pub shown : shown_in p c x ≡ shown_in p d y
  pub accesses : accesses_in p c x ≡ accesses_in p d y
  pub sent : sent_in p c x ≡ sent_in p d y

-- what is of another is not p's own
pub apart : (q p : ℕ) → p ≢ q → (q == p) ≡ false
apart q p other = go (q == p) refl
  where
    go : (b : Bool) → (q == p) ≡ b → (q == p) ≡ false
    go true same = absurd (other (sym (eqb-true q p same)))
    go false differ = differ

-- ---- in the device

one_shown : {X : Type 0} (a b : Option X) → cons_option a [] ≡ cons_option b [] → a ≡ b
one_shown None None same = refl
one_shown None (Some y) same = cc
one_shown (Some x) None same = cc
one_shown (Some x) (Some y) same = cc

none_shown : {X : Type 0} (a : Option X) → cons_option a [] ≡ [] → a ≡ None
none_shown None same = refl
none_shown (Some x) same = cc

-- two steps of the device that keep the same for p
record StepsAlike (p : ℕ) (w : World) (t : Step) (v : World) (u : Step) : Type 0 where
  pub shown : sight_in p w t ≡ sight_in p v u
  pub lone : lone_of p (stepped w t) ≡ lone_of p (stepped v u)
  pub accesses : device_accesses_in p w t ≡ device_accesses_in p v u

steps_alike : (p : ℕ) (w v : World) (t u : Step) → p < length w.functions → length w.functions ≤ 64 → p < length v.functions → length v.functions ≤ 64
    → lone_of p w ≡ lone_of p v → kept_in p w t ≡ kept_in p v u → StepsAlike p w t v u
steps_alike p w v t u there few also_there also_few same kept_same =
    let all : (sights p w (t ∷ []) ≡ sights p v (u ∷ [])) × (lone_of p (after_steps w (t ∷ [])) ≡ lone_of p (after_steps v (u ∷ []))) × (all_accesses p w (t ∷ []) ≡ all_accesses p v (u ∷ []))
    = same_for p w v (t ∷ []) (u ∷ []) there few also_there also_few same (ap (λ (k : Option GuestItem). cons_option k []) kept_same) in
    record {
      shown = one_shown (sight_in p w t) (sight_in p v u) all.0;
      lone = all.1;
      accesses = sym (append-nil (device_accesses_in p w t)) ∙ all.2 ∙ append-nil (device_accesses_in p v u);
    }

-- a step that keeps nothing for p
record StepPasses (p : ℕ) (w : World) (t : Step) : Type 0 where
  pub shown : sight_in p w t ≡ None
  pub lone : lone_of p (stepped w t) ≡ lone_of p w
  pub accesses : device_accesses_in p w t ≡ []

step_passes : (p : ℕ) (w : World) (t : Step) → p < length w.functions → length w.functions ≤ 64 → kept_in p w t ≡ None → StepPasses p w t
step_passes p w t there few none =
    let all : (sights p w (t ∷ []) ≡ sights p w []) × (lone_of p (after_steps w (t ∷ [])) ≡ lone_of p (after_steps w [])) × (all_accesses p w (t ∷ []) ≡ all_accesses p w [])
    = same_for p w w (t ∷ []) [] there few there few refl (ap (λ (k : Option GuestItem). cons_option k []) none) in
    record {
      shown = none_shown (sight_in p w t) all.0;
      lone = all.1;
      accesses = sym (append-nil (device_accesses_in p w t)) ∙ all.2;
    }

-- ---- an event

-- another's event leaves p's end
ends_apart : (p : ℕ) (c : CardState) (e : Event) (reply : Reply) → is_pool (pool_of e) p ≡ false → slice_index_or (ends_after c e reply) p quiet ≡ end_at c p
ends_apart p c (Serve r q) reply apart = get_or-set_other c.ends r p (with_busy (end_at c r) q (goes_on reply)) quiet (λ same. false≢true (sym apart ∙ eq-eqb r p (sym same)))
ends_apart p c e reply apart = refl

-- and its own makes the same of it
ends_own : (p : ℕ) (c d : CardState) (e : Event) (one two : Reply) → Pair p c d → is_pool (pool_of e) p ≡ true → one ≡ two
    → slice_index_or (ends_after c e one) p quiet ≡ slice_index_or (ends_after d e two) p quiet
ends_own p c d (Serve r q) one two b own same =
    subst (λ (k : ℕ). slice_index_or (slice_set c.ends k (with_busy (end_at c k) q (goes_on one))) p quiet ≡ slice_index_or (slice_set d.ends k (with_busy (end_at d k) q (goes_on two))) p quiet)
    (sym (eqb-true r p own))
    (get_or-set_same c.ends p (with_busy (end_at c p) q (goes_on one)) quiet (omega (arith, b.below, b.one.ends))
    ∙ (λ i. with_busy (ends p c d b i) q (goes_on (same i)))
    ∙ sym (get_or-set_same d.ends p (with_busy (end_at d p) q (goes_on two)) quiet (omega (arith, b.below, b.two.ends))))
ends_own p c d e one two b own same = ends p c d b

-- what p is, once the device's part of it, its end and its vectors are known
event_part : (p : ℕ) (c d : CardState) (e f : Event) → Pair p c d → lone_of p (step (world_of c) e).world ≡ lone_of p (step (world_of d) f).world
    → slice_index_or (ends_after c e (step (world_of c) e).answer.reply) p quiet ≡ slice_index_or (ends_after d f (step (world_of d) f).answer.reply) p quiet
    → slice_index (step (world_of c) e).answer.raised p ≡ slice_index (step (world_of d) f).answer.raised p
    → AreAlike p (after_deed c (Happens e)) (after_deed d (Happens f))
event_part p c d e f b lone end raised = record {
  part = λ i. record { lone = lone i; slot = (b.alike.part i).slot; mailbox = (b.alike.part i).mailbox; end = end i; raised = vectors i };
  ids = b.alike.ids;
  default_pool = b.alike.default_pool;
  limit = b.alike.limit;
}
  where
    vectors : slice_index (both c.raised (step (world_of c) e).answer.raised) p ≡ slice_index (both d.raised (step (world_of d) f).answer.raised) p
    vectors =
        both_here c.raised (step (world_of c) e).answer.raised p b.below
        ∙ (λ i. either ((b.alike.part i).raised) (raised i))
        ∙ sym (both_here d.raised (step (world_of d) f).answer.raised p b.below)

-- the vectors that an observation has
abbrev messages_in : Option Sight → ℕ
messages_in (Some (Saw (Replied reply n))) = n
messages_in (Some (Saw (Interrupted n))) = n
messages_in _ = 0

messages_seen : (n : ℕ) → messages_in (option_map Saw (interrupted n)) ≡ n
messages_seen n = go (n == 0) refl
  where
    go : (b : Bool) → (n == 0) ≡ b → messages_in (option_map Saw (if b then None else Some (Interrupted n))) ≡ n
    go true none = sym (eqb-true n 0 none)
    go false some = refl

apart_seen : (p : ℕ) (w : World) (e : Event) → is_own p e ≡ false → messages_in (sight_in p w (DeviceHappens e)) ≡ slice_index (step w e).answer.raised p
apart_seen p w e apart =
    ap (λ (b : Bool). messages_in (option_map Saw (if b then Some (Replied (step w e).answer.reply (slice_index (step w e).answer.raised p)) else interrupted (slice_index (step w e).answer.raised p)))) apart
    ∙ messages_seen (slice_index (step w e).answer.raised p)

-- what is kept of another's event
apart_kept : (p : ℕ) (w : World) (e : Event) (k : Option Item) → is_own p e ≡ false → kept_of p w e ≡ k → kept p w e ≡ k
apart_kept p w e k apart is = ap (λ (b : Bool). if b then Some (OwnEvent e) else kept_of p w e) apart ∙ is

-- what p sends: nothing by another's event
apart_sent : (p : ℕ) (w : World) (e : Event) → is_own p e ≡ false → (if is_own p e then sent_by w e else None) ≡ None
apart_sent p w e apart = ap (λ (b : Bool). if b then sent_by w e else None) apart

-- and by its own what its lone function sends
sent_here : (p : ℕ) (w : World) (q : Queue) → p < length w.functions → sent_by w (Serve p q) ≡ (service w p q).sent
sent_here p w q there = ap (λ (b : Bool). if b then (service w p q).sent else None) (lt-ltb p (length w.functions) there)

own_sent : (p : ℕ) (w v : World) (e : Event) → p < length w.functions → p < length v.functions → lone_of p w ≡ lone_of p v → is_own p e ≡ true
    → (if is_own p e then sent_by w e else None) ≡ (if is_own p e then sent_by v e else None)
own_sent p w v (Serve r q) there also_there same its =
    ap (λ (o : Option (List ℕ)). if r == p then o else None)
    (subst (λ (k : ℕ). sent_by w (Serve k q) ≡ sent_by v (Serve k q)) (sym (eqb-true r p its))
    (sent_here p w q there ∙ ap (λ (s : Lone). (serve s.profile.limit s.settings s.function q).sent) same ∙ sym (sent_here p v q also_there)))
own_sent p w v e there also_there same its = refl

-- an event of another's that leaves p nothing
pub event_passes : (p : ℕ) (c : CardState) (e : Event) → Pair p c c → is_own p e ≡ false → kept_of p (world_of c) e ≡ None → Passes p c (Happens e)
event_passes p c e b apart none = record {
  cards = record {
    part = λ i. record { lone = passes.lone i; slot = slot_at c.hosted.host p; mailbox = mailbox_at c.hosted p; end = end i; raised = raised i };
    ids = refl;
    default_pool = refl;
    limit = refl;
  };
  shown = ap (option_map Seen) passes.shown;
  accesses = passes.accesses;
  sent = apart_sent p w e apart;
}
  where
    w : World
    w = world_of c

    passes : StepPasses p w (DeviceHappens e)
    passes = step_passes p w (DeviceHappens e) b.there b.one.hosted.functions (ap (option_map StepKept) (apart_kept p w e None apart none))

    end : slice_index_or (ends_after c e (step w e).answer.reply) p quiet ≡ end_at c p
    end = ends_apart p c e (step w e).answer.reply apart

    silent : slice_index (step w e).answer.raised p ≡ 0
    silent = sym (apart_seen p w e apart) ∙ ap messages_in passes.shown

    raised : slice_index (both c.raised (step w e).answer.raised) p ≡ slice_index c.raised p
    raised = both_here c.raised (step w e).answer.raised p b.below ∙ ap (either (slice_index c.raised p)) silent ∙ either_none (slice_index c.raised p) (b.one.sets p)

-- two that leave it the same
pub events_meet : (p : ℕ) (c d : CardState) (e f : Event) (k : Item) → Pair p c d → is_own p e ≡ false → is_own p f ≡ false → kept_of p (world_of c) e ≡ Some k → kept_of p (world_of d) f ≡ Some k
    → Meets p c (Happens e) d (Happens f)
events_meet p c d e f k b apart also_apart is also = record {
  cards = event_part p c d e f b meet.lone
      (ends_apart p c e (step (world_of c) e).answer.reply apart ∙ ends p c d b ∙ sym (ends_apart p d f (step (world_of d) f).answer.reply also_apart))
      (sym (apart_seen p (world_of c) e apart) ∙ ap messages_in meet.shown ∙ apart_seen p (world_of d) f also_apart);
  shown = ap (option_map Seen) meet.shown;
  accesses = meet.accesses;
  sent = apart_sent p (world_of c) e apart ∙ sym (apart_sent p (world_of d) f also_apart);
}
  where
    meet : StepsAlike p (world_of c) (DeviceHappens e) (world_of d) (DeviceHappens f)
    meet = steps_alike p (world_of c) (world_of d) (DeviceHappens e) (DeviceHappens f) b.there b.one.hosted.functions b.also_there b.two.hosted.functions (ap (λ (r : Part). r.lone) b.alike.part)
        (ap (option_map StepKept) (apart_kept p (world_of c) e (Some k) apart is ∙ sym (apart_kept p (world_of d) f (Some k) also_apart also)))

-- its own event
pub event_own : (p : ℕ) (c d : CardState) (e : Event) → Pair p c d → is_own p e ≡ true → Meets p c (Happens e) d (Happens e)
event_own p c d e b mine = record {
  cards = event_part p c d e e b meet.lone (ends_own p c d e (step (world_of c) e).answer.reply (step (world_of d) e).answer.reply b mine same.reply) same.raised;
  shown = ap (option_map Seen) meet.shown;
  accesses = meet.accesses;
  sent = own_sent p (world_of c) (world_of d) e b.there b.also_there (ap (λ (r : Part). r.lone) b.alike.part) mine;
}
  where
    same : EventsAlike p (world_of c) (world_of d) e
    same = events p c d e mine b

    here : (w : World) → kept p w e ≡ Some (OwnEvent e)
    here w = ap (λ (m : Bool). if m then Some (OwnEvent e) else kept_of p w e) mine

    meet : StepsAlike p (world_of c) (DeviceHappens e) (world_of d) (DeviceHappens e)
    meet = steps_alike p (world_of c) (world_of d) (DeviceHappens e) (DeviceHappens e) b.there b.one.hosted.functions b.also_there b.two.hosted.functions (ap (λ (r : Part). r.lone) b.alike.part)
        (ap (option_map StepKept) (here (world_of c) ∙ sym (here (world_of d))))

-- ---- turns of the host

-- the writes of the physical function's registers that the host has the device do change of p its settings alone, and these are the host's
host_lone : (p : ℕ) (h : HostState) (w : World) (t : Turn) (ws : List Write) → w.settings ≡ settings_of h → length h.ids ≤ 64 → IsTurn t → events_of h (t ∷ []) ≡ write_events ws ++ []
    → lone_of p (world_after w (events_of h (t ∷ []))) ≡ with_settings (lone_of p w) (own (settings_of (host_at_end h (t ∷ []))) p)
host_lone p h w t ws is few turn done =
    subst (KeepsFunction p w) (sym (done ∙ append-nil (write_events ws))) (lone_written p w ws)
    ∙ ap (λ s. with_settings (lone_of p w) (own s p)) (run_settles h w (t ∷ []) is few (All-cons IsTurn t [] turn (All-nil IsTurn)))

-- so where p is the same to the host after two turns, it is the same in the devices
record TurnsAlike (p : ℕ) (h : HostState) (w : World) (t : Turn) (k : HostState) (v : World) (u : Turn) : Type 0 where
  pub ws : List Write
  pub also_ws : List Write
  pub done : events_of h (t ∷ []) ≡ write_events ws ++ []
  pub also_done : events_of k (u ∷ []) ≡ write_events also_ws ++ []
  pub turn : IsTurn t
  pub also_turn : IsTurn u
  pub settings : w.settings ≡ settings_of h
  pub also_settings : v.settings ≡ settings_of k
  pub few : length h.ids ≤ 64
  pub also_few : length k.ids ≤ 64
  pub lone : lone_of p w ≡ lone_of p v
  pub hosts : HostsAlike p (host_at_end h (t ∷ [])) (host_at_end k (u ∷ []))

turns_alike : (p : ℕ) (h k : HostState) (w v : World) (t u : Turn) → p < 64 → TurnsAlike p h w t k v u
    → lone_of p (world_after w (events_of h (t ∷ []))) ≡ lone_of p (world_after v (events_of k (u ∷ [])))
turns_alike p h k w v t u below is =
    host_lone p h w t is.ws is.settings is.few is.turn is.done
    ∙ (λ i. with_settings (is.lone i) (own_alike p (host_at_end h (t ∷ [])) (host_at_end k (u ∷ [])) below is.hosts i))
    ∙ sym (host_lone p k v u is.also_ws is.also_settings is.also_few is.also_turn is.also_done)

-- ---- guests

-- a guest came or went, and the host forgot
guest_meets : (p : ℕ) (c d : CardState) (w v : World) → Pair p c d → w.settings ≡ (world_of c).settings → v.settings ≡ (world_of d).settings → lone_of p w ≡ lone_of p v
    → AreAlike p (without_guest (over_world c w) p) (without_guest (over_world d v) p)
guest_meets p c d w v b is also same = record {
  part = λ i. record { lone = lone i; slot = after.slot i; mailbox = box i; end = end i; raised = raised i };
  ids = after.ids;
  default_pool = after.pool;
  limit = after.limit;
}
  where
    after : HostsAlike p (host_without c.hosted.host p) (host_without d.hosted.host p)
    after = forgotten_alike p c.hosted.host d.hosted.host b.below (hosts p c d b)

    lone : lone_of p (world_of (without_guest (over_world c w) p)) ≡ lone_of p (world_of (without_guest (over_world d v) p))
    lone = turns_alike p c.hosted.host d.hosted.host w v (Forgets p) (Forgets p) b.below (record {
      ws = writes_without c.hosted.host p;
      also_ws = writes_without d.hosted.host p;
      done = refl;
      also_done = refl;
      turn = b.below;
      also_turn = b.below;
      settings = is ∙ b.one.hosted.settings;
      also_settings = also ∙ b.two.hosted.settings;
      few = b.one.hosted.ids;
      also_few = b.two.hosted.ids;
      lone = same;
      hosts = after;
    })

    box : slice_index_or (slice_set c.hosted.mailboxes p blank) p blank ≡ slice_index_or (slice_set d.hosted.mailboxes p blank) p blank
    box = get_or-set_same c.hosted.mailboxes p blank blank (boxes_in c p b.one b.below) ∙ sym (get_or-set_same d.hosted.mailboxes p blank blank (boxes_in d p b.two b.below))

    end : slice_index_or (slice_set c.ends p quiet) p quiet ≡ slice_index_or (slice_set d.ends p quiet) p quiet
    end = get_or-set_same c.ends p quiet quiet (omega (arith, b.below, b.one.ends)) ∙ sym (get_or-set_same d.ends p quiet quiet (omega (arith, b.below, b.two.ends)))

    raised : slice_index (slice_set c.raised p 0) p ≡ slice_index (slice_set d.raised p 0) p
    raised = get_or-set_same c.raised p 0 0 (omega (arith, b.below, b.one.raised)) ∙ sym (get_or-set_same d.raised p 0 0 (omega (arith, b.below, b.two.raised)))

-- a step of the device that is p's own
own_steps : (p : ℕ) (c d : CardState) (t : Step) (k : GuestItem) → Pair p c d → kept_in p (world_of c) t ≡ Some k → kept_in p (world_of d) t ≡ Some k → StepsAlike p (world_of c) t (world_of d) t
own_steps p c d t k b is also =
    steps_alike p (world_of c) (world_of d) t t b.there b.one.hosted.functions b.also_there b.two.hosted.functions (ap (λ (r : Part). r.lone) b.alike.part) (is ∙ sym also)

coming_alike : (p : ℕ) (c d : CardState) (memory : List ℕ) (r : Option Fault) → Pair p c d → lone_of p (came (world_of c) p memory r) ≡ lone_of p (came (world_of d) p memory r)
    → AreAlike p (after_coming c p memory r) (after_coming d p memory r)
coming_alike p c d memory None b same = guest_meets p c d (attached (world_of c) p memory) (attached (world_of d) p memory) b refl refl same
coming_alike p c d memory (Some fault) b same = b.alike

-- why a guest does not come, as it is shown
abbrev refusal_in : Option Sight → Option Fault
refusal_in (Some (Came r)) = r
refusal_in _ = None

pub coming_meets : (p : ℕ) (c d : CardState) (memory : List ℕ) → Pair p c d → Meets p c (Comes p memory) d (Comes p memory)
coming_meets p c d memory b = record {
  cards = subst (λ (r : Option Fault). AreAlike p (after_deed c (Comes p memory)) (after_coming d p memory r)) why
      (coming_alike p c d memory first b (subst (λ (r : Option Fault). lone_of p (stepped (world_of c) (DeviceComes p memory)) ≡ lone_of p (came (world_of d) p memory r)) (sym why) meet.lone));
  shown = ap (option_map Seen) meet.shown;
  accesses = refl;
  sent = refl;
}
  where
    own : (w : World) → kept_in p w (DeviceComes p memory) ≡ Some (Attach memory)
    own w = ap (λ (m : Bool). if m then Some (Attach memory) else None) (mine p)

    meet : StepsAlike p (world_of c) (DeviceComes p memory) (world_of d) (DeviceComes p memory)
    meet = own_steps p c d (DeviceComes p memory) (Attach memory) b (own (world_of c)) (own (world_of d))

    first : Option Fault
    first = attach_refusal (world_of c) p (length memory)

    shows : (w : World) → refusal_in (sight_in p w (DeviceComes p memory)) ≡ attach_refusal w p (length memory)
    shows w = ap (λ (m : Bool). refusal_in (if m then Some (Came (attach_refusal w p (length memory))) else None)) (mine p)

    why : first ≡ attach_refusal (world_of d) p (length memory)
    why = sym (shows (world_of c)) ∙ ap refusal_in meet.shown ∙ shows (world_of d)

-- whether it is vacant, by its function alone
vacant_here : (p : ℕ) (w : World) → p < length w.functions → is_vacant w p ≡ (size_of (function_of p w) == 0)
vacant_here p w there = ap (λ (b : Bool). b || (size_of (function_of p w) == 0)) (lt-leb (length w.functions) p there)

-- the device without its guest, where it isn't vacant
abbrev gone : Bool → World → ℕ → World
gone b w p = if b then w else with_function w p (Closed 0)

going_alike : (p : ℕ) (c d : CardState) (b : Bool) → Pair p c d → lone_of p (gone b (world_of c) p) ≡ lone_of p (gone b (world_of d) p)
    → AreAlike p (if b then c else without_guest (over_world c (gone b (world_of c) p)) p) (if b then d else without_guest (over_world d (gone b (world_of d) p)) p)
going_alike p c d true b same = b.alike
going_alike p c d false b same = guest_meets p c d (gone false (world_of c) p) (gone false (world_of d) p) b refl refl same

pub going_meets : (p : ℕ) (c d : CardState) → Pair p c d → Meets p c (Goes p) d (Goes p)
going_meets p c d b = record {
  cards = subst (λ (v : Bool). AreAlike p (after_deed c (Goes p)) (if v then d else without_guest (over_world d (gone v (world_of d) p)) p)) vacant
      (going_alike p c d (is_vacant (world_of c) p) b
      (subst (λ (v : Bool). lone_of p (detached (world_of c) p) ≡ lone_of p (gone v (world_of d) p)) (sym vacant) meet.lone));
  shown = ap (option_map Seen) meet.shown;
  accesses = refl;
  sent = refl;
}
  where
    own : (w : World) → kept_in p w (DeviceGoes p) ≡ Some Detach
    own w = ap (λ (m : Bool). if m then Some Detach else None) (mine p)

    meet : StepsAlike p (world_of c) (DeviceGoes p) (world_of d) (DeviceGoes p)
    meet = own_steps p c d (DeviceGoes p) Detach b (own (world_of c)) (own (world_of d))

    vacant : is_vacant (world_of c) p ≡ is_vacant (world_of d) p
    vacant = vacant_here p (world_of c) b.there ∙ (λ i. size_of ((b.alike.part i).lone.function) == 0) ∙ sym (vacant_here p (world_of d) b.also_there)

pub replacing_meets : (p : ℕ) (c d : CardState) (memory : List ℕ) → Pair p c d → Meets p c (Replaces p memory) d (Replaces p memory)
replacing_meets p c d memory b = record {
  cards = record {
    part = λ i. record { lone = meet.lone i; slot = (b.alike.part i).slot; mailbox = (b.alike.part i).mailbox; end = (b.alike.part i).end; raised = (b.alike.part i).raised };
    ids = b.alike.ids;
    default_pool = b.alike.default_pool;
    limit = b.alike.limit;
  };
  shown = ap (option_map Seen) meet.shown;
  accesses = refl;
  sent = refl;
}
  where
    own : (w : World) → kept_in p w (DeviceReplaces p memory) ≡ Some (Replace memory)
    own w = ap (λ (m : Bool). if m then Some (Replace memory) else None) (mine p)

    meet : StepsAlike p (world_of c) (DeviceReplaces p memory) (world_of d) (DeviceReplaces p memory)
    meet = own_steps p c d (DeviceReplaces p memory) (Replace memory) b (own (world_of c)) (own (world_of d))

-- ---- a message, vectors, a reset

-- what is shown where the deed is p's own
own_shown : (p : ℕ) (s : Show) → (if p == p then Some s else None) ≡ Some s
own_shown p s = ap (λ (m : Bool). if m then Some s else None) (mine p)

both_shown : (p : ℕ) (s t : Show) → s ≡ t → (if p == p then Some s else None) ≡ (if p == p then Some t else None)
both_shown p s t same = ap (λ (u : Show). if p == p then Some u else None) same

-- and where it is another's
pub unseen : (p q : ℕ) → p ≢ q → (s : Show) → (if q == p then Some s else None) ≡ None
unseen p q other s = ap (λ (m : Bool). if m then Some s else None) (apart q p other)

pub hearing_meets : (p : ℕ) (c d : CardState) (message : List ℕ) (files : ℕ) → Pair p c d → is_address_held c p message files ≡ is_address_held d p message files
    → Meets p c (Hears p message files) d (Hears p message files)
hearing_meets p c d message files b held =
    let same : IsToldAlike p (told c p message files) (told d p message files) = told_alike p c d message files b.below b.one b.two b.there b.also_there held b.alike in
    record {
      cards = same.cards;
      shown = both_shown p (heard_in (told c p message files)) (heard_in (told d p message files)) (λ i. Heard (same.reply i) (same.order i) (same.owed i) (same.ends i));
      accesses = refl;
      sent = refl;
    }

pub signalling_meets : (p : ℕ) (c d : CardState) (vectors : ℕ) → Pair p c d → Meets p c (Signals p vectors) d (Signals p vectors)
signalling_meets p c d vectors b = record {
  cards = record {
    part = λ i. record { lone = (b.alike.part i).lone; slot = (b.alike.part i).slot; mailbox = (b.alike.part i).mailbox; end = (b.alike.part i).end; raised = raised i };
    ids = b.alike.ids;
    default_pool = b.alike.default_pool;
    limit = b.alike.limit;
  };
  shown = both_shown p (Signalled (signalled (bit_and (slice_index c.raised p) vectors) (end_at c p).session.armed)) (Signalled (signalled (bit_and (slice_index d.raised p) vectors) (end_at d p).session.armed))
      (λ i. Signalled (signalled (bit_and ((b.alike.part i).raised) vectors) ((b.alike.part i).end.session.armed)));
  accesses = refl;
  sent = refl;
}
  where
    raised : slice_index (slice_set c.raised p (slice_index c.raised p without vectors)) p ≡ slice_index (slice_set d.raised p (slice_index d.raised p without vectors)) p
    raised =
        get_or-set_same c.raised p (slice_index c.raised p without vectors) 0 (omega (arith, b.below, b.one.raised))
        ∙ (λ i. (b.alike.part i).raised without vectors)
        ∙ sym (get_or-set_same d.raised p (slice_index d.raised p without vectors) 0 (omega (arith, b.below, b.two.raised)))

pub resetting_meets : (p : ℕ) (c d : CardState) → Pair p c d → Meets p c (Resets p) d (Resets p)
resetting_meets p c d b = record { cards = reset_alike p c d b; shown = refl; accesses = refl; sent = refl }

-- ---- the host's own

-- the vectors that a cause "other" issues, as they are seen
abbrev vectors_seen : Option Sight → ℕ
vectors_seen (Some (Prompted n)) = n
vectors_seen _ = 0

-- p's function once its cause "other" was raised, or not, and the vectors that this issues
record NoticesAlike (p : ℕ) (c d : CardState) (notice : Notice) : Type 0 where
  pub lone : lone_of p (prompted_by notice (world_of c) p) ≡ lone_of p (prompted_by notice (world_of d) p)
  pub vectors : vectors_by notice (world_of c) p ≡ vectors_by notice (world_of d) p

notices_alike : (p : ℕ) (c d : CardState) (notice : Notice) → Pair p c d → NoticesAlike p c d notice
notices_alike p c d Waits b = record { lone = ap (λ (r : Part). r.lone) b.alike.part; vectors = refl }
notices_alike p c d Raises b = record { lone = meet.lone; vectors = sym (shows (world_of c)) ∙ ap vectors_seen meet.shown ∙ shows (world_of d) }
  where
    own : (w : World) → kept_in p w (DevicePrompts p) ≡ Some Prompt
    own w = ap (λ (m : Bool). if m then Some Prompt else None) (mine p)

    meet : StepsAlike p (world_of c) (DevicePrompts p) (world_of d) (DevicePrompts p)
    meet = own_steps p c d (DevicePrompts p) Prompt b (own (world_of c)) (own (world_of d))

    shows : (w : World) → vectors_seen (sight_in p w (DevicePrompts p)) ≡ prompt_messages w p
    shows w = ap (λ (m : Bool). vectors_seen (if m then Some (Prompted (prompt_messages w p)) else None)) (mine p)

pub notifying_meets : (p : ℕ) (c d : CardState) → Pair p c d → Meets p c (Notifies p) d (Notifies p)
unfolding notified
notifying_meets p c d b = record {
  cards = record {
    part = λ i. record { lone = lone i; slot = (b.alike.part i).slot; mailbox = box i; end = (b.alike.part i).end; raised = raised i };
    ids = b.alike.ids;
    default_pool = b.alike.default_pool;
    limit = b.alike.limit;
  };
  shown = both_shown p (Noticed (notice_in (mailbox_at c.hosted p))) (Noticed (notice_in (mailbox_at d.hosted p))) (ap (λ (m : MailboxState). Noticed (notice_in m)) (boxes p c d b));
  accesses = refl;
  sent = refl;
}
  where
    alike : NoticesAlike p c d (notice_in (mailbox_at c.hosted p))
    alike = notices_alike p c d (notice_in (mailbox_at c.hosted p)) b

    lone : lone_of p (prompted_by (notice_in (mailbox_at c.hosted p)) (world_of c) p) ≡ lone_of p (prompted_by (notice_in (mailbox_at d.hosted p)) (world_of d) p)
    lone = alike.lone ∙ ap (λ (m : MailboxState). lone_of p (prompted_by (notice_in m) (world_of d) p)) (boxes p c d b)

    vectors : vectors_by (notice_in (mailbox_at c.hosted p)) (world_of c) p ≡ vectors_by (notice_in (mailbox_at d.hosted p)) (world_of d) p
    vectors = alike.vectors ∙ ap (λ (m : MailboxState). vectors_by (notice_in m) (world_of d) p) (boxes p c d b)

    raised : slice_index (after_deed c (Notifies p)).raised p ≡ slice_index (after_deed d (Notifies p)).raised p
    raised =
        get_or-set_same c.raised p _ 0 (omega (arith, b.below, b.one.raised))
        ∙ (λ i. either ((b.alike.part i).raised) (vectors i))
        ∙ sym (get_or-set_same d.raised p _ 0 (omega (arith, b.below, b.two.raised)))

    box : slice_index_or (slice_set c.hosted.mailboxes p (notified c.hosted.host p (mailbox_at c.hosted p))) p blank ≡ slice_index_or (slice_set d.hosted.mailboxes p (notified d.hosted.host p (mailbox_at d.hosted p))) p blank
    box =
        get_or-set_same c.hosted.mailboxes p (notified c.hosted.host p (mailbox_at c.hosted p)) blank (boxes_in c p b.one b.below)
        ∙ (λ i. noticed ((b.alike.part i).mailbox) (notice_head ((b.alike.part i).slot)))
        ∙ sym (get_or-set_same d.hosted.mailboxes p (notified d.hosted.host p (mailbox_at d.hosted p)) blank (boxes_in d p b.two b.below))

-- with another slot of p, after turns that the host took
slot_meets : (p : ℕ) (c d : CardState) (x y : Deed) (t u : Turn) (ws vs : List Write) → Pair p c d
    → after_deed c x ≡ record c { hosted = turned c.hosted (t ∷ []) c.hosted.mailboxes } → after_deed d y ≡ record d { hosted = turned d.hosted (u ∷ []) d.hosted.mailboxes }
    → events_of c.hosted.host (t ∷ []) ≡ write_events ws ++ [] → events_of d.hosted.host (u ∷ []) ≡ write_events vs ++ [] → IsTurn t → IsTurn u
    → HostsAlike p (host_at_end c.hosted.host (t ∷ [])) (host_at_end d.hosted.host (u ∷ [])) → AreAlike p (after_deed c x) (after_deed d y)
slot_meets p c d x y t u ws vs b one two done also_done turn also_turn after =
    subst (AreAlike p (after_deed c x)) (sym two) (subst (λ (k : CardState). AreAlike p k (record d { hosted = turned d.hosted (u ∷ []) d.hosted.mailboxes })) (sym one) (record {
      part = λ i. record { lone = lone i; slot = after.slot i; mailbox = (b.alike.part i).mailbox; end = (b.alike.part i).end; raised = (b.alike.part i).raised };
      ids = after.ids;
      default_pool = after.pool;
      limit = after.limit;
    }))
  where
    lone : lone_of p (world_after (world_of c) (events_of c.hosted.host (t ∷ []))) ≡ lone_of p (world_after (world_of d) (events_of d.hosted.host (u ∷ [])))
    lone = turns_alike p c.hosted.host d.hosted.host (world_of c) (world_of d) t u b.below (record {
      ws = ws;
      also_ws = vs;
      done = done;
      also_done = also_done;
      turn = turn;
      also_turn = also_turn;
      settings = b.one.hosted.settings;
      also_settings = b.two.hosted.settings;
      few = b.one.hosted.ids;
      also_few = b.two.hosted.ids;
      lone = ap (λ (r : Part). r.lone) b.alike.part;
      hosts = after;
    })

dismissed_alike : (p : ℕ) (h k : HostState) → p < 64 → HostsAlike p h k → HostsAlike p (host_dismissing h p) (host_dismissing k p)
unfolding host_dismissing
dismissed_alike p h k below is = with_alike p h k Absent Absent below is refl

pub dismissing_meets : (p : ℕ) (c d : CardState) → Pair p c d → Meets p c (Dismisses p) d (Dismisses p)
dismissing_meets p c d b = record {
  cards = slot_meets p c d (Dismisses p) (Dismisses p) (DismissesTurn p) (DismissesTurn p) (writes_dismissing c.hosted.host p) (writes_dismissing d.hosted.host p) b refl refl refl refl b.below b.below
      (dismissed_alike p c.hosted.host d.hosted.host b.below (hosts p c d b));
  shown = refl;
  accesses = refl;
  sent = refl;
}

-- ---- policies

refusal_alike : (p : ℕ) (h k : HostState) (policy : Policy) → HostsAlike p h k → is_owned h p (number_of policy.address) ≡ is_owned k p (number_of policy.address) → refusal h p policy ≡ refusal k p policy
unfolding refusal
refusal_alike p h k policy is owned = λ i.
    if not (is_unicast (number_of policy.address)) then Some NotUnicast
    else (if owned i then Some AddressOwned
    else (if is_placed (is.ids i) policy.vlans then None else Some NoSuchPlace))

-- the first that passes a test is not one that doesn't
not_first : (t : ℕ → Bool) (p k n : ℕ) → t p ≡ false → first_where t k n ≡ Some p → ⊥
not_first t p k zero fails is = cc
not_first t p k (suc n) fails is = go (t k) refl (λ later. not_first t p (suc k) n fails later) is
  where
    go : (b : Bool) → t k ≡ b → (first_where t (suc k) n ≡ Some p → ⊥) → (if b then Some k else first_where t (suc k) n) ≡ Some p → ⊥
    go true passes later at = false≢true (sym fails ∙ ap t (sym (some_is at)) ∙ passes)
    go false passes later at = later at

not_holder : (p : ℕ) (h : HostState) (a : ℕ) → holder h p a ≡ Some p → ⊥
unfolding holder
not_holder p h a is = not_first (other_holds h p a) p 0 64 (ap (λ (b : Bool). not b && holds (slot_at h p) a) (mine p)) is

-- p's slot, and what is the same for all, once another gave an address up
freed_alike : (p : ℕ) (h k : HostState) (a : ℕ) (o : Option ℕ) → (o ≡ Some p → ⊥) → HostsAlike p h k → HostsAlike p (freed_by h a o) k
freed_alike p h k a None other is = is
freed_alike p h k a (Some q) other is = record {
  slot = slot_stays h q p (without_address a (slot_at h q)) (λ same. other (ap Some (sym same))) ∙ is.slot;
  ids = is.ids;
  pool = is.pool;
  limit = is.limit;
  many = length-set h.slots q (without_address a (slot_at h q)) ∙ is.many;
  also_many = is.also_many;
  few = is.few;
}

freed_too : (p : ℕ) (h k : HostState) (a : ℕ) → HostsAlike p h k → HostsAlike p (host_freed h p a) (host_freed k p a)
unfolding host_freed
freed_too p h k a is =
    freed_alike p h (freed_by k a (holder k p a)) a (holder h p a) (not_holder p h a) (turned_about p (freed_by k a (holder k p a)) h (freed_alike p k h a (holder k p a) (not_holder p k a) (turned_about p h k is)))
  where
    turned_about : (q : ℕ) (g j : HostState) → HostsAlike q g j → HostsAlike q j g
    turned_about q g j same = record {
      slot = sym same.slot;
      ids = sym same.ids;
      pool = sym same.pool;
      limit = sym same.limit;
      many = same.also_many;
      also_many = same.many;
      few = subst (λ (ids : List ℕ). length ids ≤ 64) same.ids same.few;
    }

under_alike : (p : ℕ) (h k : HostState) (policy : Policy) → p < 64 → HostsAlike p h k → HostsAlike p (host_under h p policy) (host_under k p policy)
unfolding host_under
under_alike p h k policy below is = with_alike p h k (under policy (slot_at h p)) (under policy (slot_at k p)) below is (ap (under policy) is.slot)

-- p's own policy, taken or not
admitted_alike : (p : ℕ) (h k : HostState) (policy : Policy) → p < 64 → HostsAlike p h k → refusal h p policy ≡ refusal k p policy → HostsAlike p (host_admitting h p policy) (host_admitting k p policy)
unfolding host_admitting
admitted_alike p h k policy below is same =
    subst (λ (r : Option NotAdmitted). HostsAlike p (host_admitting h p policy) (if is_none r then host_under (host_freed k p (number_of policy.address)) p policy else k)) same (go (is_none (refusal h p policy)))
  where
    go : (b : Bool) → HostsAlike p (if b then host_under (host_freed h p (number_of policy.address)) p policy else h) (if b then host_under (host_freed k p (number_of policy.address)) p policy else k)
    go true = under_alike p (host_freed h p (number_of policy.address)) (host_freed k p (number_of policy.address)) policy below (freed_too p h k (number_of policy.address) is)
    go false = is

pub admitting_meets : (p : ℕ) (c d : CardState) (policy : Policy) → Pair p c d → is_owned c.hosted.host p (number_of policy.address) ≡ is_owned d.hosted.host p (number_of policy.address)
    → Meets p c (Admits p policy) d (Admits p policy)
admitting_meets p c d policy b owned = record {
  cards = slot_meets p c d (Admits p policy) (Admits p policy) (AdmitsTurn p policy) (AdmitsTurn p policy) (writes_admitting c.hosted.host p policy) (writes_admitting d.hosted.host p policy) b refl refl refl refl b.below b.below
      (admitted_alike p c.hosted.host d.hosted.host policy b.below (hosts p c d b) same);
  shown = both_shown p (Judged (refusal c.hosted.host p policy)) (Judged (refusal d.hosted.host p policy)) (ap Judged same);
  accesses = refl;
  sent = refl;
}
  where
    same : refusal c.hosted.host p policy ≡ refusal d.hosted.host p policy
    same = refusal_alike p c.hosted.host d.hosted.host policy (hosts p c d b) owned

-- another's policy: p's slot is as it was, or without the address
abbrev left_at : Bool → ℕ → Slot → Slot
left_at b a s = if b then without_address a s else s

slot_left : (h : HostState) (p q : ℕ) (policy : Policy) → p ≢ q → p < length h.slots → slot_at (host_admitting h q policy) p ≡ left_at (loses_to h q policy p) (number_of policy.address) (slot_at h p)
unfolding host_admitting host_under host_freed
slot_left h p q policy other inside = go (is_none (refusal h q policy)) (holder h q (number_of policy.address))
  where
    a : ℕ
    a = number_of policy.address

    freed : (r : ℕ) (b : Bool) → (r == p) ≡ b → slot_at (with_slot h r (without_address a (slot_at h r))) p ≡ left_at b a (slot_at h p)
    freed r true is = subst (λ (k : ℕ). slot_at (with_slot h k (without_address a (slot_at h k))) p ≡ without_address a (slot_at h p)) (sym (eqb-true r p is)) (get_or-set_same h.slots p (without_address a (slot_at h p)) Absent inside)
    freed r false is = slot_stays h r p (without_address a (slot_at h r)) (λ same. false≢true (sym is ∙ eq-eqb r p (sym same)))

    go : (b : Bool) (o : Option ℕ) → slot_at (if b then with_slot (freed_by h a o) q (under policy (slot_at (freed_by h a o) q)) else h) p ≡ left_at (b && is_number o p) a (slot_at h p)
    go true None = slot_stays h q p (under policy (slot_at h q)) other
    go true (Some r) = slot_stays (freed_by h a (Some r)) q p (under policy (slot_at (freed_by h a (Some r)) q)) other ∙ freed r (r == p) refl
    go false o = refl

many_left : (h : HostState) (q : ℕ) (policy : Policy) → length (host_admitting h q policy).slots ≡ length h.slots
unfolding host_admitting host_under host_freed
many_left h q policy = go (is_none (refusal h q policy)) (holder h q (number_of policy.address))
  where
    a : ℕ
    a = number_of policy.address

    go : (b : Bool) (o : Option ℕ) → length (if b then with_slot (freed_by h a o) q (under policy (slot_at (freed_by h a o) q)) else h).slots ≡ length h.slots
    go true None = length-set h.slots q (under policy (slot_at h q))
    go true (Some r) = length-set (freed_by h a (Some r)).slots q (under policy (slot_at (freed_by h a (Some r)) q)) ∙ length-set h.slots r (without_address a (slot_at h r))
    go false o = refl

-- two policies of others that leave p the same slot
others_admitted : (p : ℕ) (h k : HostState) (q r : ℕ) (one two : Policy) → HostsAlike p h k → slot_at (host_admitting h q one) p ≡ slot_at (host_admitting k r two) p
    → HostsAlike p (host_admitting h q one) (host_admitting k r two)
others_admitted p h k q r one two is slot =
    let first : IsSameForAll h (host_admitting h q one) = admitting_same h q one in
    let second : IsSameForAll k (host_admitting k r two) = admitting_same k r two in
    record {
      slot = slot;
      ids = first.ids ∙ is.ids ∙ sym second.ids;
      pool = first.pool ∙ is.pool ∙ sym second.pool;
      limit = first.limit ∙ is.limit ∙ sym second.limit;
      many = many_left h q one ∙ is.many;
      also_many = many_left k r two ∙ is.also_many;
      few = subst (λ (ids : List ℕ). length ids ≤ 64) (sym first.ids) is.few;
    }

-- two that take the same address from p
pub losing_meets : (p : ℕ) (c d : CardState) (q r : ℕ) (one two : Policy) → Pair p c d → q < 64 → r < 64 → p ≢ q → p ≢ r
    → loses_to c.hosted.host q one p ≡ true → loses_to d.hosted.host r two p ≡ true → number_of one.address ≡ number_of two.address → Meets p c (Admits q one) d (Admits r two)
losing_meets p c d q r one two b q_below r_below not_q not_r lost also_lost same = record {
  cards = slot_meets p c d (Admits q one) (Admits r two) (AdmitsTurn q one) (AdmitsTurn r two) (writes_admitting c.hosted.host q one) (writes_admitting d.hosted.host r two) b refl refl refl refl q_below r_below
      (others_admitted p c.hosted.host d.hosted.host q r one two (hosts p c d b) slot);
  shown = unseen p q not_q (Judged (refusal c.hosted.host q one)) ∙ sym (unseen p r not_r (Judged (refusal d.hosted.host r two)));
  accesses = refl;
  sent = refl;
}
  where
    slot : slot_at (host_admitting c.hosted.host q one) p ≡ slot_at (host_admitting d.hosted.host r two) p
    slot =
        slot_left c.hosted.host p q one not_q (omega (arith, b.below, b.one.hosted.slots))
        ∙ (λ i. left_at (lost i) (same i) ((b.alike.part i).slot))
        ∙ sym (λ i. left_at (also_lost i) (number_of two.address) (slot_at d.hosted.host p))
        ∙ sym (slot_left d.hosted.host p r two not_r (omega (arith, b.below, b.two.hosted.slots)))

-- one that takes none
pub admitting_passes : (p : ℕ) (c : CardState) (q : ℕ) (policy : Policy) → Pair p c c → q < 64 → p ≢ q → loses_to c.hosted.host q policy p ≡ false → Passes p c (Admits q policy)
admitting_passes p c q policy b q_below other none = record {
  cards = record {
    part = λ i. record { lone = lone i; slot = slot i; mailbox = mailbox_at c.hosted p; end = end_at c p; raised = slice_index c.raised p };
    ids = same.ids;
    default_pool = same.pool;
    limit = same.limit;
  };
  shown = unseen p q other (Judged (refusal c.hosted.host q policy));
  accesses = refl;
  sent = refl;
}
  where
    h : HostState
    h = c.hosted.host

    same : IsSameForAll h (host_admitting h q policy)
    same = admitting_same h q policy

    slot : slot_at (host_admitting h q policy) p ≡ slot_at h p
    slot = slot_left h p q policy other (omega (arith, b.below, b.one.hosted.slots)) ∙ ap (λ (l : Bool). left_at l (number_of policy.address) (slot_at h p)) none

    after : HostsAlike p (host_admitting h q policy) h
    after = record { slot = slot; ids = same.ids; pool = same.pool; limit = same.limit; many = many_left h q policy ∙ b.one.hosted.slots; also_many = b.one.hosted.slots; few = subst (λ (ids : List ℕ). length ids ≤ 64) (sym same.ids) b.one.hosted.ids }

    lone : lone_of p (world_after (world_of c) (events_of h (AdmitsTurn q policy ∷ []))) ≡ lone_of p (world_of c)
    lone =
        host_lone p h (world_of c) (AdmitsTurn q policy) (writes_admitting h q policy) b.one.hosted.settings b.one.hosted.ids q_below refl
        ∙ ap (with_settings (lone_of p (world_of c))) (own_alike p (host_admitting h q policy) h b.below after ∙ ap (λ s. own s p) (sym b.one.hosted.settings))
