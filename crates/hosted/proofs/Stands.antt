-- What stands between two calls stands after turns of one function.
use Rattle.std.proofs.Common.{◌≡◌, ℕ, zero, suc, ◌<◌, ◌≤◌, Bool, true, false, List, [], ◌∷◌, ◌++◌, ◌≢◌, length, get_or, refl, sym, ap, ◌∙◌, subst, arith}
use Rattle.std.specs.List.{All}
use Rattle.std.specs.Prelude.{◌&&◌, filter, map, Option, None, Some, is_none, nat_lt, OnErr, Result, Ok, Err, slice_set, if◌then◌else◌}
use Rattle.std.proofs.lemmas.Bool.Decides.{nat_tests}
use Rattle.wire_frame.specs.Frame.{is_frame}
use Rattle.wire_frame.specs.declared.fault.Fault.{Fault}
use Rattle.wire_frame.specs.declared.fault.Fault.TheVariants.{BadMake}
use Rattle.offload.specs.declared.offloads.Offloads.{Offloads}
use Rattle.device.specs.Guests.{is_for_guests}
use Rattle.device.specs.Events.{Event}
use Rattle.std.proofs.lemmas.List.Elements.{All-cons, All-nil}
use Rattle.std.proofs.lemmas.List.{append-nil, get_or-set_other, map-append, length-map, length-set}
use Rattle.device.specs.declared.event.Answer.{Answer}
use Rattle.device.specs.declared.event.Event.TheVariants.{Flr, VfWrite, Wire}
use Rattle.device.specs.Lone.{lone_of}
use Rattle.device.proofs.Append.{world_after_append}
use Rattle.device.specs.World.{World, fresh_with, function_of, is_frame_limit, step, with_function, world_after}
use Rattle.device.proofs.LiveLemmas.{length_told}
use Rattle.device.proofs.Shape.{step_shape}
use Rattle.device.specs.Live.{told_world}
use Rattle.live_memory.specs.Trace.{Access}
use Rattle.mailbox.specs.declared.mailbox.Notice.{Notice}
use Rattle.mailbox.specs.declared.mailbox.Notice.TheVariants.{Raises, Waits}
use Rattle.mailbox.specs.declared.policy.Policy.{Policy}
use Rattle.mailbox.specs.Address.{number_of}
use Rattle.mailbox.specs.Host.{freed_by, host_admitting, host_after, host_dismissing, host_freed, host_under, refusal, slot_after}
use Rattle.mailbox.specs.Writes.{writes_dismissing, writes_freeing, writes_under}
use Rattle.mailbox.specs.declared.writes.Write.{Write}
use Rattle.mailbox.specs.Keeping.{under, without_address}
use Rattle.mailbox.specs.Slot.{with_guest}
use Rattle.mailbox.specs.State.{HostState, holder, slot_at}
use Rattle.mailbox.specs.declared.slot.Slot.TheVariants.{Absent}
use Rattle.mailbox.specs.Within.{IsWithin}
use Rattle.mailbox.specs.Words.{settings_of}
use Rattle.mailbox_laws.specs.Turns.{IsTurn, Turn, sets_registers, events_of, write_event, write_events, writes_admitting, writes_taken, host_at_end, host_of}
use Rattle.mailbox_laws.proofs.Kept.{event_stays, few_still, first_run, run_settles}
use Rattle.vf_unit.specs.Unit.{Closed, Function, other_raised}
use Rattle.vf_unit.specs.declared.registers.Queue.{Queue}
use Rattle.live_run.specs.Arrivals.{IsWireBurst, arrivals, cuts}
use Rattle.live_run.specs.Bursts.{IsBurst, services}
use Rattle.live_run.specs.declared.bursts.Burst.{Burst}
use Rattle.live_run.specs.declared.wire_bursts.WireBurst.{WireBurst}
use Rattle.live_run.specs.Frames.{FramesState}
use Rattle.live_run.specs.Live.{IsLiveRun, Noted, live_after}
use Rattle.mailbox.specs.Start.{first_writes}
use Rattle.mailbox.specs.Host.{host_without}
use Rattle.mailbox.specs.Mailbox.{MailboxState, after_reset, blank}
use Rattle.mailbox_laws.specs.Turns.Turn.{Admits, Answers, Dismisses, Forgets, Happens}
use Rattle.pool_filter.specs.Own.{own}
use Rattle.hosted.specs.Hosted.{HaveTaken, HostedState, IsBegun, IsHosted, LeavesOthers, LeavesUnconcerned, mailbox_at, profile_for, with_world}
use Rattle.hosted.specs.Turns.{mail_turns, mailed, prompted_by, reset_turns, takes, write_turns}
use Rattle.hosted.proofs.Others.{IsOf, are_turns, box_stays, leaves_others, own_dismiss, own_forget, own_reset, own_write}

as_many : (w : World) (es : List Event) → length (world_after w es).functions ≡ length w.functions
as_many w [] = refl
as_many w (e ∷ es) = as_many (step w e).world es ∙ (step_shape w e).functions

few_ids : (h : HostState) (ts : List Turn) → length h.ids ≤ 64 → length (host_at_end h ts).ids ≤ 64
few_ids h [] few = few
few_ids h (t ∷ ts) few = few_ids (host_of h t) ts (few_still h t few)

-- how many functions the host has room for
abbrev many : HostState → ℕ
many h = length h.slots

many_freed : (h : HostState) (a : ℕ) (q : Option ℕ) → many (freed_by h a q) ≡ many h
many_freed h a None = refl
many_freed h a (Some q) = length-set h.slots q (without_address a (slot_at h q))

many_admitted : (h : HostState) (p : ℕ) (policy : Policy) → many (host_admitting h p policy) ≡ many h
unfolding host_admitting host_under host_freed
many_admitted h p policy = go (is_none (refusal h p policy))
  where
    a : ℕ
    a = number_of policy.address

    go : (b : Bool) → many (if b then host_under (host_freed h p a) p policy else h) ≡ many h
    go true = length-set (host_freed h p a).slots p (under policy (slot_at (host_freed h p a) p)) ∙ many_freed h a (holder h p a)
    go false = refl

many_after : (h : HostState) (t : Turn) → many (host_of h t) ≡ many h
unfolding host_after host_without host_dismissing
many_after h (Happens e) = refl
many_after h (Answers p message) = length-set h.slots p (slot_after h p message)
many_after h (Forgets p) = length-set h.slots p (with_guest (slot_at h p) None)
many_after h (Admits p policy) = many_admitted h p policy
many_after h (Dismisses p) = length-set h.slots p Absent

many_slots : (h : HostState) (ts : List Turn) → many (host_at_end h ts) ≡ many h
many_slots h [] = refl
many_slots h (t ∷ ts) = many_slots (host_of h t) ts ∙ many_after h t

stands_turns : (old new : HostedState) (ts : List Turn) → IsHosted old → All IsTurn ts → HaveTaken ts old new → IsWithin new.host → length new.mailboxes ≡ length old.mailboxes → IsHosted new
stands_turns old new ts is all taken within boxes = record {
  settings =
      ap (λ (w : World). w.settings) taken.world ∙ run_settles old.host old.device.world ts is.settings is.ids all
      ∙ ap settings_of (sym taken.host);
  within = within;
  ids = subst (λ (h : HostState). length h.ids ≤ 64) (sym taken.host) (few_ids old.host ts is.ids);
  slots = ap (λ (h : HostState). length h.slots) taken.host ∙ many_slots old.host ts ∙ is.slots;
  functions = subst (λ (n : ℕ). n ≤ 64) (sym (ap (λ (w : World). length w.functions) taken.world ∙ as_many old.device.world (events_of old.host ts))) is.functions;
  many = boxes ∙ is.many;
}

pub stands : (p : ℕ) (old new : HostedState) (ts : List Turn) → p < 64 → IsHosted old → All (IsOf p) ts → HaveTaken ts old new → IsWithin new.host → length new.mailboxes ≡ length old.mailboxes → IsHosted new
stands p old new ts below is all taken within boxes = stands_turns old new ts is (are_turns p ts below all) taken within boxes

-- and after an event of frames, which writes no register of the physical function, while guests write their memories
pub stays_live : (old new : HostedState) (before now : List (List Access)) (e : Event) → IsHosted old → sets_registers e ≡ false → new.device.world ≡ (step (told_world before now old.device.world) e).world
    → new.host ≡ old.host → new.mailboxes ≡ old.mailboxes → IsHosted new
stays_live old new before now e is none world host boxes = record {
  settings = ap (λ (w : World). w.settings) world ∙ event_stays (told_world before now old.device.world) e none ∙ is.settings ∙ ap settings_of (sym host);
  within = subst IsWithin (sym host) is.within;
  ids = subst (λ (h : HostState). length h.ids ≤ 64) (sym host) is.ids;
  slots = ap (λ (h : HostState). length h.slots) host ∙ is.slots;
  functions = subst (λ (n : ℕ). n ≤ 64)
      (sym (ap (λ (w : World). length w.functions) world ∙ (step_shape (told_world before now old.device.world) e).functions ∙ length_told before now old.device.world.functions)) is.functions;
  many = ap length boxes ∙ is.many;
}

-- as it is made
pub begins : (h : HostedState) (host : HostState) (offloads : Offloads) (sizes : List ℕ) → IsBegun host offloads sizes h → IsWithin host → length host.ids ≤ 64 → length host.slots ≡ 64 → length sizes ≤ 64 → IsHosted h
begins h host offloads sizes is within ids slots few = record {
  settings = ap (λ (w : World). w.settings) is.world ∙ first_run host (profile_for host offloads) sizes ∙ ap settings_of (sym is.host);
  within = subst IsWithin (sym is.host) within;
  ids = subst (λ (k : HostState). length k.ids ≤ 64) (sym is.host) ids;
  slots = ap (λ (k : HostState). length k.slots) is.host ∙ slots;
  functions = subst (λ (n : ℕ). n ≤ 64)
      (sym (ap (λ (w : World). length w.functions) is.world ∙ as_many (fresh_with (profile_for host offloads) sizes) (write_events (first_writes host)) ∙ length-map sizes Closed)) few;
  many = ap length is.mailboxes;
}

-- what a call shows that takes turns of p alone, once the mailboxes but p's are as they were
pub record Shows (p : ℕ) (old new : HostedState) : Type 0 where
  pub hosted : IsHosted new
  pub others : LeavesOthers p old new

pub shows : (p : ℕ) (old new : HostedState) (ts : List Turn) (m : MailboxState) → p < 64 → IsHosted old → All (IsOf p) ts → HaveTaken ts old new → IsWithin new.host → new.mailboxes ≡ slice_set old.mailboxes p m → Shows p old new
shows p old new ts m below is all taken within boxes = record {
  hosted = stands p old new ts below is all taken within (ap length boxes ∙ length-set old.mailboxes p m);
  others = leaves_others p old new ts below is all taken (λ q other. box_stays old.mailboxes new.mailboxes p q m boxes other);
}

-- a write that the device took, and then what the host did
pub written : (old new : HostedState) (p offset x : ℕ) (mid : World) (r : ℕ) (m : MailboxState) → p < 64 → IsHosted old → r ≡ p → m ≡ mailbox_at old p → takes old (VfWrite p offset x) ≡ true
    → mid ≡ (step old.device.world (VfWrite p offset x)).world → new.device.world ≡ world_after mid (events_of old.host (mail_turns m r offset x)) → new.host ≡ host_at_end old.host (mail_turns m r offset x) → IsWithin new.host
    → new.mailboxes ≡ slice_set old.mailboxes p (mailed old.host r m offset x) → Shows p old new
written old new p offset x mid r m below is at box took stepped world host within boxes =
    shows p old new (write_turns old p offset x) (mailed old.host r m offset x) below is (own_write old p offset x)
    (record {
      world = world ∙ (λ i. world_after (stepped i) (events_of old.host (mail_turns (box i) (at i) offset x)))
          ∙ ap (λ (b : Bool). world_after old.device.world (events_of old.host (Happens (VfWrite p offset x) ∷ (if b then mail_turns (mailbox_at old p) p offset x else [])))) (sym took);
      host = host ∙ (λ i. host_at_end old.host (mail_turns (box i) (at i) offset x))
          ∙ ap (λ (b : Bool). host_at_end old.host (Happens (VfWrite p offset x) ∷ (if b then mail_turns (mailbox_at old p) p offset x else []))) (sym took);
    }) within boxes

-- a reset that the device took, and then the host forgot
pub was_reset : (old new : HostedState) (p : ℕ) (mid : World) → p < 64 → IsHosted old → takes old (Flr p) ≡ true → mid ≡ (step old.device.world (Flr p)).world
    → new.device.world ≡ world_after mid (events_of old.host (Forgets p ∷ [])) → new.host ≡ host_without old.host p → IsWithin new.host → new.mailboxes ≡ slice_set old.mailboxes p after_reset → Shows p old new
was_reset old new p mid below is took stepped world host within boxes =
    shows p old new (reset_turns old p) after_reset below is (own_reset old p)
    (record {
      world = world ∙ ap (λ (w : World). world_after w (events_of old.host (Forgets p ∷ []))) stepped
          ∙ ap (λ (b : Bool). world_after old.device.world (events_of old.host (Happens (Flr p) ∷ (if b then Forgets p ∷ [] else [])))) (sym took);
      host = host ∙ ap (λ (b : Bool). host_at_end old.host (Happens (Flr p) ∷ (if b then Forgets p ∷ [] else []))) (sym took);
    }) within boxes

-- p's function is another, and nothing else of the device
abbrev pub IsMovedAt : ℕ → World → World → Type 0
IsMovedAt p w v = (f : Function) × (v ≡ with_function w p f)

-- a guest came or went, and the host forgot
pub moved : (old new : HostedState) (p : ℕ) (mid : World) → p < 64 → IsHosted old → IsMovedAt p old.device.world mid
    → new.device.world ≡ world_after mid (events_of old.host (Forgets p ∷ [])) → new.host ≡ host_without old.host p → IsWithin new.host → new.mailboxes ≡ slice_set old.mailboxes p blank → Shows p old new
moved old new p mid below is (f, at) world host within boxes =
    record {
      hosted = then.hosted;
      others = record {
        functions = λ q inside other. then.others.functions q (subst (λ (n : ℕ). q < n) (sym many) inside) other
            ∙ ap (lone_of q) at ∙ ap (λ (g : Function). record { profile = old.device.world.profile; function = g; settings = own old.device.world.settings q }) (get_or-set_other old.device.world.functions p q f (Closed 0) other);
        slots = then.others.slots;
        mailboxes = then.others.mailboxes;
      };
    }
  where
    many : length mid.functions ≡ length old.device.world.functions
    many = ap (λ (w : World). length w.functions) at ∙ length-set old.device.world.functions p f

    between : IsHosted (with_world old mid)
    between = record {
      settings = ap (λ (w : World). w.settings) at ∙ is.settings;
      within = is.within;
      ids = is.ids;
      slots = is.slots;
      functions = subst (λ (n : ℕ). n ≤ 64) (sym many) is.functions;
      many = is.many;
    }

    then : Shows p (with_world old mid) new
    then = shows p (with_world old mid) new (Forgets p ∷ []) blank below between (own_forget p) (record { world = world; host = host }) within boxes

-- a device for guests has no more than 64 of them
pub few_guests : {R : Type 0} (limit : ℕ) (sizes : List ℕ) (made : Result R Fault) (device : R) → ((is_frame_limit limit && is_for_guests sizes) ≡ false → made ≡ Err BadMake) → made ≡ Ok device → length sizes ≤ 64
unfolding is_for_guests
few_guests limit sizes made device bad is = go (is_frame_limit limit && is_for_guests sizes) refl
  where
    go : (b : Bool) → (is_frame_limit limit && is_for_guests sizes) ≡ b → length sizes ≤ 64
    go true good = grind (arith, nat_tests)
    go false none = absurd (let refused = bad none in cc)

-- a policy was given, and the writes that follow are done
pub admitted : (p : ℕ) (old new : HostedState) (policy : Policy) (lost own : List Write) (mid : World) → p < 64 → IsHosted old → is_none (refusal old.host p policy) ≡ true → new.host ≡ host_admitting old.host p policy
    → lost ≡ writes_freeing old.host p (number_of policy.address) → own ≡ writes_under (host_freed old.host p (number_of policy.address)) p policy
    → mid ≡ world_after old.device.world (write_events lost) → new.device.world ≡ world_after mid (write_events own) → HaveTaken (Admits p policy ∷ []) old new
admitted p old new policy lost own mid below is taken host freed listed before after = record {
  world =
      after ∙ (λ i. world_after (before i) (write_events own))
      ∙ sym (world_after_append old.device.world (write_events lost) (write_events own))
      ∙ ap (world_after old.device.world)
      (sym (map-append write_event lost own)
      ∙ (λ i. write_events (freed i ++ listed i))
      ∙ ap (λ (b : Bool). write_events (if b then writes_taken old.host p policy else [])) (sym taken)
      ∙ sym (append-nil (write_events (writes_admitting old.host p policy))));
  host = host;
}

-- what stands between two calls stands after it
pub stands_admitted : (p : ℕ) (old new : HostedState) (policy : Policy) → p < 64 → IsHosted old → HaveTaken (Admits p policy ∷ []) old new → IsWithin new.host → new.mailboxes ≡ old.mailboxes → IsHosted new
stands_admitted p old new policy below is taken within boxes = stands_turns old new (Admits p policy ∷ []) is (All-cons IsTurn (Admits p policy) [] below (All-nil IsTurn)) taken within (ap length boxes)

pub dismissed : (p : ℕ) (old new : HostedState) (ws : List Write) → p < 64 → IsHosted old → new.host ≡ host_dismissing old.host p → ws ≡ writes_dismissing old.host p → new.device.world ≡ world_after old.device.world (write_events ws)
    → HaveTaken (Dismisses p ∷ []) old new
dismissed p old new ws below is host listed world = record {
  world = world ∙ ap (world_after old.device.world) (ap write_events listed ∙ sym (append-nil (write_events (writes_dismissing old.host p))));
  host = host;
}

pub shows_dismissed : (p : ℕ) (old new : HostedState) → p < 64 → IsHosted old → HaveTaken (Dismisses p ∷ []) old new → IsWithin new.host → new.mailboxes ≡ old.mailboxes → Shows p old new
shows_dismissed p old new below is taken within boxes = record {
  hosted = stands p old new (Dismisses p ∷ []) below is (own_dismiss p) taken within (ap length boxes);
  others = leaves_others p old new (Dismisses p ∷ []) below is (own_dismiss p) taken (λ q other. ap (λ (ms : List MailboxState). get_or ms q blank) boxes);
}

-- of a device nothing is another but p's function
pub record ChangesOnly (p : ℕ) (w v : World) : Type 0 where
  pub settings : v.settings ≡ w.settings
  pub many : length v.functions ≡ length w.functions
  pub others : (q : ℕ) → q ≢ p → lone_of q v ≡ lone_of q w

-- so where its cause "other" is raised, or not
pub prompt_changes : (p : ℕ) (w : World) (notice : Notice) → ChangesOnly p w (prompted_by notice w p)
prompt_changes p w Waits = record { settings = refl; many = refl; others = λ q other. refl }
prompt_changes p w Raises = go (nat_lt p (length w.functions))
  where
    f : Function
    f = (other_raised (function_of p w)).state

    go : (b : Bool) → ChangesOnly p w (if b then with_function w p f else w)
    go true = record {
      settings = refl;
      many = length-set w.functions p f;
      others = λ q other. ap (λ (g : Function). record { profile = w.profile; function = g; settings = own w.settings q }) (get_or-set_other w.functions p q f (Closed 0) other);
    }
    go false = record { settings = refl; many = refl; others = λ q other. refl }

-- nothing is another but p's function, by its cause "other", and p's mailbox
pub told : (p : ℕ) (old new : HostedState) (m : MailboxState) (notice : Notice) → IsHosted old → new.device.world ≡ prompted_by notice old.device.world p → new.host ≡ old.host → new.mailboxes ≡ slice_set old.mailboxes p m → Shows p old new
told p old new m notice is world host boxes =
    let changes : ChangesOnly p old.device.world new.device.world = subst (ChangesOnly p old.device.world) (sym world) (prompt_changes p old.device.world notice) in
    record {
      hosted = record {
        settings = changes.settings ∙ is.settings ∙ ap settings_of (sym host);
        within = subst IsWithin (sym host) is.within;
        ids = subst (λ (h : HostState). length h.ids ≤ 64) (sym host) is.ids;
        slots = ap (λ (h : HostState). length h.slots) host ∙ is.slots;
        functions = subst (λ (n : ℕ). n ≤ 64) (sym changes.many) is.functions;
        many = ap length boxes ∙ length-set old.mailboxes p m ∙ is.many;
      };
      others = record {
        functions = λ q inside other. changes.others q other;
        slots = λ q other. ap (λ (h : HostState). slot_at h q) host;
        mailboxes = λ q other. box_stays old.mailboxes new.mailboxes p q m boxes other;
      };
    }

-- a policy that is refused changes nothing
pub unchanged : (old : HostedState) (host : HostState) (p : ℕ) (policy : Policy) → is_none (refusal old.host p policy) ≡ false → host ≡ host_admitting old.host p policy
    → record { device = old.device; host = host; mailboxes = old.mailboxes } ≡ old
unfolding host_admitting
unchanged old host p policy refused is =
    ap (λ (h : HostState). record { device = old.device; host = h; mailboxes = old.mailboxes })
    (is ∙ ap (λ (b : Bool). if b then host_under (host_freed old.host p (number_of policy.address)) p policy else old.host) refused)

pub unconcerned_itself : (p : ℕ) (policy : Policy) (h : HostedState) → LeavesUnconcerned p policy h h
unconcerned_itself p policy h = record { functions = λ q inside out. refl; slots = λ q out. refl; mailboxes = refl }

pub on_err : {A E : Type 0} (r : Result A E) {P : Type 0} → P → OnErr r P
on_err (Ok v) holds = tt
on_err (Err e) holds = holds

-- p's function is another, and nothing else is
pub remade : (p : ℕ) (old new : HostedState) (f : Function) → IsHosted old → new.device.world ≡ with_function old.device.world p f → new.host ≡ old.host → new.mailboxes ≡ old.mailboxes → Shows p old new
remade p old new f is world host boxes = record {
  hosted = record {
    settings = ap (λ (w : World). w.settings) world ∙ is.settings ∙ ap settings_of (sym host);
    within = subst IsWithin (sym host) is.within;
    ids = subst (λ (h : HostState). length h.ids ≤ 64) (sym host) is.ids;
    slots = ap (λ (h : HostState). length h.slots) host ∙ is.slots;
    functions = subst (λ (n : ℕ). n ≤ 64) (sym (ap (λ (w : World). length w.functions) world ∙ length-set old.device.world.functions p f)) is.functions;
    many = ap length boxes ∙ is.many;
  };
  others = record {
    functions = λ q inside other. ap (lone_of q) world ∙ ap (λ (g : Function). record { profile = old.device.world.profile; function = g; settings = own old.device.world.settings q }) (get_or-set_other old.device.world.functions p q f (Closed 0) other);
    slots = λ q other. ap (λ (h : HostState). slot_at h q) host;
    mailboxes = λ q other. ap (λ (ms : List MailboxState). get_or ms q blank) boxes;
  };
}

-- events that write no register of the physical function
abbrev pub AreSilent : List Event → Type 0
AreSilent [] = Unit {0}
AreSilent (e ∷ es) = (sets_registers e ≡ false) × AreSilent es

services_silent : (n p : ℕ) (q : Queue) → AreSilent (services n p q)
services_silent zero p q = tt
services_silent (suc n) p q = (refl, services_silent n p q)

-- leave its settings and its functions, while guests write their memories
run_stays : (w : World) (b : Noted) (es : List Event) (ts : List Noted) → AreSilent es → (live_after w b es ts).settings ≡ w.settings
unfolding live_after
run_stays w b [] ts none = refl
run_stays w b (e ∷ es) [] none = refl
run_stays w b (e ∷ es) (t ∷ ts) none = run_stays (step (told_world b t w) e).world t es ts none.1 ∙ event_stays (told_world b t w) e none.0

run_as_many : (w : World) (b : Noted) (es : List Event) (ts : List Noted) → length (live_after w b es ts).functions ≡ length w.functions
unfolding live_after
run_as_many w b [] ts = refl
run_as_many w b (e ∷ es) [] = refl
run_as_many w b (e ∷ es) (t ∷ ts) = run_as_many (step (told_world b t w) e).world t es ts ∙ (step_shape (told_world b t w) e).functions ∙ length_told b t w.functions

-- a run of such events leaves what stands between two calls
run_stands : (shared : Bool) (old new : HostedState) (es : List Event) (answers : List Answer) → IsHosted old → AreSilent es → IsLiveRun shared old.device es answers new.device → new.host ≡ old.host → new.mailboxes ≡ old.mailboxes → IsHosted new
run_stands shared old new es answers is silent run host boxes = record {
  settings = ap (λ (w : World). w.settings) run.world ∙ run_stays old.device.world old.device.accesses es run.noted silent ∙ is.settings ∙ ap settings_of (sym host);
  within = subst IsWithin (sym host) is.within;
  ids = subst (λ (h : HostState). length h.ids ≤ 64) (sym host) is.ids;
  slots = ap (λ (h : HostState). length h.slots) host ∙ is.slots;
  functions = subst (λ (n : ℕ). n ≤ 64) (sym (ap (λ (w : World). length w.functions) run.world ∙ run_as_many old.device.world old.device.accesses es run.noted)) is.functions;
  many = ap length boxes ∙ is.many;
}

-- a burst of services is one
pub burst_stands : (shared : Bool) (p : ℕ) (q : Queue) (old new : HostedState) (room filled : FramesState) (done : Burst) → IsHosted old → IsBurst shared p q old.device room new.device filled done → new.host ≡ old.host → new.mailboxes ≡ old.mailboxes → IsHosted new
burst_stands shared p q old new room filled done is burst host boxes =
    run_stands shared old new (services done.taken p q) burst.answers is (services_silent done.taken p q) burst.run host boxes

-- and so is one of frames from the wire
wires_silent : (fs : List (List ℕ)) → AreSilent (map Wire fs)
wires_silent [] = tt
wires_silent (f ∷ fs) = (refl, wires_silent fs)

arrivals_silent : (ends bytes : List ℕ) → AreSilent (arrivals ends bytes)
unfolding arrivals
arrivals_silent ends bytes = wires_silent (filter (is_frame 9018) (cuts 0 ends bytes))

pub wire_burst_stands : (shared : Bool) (old new : HostedState) (ends bytes : List ℕ) (done : WireBurst) → IsHosted old → IsWireBurst shared old.device ends bytes new.device done → new.host ≡ old.host → new.mailboxes ≡ old.mailboxes → IsHosted new
wire_burst_stands shared old new ends bytes done is burst host boxes =
    run_stands shared old new (arrivals ends bytes) burst.answers is (arrivals_silent ends bytes) burst.run host boxes
