-- Each call is a deed.
use Rattle.std.proofs.Common.{◌≡◌, ℕ, Bool, true, false, List, [], ◌∷◌, ◌++◌, Option, Some, None, length, refl, sym, ap, ◌∙◌}
use Rattle.std.specs.Prelude.{is_none, slice_index, slice_set, if◌then◌else◌}
use Rattle.irq_causes.specs.Causes.{◌without◌}
use Rattle.wire_frame.specs.declared.fault.Fault.{Fault}
use Rattle.device.specs.Across.{replaced}
use Rattle.device.specs.Guests.{attach_refusal, attached, detached, is_vacant, over_memory, replace_refusal}
use Rattle.device.specs.World.{World, world_after}
use Rattle.mailbox.specs.declared.not_admitted.NotAdmitted.{NotAdmitted}
use Rattle.mailbox.specs.declared.policy.Policy.{Policy}
use Rattle.mailbox.specs.Address.{number_of}
use Rattle.mailbox.specs.Host.{host_admitting, host_freed, host_under, refusal}
use Rattle.mailbox.specs.Mailbox.{blank, notice_in}
use Rattle.mailbox.specs.Replies.{notified}
use Rattle.mailbox_laws.specs.Turns.{events_of, write_events, writes_taken}
use Rattle.mailbox_laws.specs.Turns.Turn.{Admits as AdmitsTurn, Dismisses as DismissesTurn, Forgets}
use Rattle.hosted.specs.Hosted.{HaveTaken, HostedState, mailbox_at, with_world}
use Rattle.hosted.specs.Turns.{prompted_by, vectors_by}
use Rattle.vfio_session.specs.declared.decision.Ask.{Ask}
use Rattle.vfio_session.specs.declared.decision.Ask.TheVariants.{Read, Write, Map, Unmap, Reset, Arm, Disarm}
use Rattle.vfio_session.specs.declared.owed.Owed.{Owed}
use Rattle.vfio_session.specs.Received.{received}
use Rattle.vfio_session.specs.Sessions.{Received}
use Rattle.card.specs.Card.{CardState, cleared, end_at, with_offer}
use Rattle.card.specs.Life.{Hears, Signals, Resets, Comes, Goes, Replaces, Admits, Dismisses, Notifies, Offers, HasLived, after_coming, after_notice, over_world, with_notes, without_guest, world_of}
use Rattle.card.specs.Told.{after_reset, asked, joined, told, told_by, turned, with_session}

-- a card whose world, host, mailboxes, ends and vectors are these
of_parts : (old new due : CardState) → world_of new ≡ world_of due → new.hosted.host ≡ due.hosted.host → new.hosted.mailboxes ≡ due.hosted.mailboxes → new.ends ≡ due.ends → new.raised ≡ due.raised
    → due.hosted.device.accesses ≡ old.hosted.device.accesses → with_notes new old.hosted.device.accesses ≡ due
of_parts old new due world host boxes ends raised notes = λ i. record {
  hosted = record { device = record { world = world i; accesses = sym notes i }; host = host i; mailboxes = boxes i };
  ends = ends i;
  raised = raised i;
}

-- ---- a message

-- no message has a byte of a memory accessed
asked_notes : (c : CardState) (p : ℕ) (a : Ask) (o : Owed) → (asked c p a o).card.hosted.device.accesses ≡ c.hosted.device.accesses
asked_notes c p (Read offset) o = refl
asked_notes c p (Write offset x) o = refl
asked_notes c p Reset o = refl
asked_notes c p (Map mapping) o = refl
asked_notes c p (Unmap range) o = refl
asked_notes c p (Arm vectors) o = refl
asked_notes c p (Disarm vectors) o = refl

by_notes : (c : CardState) (p : ℕ) (r : Received) (a : Option Ask) (o : Option Owed) → (told_by c p r a o).card.hosted.device.accesses ≡ c.hosted.device.accesses
by_notes c p r (Some a) (Some o) = asked_notes c p a o
by_notes c p r (Some a) None = refl
by_notes c p r None o = refl

told_notes : (c : CardState) (p : ℕ) (message : List ℕ) (files : ℕ) → (told c p message files).card.hosted.device.accesses ≡ c.hosted.device.accesses
unfolding told
told_notes c p message files =
    let r : Received = received (end_at c p).session message files in
    by_notes (with_session c p r) p r r.asks r.owed

pub heard_lives : (old new : CardState) (p : ℕ) (message : List ℕ) (files : ℕ) → new ≡ (told old p message files).card → HasLived (Hears p message files ∷ []) old new
heard_lives old new p message files is =
    of_parts old new (told old p message files).card (ap world_of is) (ap (λ (c : CardState). c.hosted.host) is) (ap (λ (c : CardState). c.hosted.mailboxes) is) (ap (λ (c : CardState). c.ends) is) (ap (λ (c : CardState). c.raised) is)
    (told_notes old p message files)

pub reset_lives : (old new : CardState) (p : ℕ) → new ≡ after_reset old p → HasLived (Resets p ∷ []) old new
reset_lives old new p is =
    of_parts old new (after_reset old p) (ap world_of is) (ap (λ (c : CardState). c.hosted.host) is) (ap (λ (c : CardState). c.hosted.mailboxes) is) (ap (λ (c : CardState). c.ends) is) (ap (λ (c : CardState). c.raised) is) refl

pub offered_lives : (old new : CardState) (p : ℕ) → new ≡ with_offer old p → HasLived (Offers p ∷ []) old new
offered_lives old new p is =
    of_parts old new (with_offer old p) (ap world_of is) (ap (λ (c : CardState). c.hosted.host) is) (ap (λ (c : CardState). c.hosted.mailboxes) is) (ap (λ (c : CardState). c.ends) is) (ap (λ (c : CardState). c.raised) is) refl

pub signal_lives : (old new : CardState) (p vectors : ℕ) → new.hosted ≡ old.hosted → new.ends ≡ old.ends → new.raised ≡ slice_set old.raised p (slice_index old.raised p without vectors) → HasLived (Signals p vectors ∷ []) old new
signal_lives old new p vectors hosted ends raised =
    of_parts old new (record old { raised = slice_set old.raised p (slice_index old.raised p without vectors) }) (ap (λ (h : HostedState). h.device.world) hosted) (ap (λ (h : HostedState). h.host) hosted) (ap (λ (h : HostedState). h.mailboxes) hosted) ends raised refl

-- ---- guests

-- the host forgot
forgot : (old new : CardState) (p : ℕ) (w : World) → HaveTaken (Forgets p ∷ []) (with_world old.hosted w) new.hosted → new.hosted.mailboxes ≡ slice_set old.hosted.mailboxes p blank
    → new.ends ≡ (cleared old p).ends → new.raised ≡ (cleared old p).raised → with_notes new old.hosted.device.accesses ≡ without_guest (over_world old w) p
forgot old new p w taken boxes ends raised = of_parts old new (without_guest (over_world old w) p) taken.world taken.host boxes ends raised refl

pub came_lives : (old new : CardState) (p : ℕ) (memory : List ℕ) → attach_refusal (world_of old) p (length memory) ≡ None
    → HaveTaken (Forgets p ∷ []) (with_world old.hosted (attached (world_of old) p memory)) new.hosted → new.hosted.mailboxes ≡ slice_set old.hosted.mailboxes p blank
    → new.ends ≡ (cleared old p).ends → new.raised ≡ (cleared old p).raised → HasLived (Comes p memory ∷ []) old new
came_lives old new p memory none taken boxes ends raised =
    forgot old new p (attached (world_of old) p memory) taken boxes ends raised ∙ ap (after_coming old p memory) (sym none)

pub refused_lives : (old new : CardState) (p : ℕ) (memory : List ℕ) (why : Fault) → attach_refusal (world_of old) p (length memory) ≡ Some why → new ≡ old → HasLived (Comes p memory ∷ []) old new
refused_lives old new p memory why refused same = ap (λ (c : CardState). with_notes c old.hosted.device.accesses) same ∙ ap (after_coming old p memory) (sym refused)

pub went_lives : (old new : CardState) (p : ℕ) → is_vacant (world_of old) p ≡ false
    → HaveTaken (Forgets p ∷ []) (with_world old.hosted (detached (world_of old) p)) new.hosted → new.hosted.mailboxes ≡ slice_set old.hosted.mailboxes p blank
    → new.ends ≡ (cleared old p).ends → new.raised ≡ (cleared old p).raised → HasLived (Goes p ∷ []) old new
went_lives old new p there taken boxes ends raised =
    forgot old new p (detached (world_of old) p) taken boxes ends raised
    ∙ ap (λ (b : Bool). if b then old else without_guest (over_world old (detached (world_of old) p)) p) (sym there)

pub vacant_lives : (old new : CardState) (p : ℕ) → is_vacant (world_of old) p ≡ true → new ≡ old → HasLived (Goes p ∷ []) old new
vacant_lives old new p vacant same =
    ap (λ (c : CardState). with_notes c old.hosted.device.accesses) same
    ∙ ap (λ (b : Bool). if b then old else without_guest (over_world old (detached (world_of old) p)) p) (sym vacant)

pub replaced_lives : (old new : CardState) (p : ℕ) (memory : List ℕ) → replace_refusal (world_of old) p (length memory) ≡ None → world_of new ≡ over_memory (world_of old) p memory
    → new.hosted.host ≡ old.hosted.host → new.hosted.mailboxes ≡ old.hosted.mailboxes → new.ends ≡ old.ends → new.raised ≡ old.raised → HasLived (Replaces p memory ∷ []) old new
replaced_lives old new p memory none world host boxes ends raised =
    of_parts old new (over_world old (over_memory (world_of old) p memory)) world host boxes ends raised refl
    ∙ ap (λ (r : Option Fault). over_world old (replaced (world_of old) p memory r)) (sym none)

pub kept_lives : (old new : CardState) (p : ℕ) (memory : List ℕ) (why : Fault) → replace_refusal (world_of old) p (length memory) ≡ Some why → new ≡ old → HasLived (Replaces p memory ∷ []) old new
kept_lives old new p memory why refused same =
    ap (λ (c : CardState). with_notes c old.hosted.device.accesses) same
    ∙ ap (λ (r : Option Fault). over_world old (replaced (world_of old) p memory r)) (sym refused)

-- ---- policies

pub admitted_lives : (old new : CardState) (p : ℕ) (policy : Policy) → HaveTaken (AdmitsTurn p policy ∷ []) old.hosted new.hosted → new.hosted.mailboxes ≡ old.hosted.mailboxes → new.ends ≡ old.ends → new.raised ≡ old.raised
    → HasLived (Admits p policy ∷ []) old new
admitted_lives old new p policy taken boxes ends raised =
    of_parts old new (record old { hosted = turned old.hosted (AdmitsTurn p policy ∷ []) old.hosted.mailboxes }) taken.world taken.host boxes ends raised refl

pub dismissed_lives : (old new : CardState) (p : ℕ) → HaveTaken (DismissesTurn p ∷ []) old.hosted new.hosted → new.hosted.mailboxes ≡ old.hosted.mailboxes → new.ends ≡ old.ends → new.raised ≡ old.raised → HasLived (Dismisses p ∷ []) old new
dismissed_lives old new p taken boxes ends raised =
    of_parts old new (record old { hosted = turned old.hosted (DismissesTurn p ∷ []) old.hosted.mailboxes }) taken.world taken.host boxes ends raised refl

pub notified_lives : (old new : CardState) (p : ℕ) → new.hosted.mailboxes ≡ slice_set old.hosted.mailboxes p (notified old.hosted.host p (mailbox_at old.hosted p)) → new.hosted.host ≡ old.hosted.host
    → world_of new ≡ prompted_by (notice_in (mailbox_at old.hosted p)) (world_of old) p → new.ends ≡ old.ends
    → new.raised ≡ joined old.raised p (vectors_by (notice_in (mailbox_at old.hosted p)) (world_of old) p) → HasLived (Notifies p ∷ []) old new
notified_lives old new p boxes host world ends raised = of_parts old new (after_notice old p (notice_in (mailbox_at old.hosted p))) world host boxes ends raised refl

-- a policy that is not taken changes nothing
pub unadmitted_lives : (old new : CardState) (p : ℕ) (policy : Policy) (why : NotAdmitted) → refusal old.hosted.host p policy ≡ Some why → new ≡ old → HasLived (Admits p policy ∷ []) old new
unfolding host_admitting
unadmitted_lives old new p policy why refused same = ap (λ (c : CardState). with_notes c old.hosted.device.accesses) same ∙ sym (λ i. record old { hosted = at i })
  where
    host : host_admitting old.hosted.host p policy ≡ old.hosted.host
    host = ap (λ (r : Option NotAdmitted). if is_none r then host_under (host_freed old.hosted.host p (number_of policy.address)) p policy else old.hosted.host) refused

    world : world_after (world_of old) (events_of old.hosted.host (AdmitsTurn p policy ∷ [])) ≡ world_of old
    world = ap (λ (r : Option NotAdmitted). world_after (world_of old) (write_events (if is_none r then writes_taken old.hosted.host p policy else []) ++ [])) refused

    at : turned old.hosted (AdmitsTurn p policy ∷ []) old.hosted.mailboxes ≡ old.hosted
    at = λ i. record { device = record { world = world i; accesses = old.hosted.device.accesses }; host = host i; mailboxes = old.hosted.mailboxes }
