-- What is so of a card between two calls is so after any deed, and a deed of one function leaves the others as they are.
use Rattle.std.proofs.Common.{◌≡◌, ◌≢◌, ℕ, ◌<◌, ◌≤◌, Bool, true, false, List, [], ◌∷◌, Option, Some, None, length, get_or, refl, sym, ◌∙◌, subst, arith}
use Rattle.std.specs.Prelude.{is_none, slice_index, slice_set, if◌then◌else◌}
use Rattle.std.specs.Int.{bit_not, w8}
use Rattle.std.specs.List.{All}
use Rattle.std.proofs.lemmas.List.{get_or-set_other, length-set}
use Rattle.std.proofs.lemmas.List.Elements.{All-cons, All-head, All-nil, All-tail}
use Rattle.irq_causes.specs.Causes.{◌without◌}
use Rattle.irq_causes.specs.Messages.{either}
use Rattle.irq_causes.proofs.Bounds.{and_below_eight}
use Rattle.wire_frame.specs.declared.fault.Fault.{Fault}
use Rattle.vf_unit.specs.Function.{initial_with}
use Rattle.vf_unit.specs.Guests.{moved_to}
use Rattle.vf_unit.specs.Unit.{Closed, Function, Open}
use Rattle.device.specs.Across.{replaced}
use Rattle.device.specs.Events.{Event}
use Rattle.device.specs.declared.event.Event.TheVariants.{VfRead, VfWrite, Serve, Flr}
use Rattle.device.specs.Guests.{attach_refusal, is_vacant, replace_refusal}
use Rattle.device.specs.Replies.{Reply}
use Rattle.device.specs.World.{World, function_of, step, with_function, world_after}
use Rattle.device.proofs.Shape.{step_shape}
use Rattle.live_run.specs.Bursts.{goes_on}
use Rattle.mailbox.specs.declared.mailbox.Notice.{Notice}
use Rattle.mailbox.specs.declared.not_admitted.NotAdmitted.{NotAdmitted}
use Rattle.mailbox.specs.declared.policy.Policy.{Policy}
use Rattle.mailbox.specs.Address.{number_of}
use Rattle.mailbox.specs.Host.{freed_by, host_admitting, host_after, host_dismissing, host_freed, host_under, host_without, refusal}
use Rattle.mailbox.specs.Keeping.{under}
use Rattle.mailbox.specs.Mailbox.{MailboxState, after_read as box_read, after_reset as box_reset, blank, notice_in}
use Rattle.mailbox.specs.Replies.{notified}
use Rattle.mailbox.specs.State.{HostState, holder, slot_at, with_slot}
use Rattle.mailbox.specs.Within.{IsWithin}
use Rattle.mailbox.proofs.Admitted.{dismiss_within}
use Rattle.mailbox.proofs.Freed.{take_within}
use Rattle.mailbox.proofs.Policies.{message_within, reset_within}
use Rattle.mailbox.proofs.Turns.{some_is}
use Rattle.mailbox_laws.specs.Turns.{Turn, events_of, host_at_end, host_of, sets_registers}
use Rattle.mailbox_laws.specs.Turns.Turn.{Admits as AdmitsTurn, Answers, Dismisses as DismissesTurn, Forgets, Happens as HappensTurn}
use Rattle.mailbox_laws.proofs.Kept.{event_stays}
use Rattle.hosted.specs.Hosted.{HostedState, IsHosted, LeavesOthers, mailbox_at, with_world}
use Rattle.hosted.specs.Turns.{mailboxes_read, mailboxes_reset, mailboxes_written, mailed, reset_turns, takes, vectors_by, write_turns}
use Rattle.hosted.proofs.Others.{IsOf, leaves_others, own_dismiss, own_reset, own_write}
use Rattle.hosted.proofs.Stands.{Shows, moved, prompt_changes, remade, stands, stands_admitted, told as noticed}
use Rattle.vfio_session.specs.declared.decision.Ask.{Ask}
use Rattle.vfio_session.specs.declared.decision.Ask.TheVariants.{Read, Write, Map, Unmap, Reset, Arm, Disarm}
use Rattle.vfio_session.specs.declared.owed.Owed.{Owed}
use Rattle.vfio_session.specs.Received.{received}
use Rattle.vfio_session.specs.Sessions.{Received, offering}
use Rattle.card.proofs.Raised.{both_count, both_small, either_small, set_small}
use Rattle.card.specs.Alike.{IsCard}
use Rattle.card.specs.Card.{CardState, EndState, LeavesAlone, end_at, quiet, with_offer}
use Rattle.card.specs.Life.{Deed, Hears, Happens, Signals, Resets, Comes, Goes, Replaces, Admits, Dismisses, Notifies, Offers, IsDeed, after_coming, after_deed, after_notice, card_after, ends_after, over_world, whose, without_guest, world_of}
use Rattle.card.specs.Served.{with_busy}
use Rattle.card.specs.Told.{after_read, after_reset, after_write, asked, joined, marked, told, told_by, told_with, turned, with_session}

-- ---- lists of which one place is another

pub record IsApart {X : Type 0} (q : ℕ) (d : X) (old new : List X) : Type 0 where
  pub many : length new ≡ length old
  pub others : (r : ℕ) → r ≢ q → get_or new r d ≡ get_or old r d

set_apart : {X : Type 0} (q : ℕ) (d x : X) (xs : List X) → IsApart q d xs (slice_set xs q x)
set_apart q d x xs = record { many = length-set xs q x; others = λ r other. get_or-set_other xs q r x d other }

same_apart : {X : Type 0} (q : ℕ) (d : X) (xs : List X) → IsApart q d xs xs
same_apart q d xs = record { many = refl; others = λ r other. refl }

if_apart : {X : Type 0} (q : ℕ) (d x : X) (xs : List X) (b : Bool) → IsApart q d xs (if b then slice_set xs q x else xs)
if_apart q d x xs true = set_apart q d x xs
if_apart q d x xs false = same_apart q d xs

-- ---- what turns leave as it is

-- of the host, what is the same for all functions
pub record IsSameForAll (h k : HostState) : Type 0 where
  pub ids : k.ids ≡ h.ids
  pub pool : k.default_pool ≡ h.default_pool
  pub limit : k.limit ≡ h.limit

all_same : (h : HostState) → IsSameForAll h h
all_same h = record { ids = refl; pool = refl; limit = refl }

pub admitting_same : (h : HostState) (p : ℕ) (policy : Policy) → IsSameForAll h (host_admitting h p policy)
unfolding host_admitting host_under host_freed
admitting_same h p policy = go (is_none (refusal h p policy)) (holder h p (number_of policy.address))
  where
    put : HostState → HostState
    put k = with_slot k p (under policy (slot_at k p))

    go : (b : Bool) (o : Option ℕ) → IsSameForAll h (if b then put (freed_by h (number_of policy.address) o) else h)
    go true None = record { ids = refl; pool = refl; limit = refl }
    go true (Some q) = record { ids = refl; pool = refl; limit = refl }
    go false o = all_same h

turn_same : (h : HostState) (t : Turn) → IsSameForAll h (host_of h t)
unfolding host_after host_without host_dismissing
turn_same h (HappensTurn e) = all_same h
turn_same h (Answers p message) = record { ids = refl; pool = refl; limit = refl }
turn_same h (Forgets p) = record { ids = refl; pool = refl; limit = refl }
turn_same h (AdmitsTurn p policy) = admitting_same h p policy
turn_same h (DismissesTurn p) = record { ids = refl; pool = refl; limit = refl }

pub turns_same : (h : HostState) (ts : List Turn) → IsSameForAll h (host_at_end h ts)
turns_same h [] = all_same h
turns_same h (t ∷ ts) =
    let one : IsSameForAll h (host_of h t) = turn_same h t in
    let rest : IsSameForAll (host_of h t) (host_at_end (host_of h t) ts) = turns_same (host_of h t) ts in
    record { ids = rest.ids ∙ one.ids; pool = rest.pool ∙ one.pool; limit = rest.limit ∙ one.limit }

-- no function has more than its policy grants
turn_within : (p : ℕ) (h : HostState) (t : Turn) → p < 64 → IsOf p t → IsWithin h → IsWithin (host_of h t)
turn_within p h (HappensTurn e) below is within = within
turn_within p h (Answers r message) below is within = message_within h r message (subst (λ (k : ℕ). k < 64) (sym is) below) within
turn_within p h (Forgets r) below is within = reset_within h r (subst (λ (k : ℕ). k < 64) (sym is) below) within
turn_within p h (AdmitsTurn r policy) below is within = absurd is
turn_within p h (DismissesTurn r) below is within = dismiss_within h r (subst (λ (k : ℕ). k < 64) (sym is) below) within

turns_within : (p : ℕ) (h : HostState) (ts : List Turn) → p < 64 → All (IsOf p) ts → IsWithin h → IsWithin (host_at_end h ts)
turns_within p h [] below all within = within
turns_within p h (t ∷ ts) below all within =
    turns_within p (host_of h t) ts below (All-tail (IsOf p) t ts all) (turn_within p h t below (All-head (IsOf p) t ts all) within)

-- there are as many functions
pub as_many_after : (w : World) (es : List Event) → length (world_after w es).functions ≡ length w.functions
as_many_after w [] = refl
as_many_after w (e ∷ es) = as_many_after (step w e).world es ∙ (step_shape w e).functions

-- ---- what a deed of function q leaves

-- what is so of each card, as many functions, and what is the same for all of them
pub record Stands (c d : CardState) : Type 0 where
  pub card : IsCard d
  pub many : length d.hosted.device.world.functions ≡ length c.hosted.device.world.functions
  pub same : IsSameForAll c.hosted.host d.hosted.host

-- and all functions but q as they are
pub record Does (q : ℕ) (c d : CardState) : Type 0 where
  pub stands : Stands c d
  pub alone : LeavesAlone q c d

does_nothing : (q : ℕ) (c : CardState) → IsCard c → Does q c c
does_nothing q c is = record {
  stands = record { card = is; many = refl; same = all_same c.hosted.host };
  alone = record {
    hosted = record { functions = λ r inside other. refl; slots = λ r other. refl; mailboxes = λ r other. refl };
    ends = λ r other. refl;
    raised = λ r other. refl;
  };
}

-- first one, then another
does_both : (q : ℕ) (c d e : CardState) → Does q c d → Does q d e → Does q c e
does_both q c d e one two = record {
  stands = record {
    card = two.stands.card;
    many = two.stands.many ∙ one.stands.many;
    same = record { ids = two.stands.same.ids ∙ one.stands.same.ids; pool = two.stands.same.pool ∙ one.stands.same.pool; limit = two.stands.same.limit ∙ one.stands.same.limit };
  };
  alone = record {
    hosted = record {
      functions = λ r inside other.
          two.alone.hosted.functions r (subst (λ (n : ℕ). r < n) (sym one.stands.many) inside) other ∙ one.alone.hosted.functions r inside other;
      slots = λ r other. two.alone.hosted.slots r other ∙ one.alone.hosted.slots r other;
      mailboxes = λ r other. two.alone.hosted.mailboxes r other ∙ one.alone.hosted.mailboxes r other;
    };
    ends = λ r other. two.alone.ends r other ∙ one.alone.ends r other;
    raised = λ r other. two.alone.raised r other ∙ one.alone.raised r other;
  };
}

-- with another device and host, of which that is so, and with the end and the vectors of q alone others
with_hosted : (q : ℕ) (c : CardState) (h : HostedState) (ends : List EndState) (raised : List ℕ) → IsCard c → IsHosted h → LeavesOthers q c.hosted h
    → length h.device.world.functions ≡ length c.hosted.device.world.functions → IsSameForAll c.hosted.host h.host → IsApart q quiet c.ends ends → IsApart q 0 c.raised raised → ((p : ℕ) → slice_index raised p < 8)
    → Does q c (record { hosted = h; ends = ends; raised = raised })
with_hosted q c h ends raised is hosted others many same at_ends at_raised small = record {
  stands = record {
    card = record { hosted = hosted; ends = at_ends.many ∙ is.ends; raised = at_raised.many ∙ is.raised; sets = small };
    many = many;
    same = same;
  };
  alone = record { hosted = others; ends = at_ends.others; raised = at_raised.others };
}

-- turns of q's own
turns_do : (q : ℕ) (c : CardState) (ts : List Turn) (boxes : List MailboxState) (ends : List EndState) (raised : List ℕ) → q < 64 → IsCard c → All (IsOf q) ts
    → IsApart q blank c.hosted.mailboxes boxes → IsApart q quiet c.ends ends → IsApart q 0 c.raised raised → ((p : ℕ) → slice_index raised p < 8)
    → Does q c (record { hosted = turned c.hosted ts boxes; ends = ends; raised = raised })
turns_do q c ts boxes ends raised below is all at_boxes at_ends at_raised small =
    with_hosted q c (turned c.hosted ts boxes) ends raised is
    (stands q c.hosted (turned c.hosted ts boxes) ts below is.hosted all (record { world = refl; host = refl }) (turns_within q c.hosted.host ts below all is.hosted.within) at_boxes.many)
    (leaves_others q c.hosted (turned c.hosted ts boxes) ts below is.hosted all (record { world = refl; host = refl }) at_boxes.others)
    (as_many_after c.hosted.device.world (events_of c.hosted.host ts))
    (turns_same c.hosted.host ts) at_ends at_raised small

-- ---- a message

-- a register is read or written
read_does : (q offset : ℕ) (c : CardState) → q < 64 → IsCard c → Does q c (after_read c q offset)
read_does q offset c below is =
    turns_do q c (HappensTurn (VfRead q offset) ∷ []) (mailboxes_read c.hosted q offset) c.ends c.raised below is
    (All-cons (IsOf q) (HappensTurn (VfRead q offset)) [] refl (All-nil (IsOf q)))
    (if_apart q blank (box_read (mailbox_at c.hosted q) offset) c.hosted.mailboxes (takes c.hosted (VfRead q offset)))
    (same_apart q quiet c.ends) (same_apart q 0 c.raised) is.sets

write_does : (q offset x : ℕ) (c : CardState) → q < 64 → IsCard c → Does q c (after_write c q offset x)
write_does q offset x c below is =
    turns_do q c (write_turns c.hosted q offset x) (mailboxes_written c.hosted q offset x) (slice_set c.ends q (marked (end_at c q) offset)) _ below is
    (own_write c.hosted q offset x)
    (if_apart q blank (mailed c.hosted.host q (mailbox_at c.hosted q) offset x) c.hosted.mailboxes (takes c.hosted (VfWrite q offset x)))
    (set_apart q quiet (marked (end_at c q) offset) c.ends) (set_apart q 0 _ c.raised)
    (set_small c.raised q _ is.sets (either_small (slice_index c.raised q) (slice_index (step c.hosted.device.world (VfWrite q offset x)).answer.raised q)))

reset_does : (q : ℕ) (c : CardState) → q < 64 → IsCard c → Does q c (after_reset c q)
reset_does q c below is =
    turns_do q c (reset_turns c.hosted q) (mailboxes_reset c.hosted q) (slice_set c.ends q (record (end_at c q) { busy_0 = false; busy_1 = false })) (slice_set c.raised q 0) below is
    (own_reset c.hosted q)
    (if_apart q blank box_reset c.hosted.mailboxes (takes c.hosted (Flr q)))
    (set_apart q quiet (record (end_at c q) { busy_0 = false; busy_1 = false }) c.ends) (set_apart q 0 0 c.raised) (set_small c.raised q 0 is.sets (omega arith))

asked_does : (q : ℕ) (c : CardState) (a : Ask) (o : Owed) → q < 64 → IsCard c → Does q c (asked c q a o).card
asked_does q c (Read offset) o below is = read_does q offset c below is
asked_does q c (Write offset x) o below is = write_does q offset x c below is
asked_does q c Reset o below is = reset_does q c below is
asked_does q c (Map mapping) o below is = does_nothing q c is
asked_does q c (Unmap range) o below is = does_nothing q c is
asked_does q c (Arm vectors) o below is = does_nothing q c is
asked_does q c (Disarm vectors) o below is = does_nothing q c is

by_does : (q : ℕ) (c : CardState) (r : Received) (a : Option Ask) (o : Option Owed) → q < 64 → IsCard c → Does q c (told_by c q r a o).card
by_does q c r (Some a) (Some o) below is = asked_does q c a o below is
by_does q c r (Some a) None below is = does_nothing q c is
by_does q c r None o below is = does_nothing q c is

-- nothing but the end or the vectors of q is another
plainly_does : (q : ℕ) (c : CardState) (ends : List EndState) (raised : List ℕ) → IsCard c → IsApart q quiet c.ends ends → IsApart q 0 c.raised raised → ((p : ℕ) → slice_index raised p < 8)
    → Does q c (record { hosted = c.hosted; ends = ends; raised = raised })
plainly_does q c ends raised is at_ends at_raised small =
    let nothing : Does q c c = does_nothing q c is in
    with_hosted q c c.hosted ends raised is is.hosted nothing.alone.hosted refl (all_same c.hosted.host) at_ends at_raised small

session_does : (q : ℕ) (c : CardState) (r : Received) → IsCard c → Does q c (with_session c q r)
session_does q c r is =
    plainly_does q c (slice_set c.ends q (record (end_at c q) { session = r.session })) c.raised is (set_apart q quiet (record (end_at c q) { session = r.session }) c.ends) (same_apart q 0 c.raised) is.sets

offer_does : (q : ℕ) (c : CardState) → IsCard c → Does q c (with_offer c q)
offer_does q c is =
    let e : EndState = record (end_at c q) { session = offering (end_at c q).session } in
    plainly_does q c (slice_set c.ends q e) c.raised is (set_apart q quiet e c.ends) (same_apart q 0 c.raised) is.sets

told_does : (q : ℕ) (c : CardState) (message : List ℕ) (files : ℕ) → q < 64 → IsCard c → Does q c (told c q message files).card
unfolding told
told_does q c message files below is =
    let r : Received = received (end_at c q).session message files in
    let first : Does q c (with_session c q r) = session_does q c r is in
    does_both q c (with_session c q r) (told_with c q r).card first (by_does q (with_session c q r) r r.asks r.owed below first.stands.card)

-- ---- guests

-- the function of q is another, and then the host forgets
guest_does : (q : ℕ) (c : CardState) (f : Function) → q < 64 → IsCard c → Does q c (without_guest (over_world c (with_function (world_of c) q f)) q)
guest_does q c f below is =
    let w : World = with_function (world_of c) q f in
    let h : HostedState = turned (with_world c.hosted w) (Forgets q ∷ []) (slice_set c.hosted.mailboxes q blank) in
    let moves : Shows q c.hosted h = moved c.hosted h q w below is.hosted (f, refl) refl refl (reset_within c.hosted.host q below is.hosted.within) refl in
    with_hosted q c h (slice_set c.ends q quiet) (slice_set c.raised q 0) is moves.hosted moves.others
    (as_many_after w (events_of c.hosted.host (Forgets q ∷ [])) ∙ length-set (world_of c).functions q f)
    (turns_same c.hosted.host (Forgets q ∷ [])) (set_apart q quiet quiet c.ends) (set_apart q 0 0 c.raised) (set_small c.raised q 0 is.sets (omega arith))

coming_does : (q : ℕ) (c : CardState) (memory : List ℕ) (r : Option Fault) → q < 64 → IsCard c → Does q c (after_coming c q memory r)
coming_does q c memory None below is = guest_does q c (Open (initial_with (world_of c).profile.offloads memory)) below is
coming_does q c memory (Some fault) below is = does_nothing q c is

going_does : (q : ℕ) (c : CardState) (b : Bool) → q < 64 → IsCard c
    → Does q c (if b then c else without_guest (over_world c (if b then world_of c else with_function (world_of c) q (Closed 0))) q)
going_does q c true below is = does_nothing q c is
going_does q c false below is = guest_does q c (Closed 0) below is

replacing_does : (q : ℕ) (c : CardState) (memory : List ℕ) (r : Option Fault) → IsCard c → Does q c (over_world c (replaced (world_of c) q memory r))
replacing_does q c memory None is =
    let f : Function = moved_to (function_of q (world_of c)) memory in
    let h : HostedState = with_world c.hosted (with_function (world_of c) q f) in
    let moves : Shows q c.hosted h = remade q c.hosted h f is.hosted refl refl refl in
    with_hosted q c h c.ends c.raised is moves.hosted moves.others (length-set (world_of c).functions q f) (all_same c.hosted.host) (same_apart q quiet c.ends) (same_apart q 0 c.raised) is.sets
replacing_does q c memory (Some fault) is = does_nothing q c is

-- ---- the host's own message

notice_does : (q : ℕ) (c : CardState) (notice : Notice) → IsCard c → Does q c (after_notice c q notice)
notice_does q c notice is =
    let h : HostedState = (after_notice c q notice).hosted in
    let vectors : ℕ = vectors_by notice (world_of c) q in
    let shown : Shows q c.hosted h = noticed q c.hosted h (notified c.hosted.host q (mailbox_at c.hosted q)) notice is.hosted refl refl refl in
    with_hosted q c h c.ends (joined c.raised q vectors) is shown.hosted shown.others (prompt_changes q (world_of c) notice).many (all_same c.hosted.host) (same_apart q quiet c.ends)
    (set_apart q 0 (either (slice_index c.raised q) vectors) c.raised) (set_small c.raised q (either (slice_index c.raised q) vectors) is.sets (either_small (slice_index c.raised q) vectors))

-- ---- any deed

-- but an event, and a policy, which may take an address from another function
abbrev pub IsAlone : Deed → Type 0
IsAlone (Happens e) = ⊥
IsAlone (Admits p policy) = ⊥
IsAlone _ = Unit {0}

pub alone_does : (q : ℕ) (c : CardState) (x : Deed) → IsAlone x → whose x ≡ Some q → q < 64 → IsCard c → Does q c (after_deed c x)
alone_does q c (Hears r message files) one at below is = subst (λ (k : ℕ). Does q c (after_deed c (Hears k message files))) (some_is (sym at)) (told_does q c message files below is)
alone_does q c (Happens e) one at below is = absurd one
alone_does q c (Signals r vectors) one at below is =
    let left : ℕ = slice_index c.raised q without vectors in
    subst (λ (k : ℕ). Does q c (after_deed c (Signals k vectors))) (some_is (sym at))
    (plainly_does q c c.ends (slice_set c.raised q left) is (same_apart q quiet c.ends) (set_apart q 0 left c.raised) (set_small c.raised q left is.sets (and_below_eight (slice_index c.raised q) (bit_not w8 vectors) (is.sets q))))
alone_does q c (Resets r) one at below is = subst (λ (k : ℕ). Does q c (after_deed c (Resets k))) (some_is (sym at)) (reset_does q c below is)
alone_does q c (Comes r memory) one at below is =
    subst (λ (k : ℕ). Does q c (after_deed c (Comes k memory))) (some_is (sym at)) (coming_does q c memory (attach_refusal (world_of c) q (length memory)) below is)
alone_does q c (Goes r) one at below is = subst (λ (k : ℕ). Does q c (after_deed c (Goes k))) (some_is (sym at)) (going_does q c (is_vacant (world_of c) q) below is)
alone_does q c (Replaces r memory) one at below is =
    subst (λ (k : ℕ). Does q c (after_deed c (Replaces k memory))) (some_is (sym at)) (replacing_does q c memory (replace_refusal (world_of c) q (length memory)) is)
alone_does q c (Admits r policy) one at below is = absurd one
alone_does q c (Dismisses r) one at below is =
    subst (λ (k : ℕ). Does q c (after_deed c (Dismisses k))) (some_is (sym at))
    (turns_do q c (DismissesTurn q ∷ []) c.hosted.mailboxes c.ends c.raised below is (own_dismiss q) (same_apart q blank c.hosted.mailboxes) (same_apart q quiet c.ends) (same_apart q 0 c.raised) is.sets)
alone_does q c (Notifies r) one at below is = subst (λ (k : ℕ). Does q c (after_deed c (Notifies k))) (some_is (sym at)) (notice_does q c (notice_in (mailbox_at c.hosted q)) is)
alone_does q c (Offers r) one at below is = subst (λ (k : ℕ). Does q c (after_deed c (Offers k))) (some_is (sym at)) (offer_does q c is)

-- ---- an event, and a policy

ends_count : (c : CardState) (e : Event) (reply : Reply) → length (ends_after c e reply) ≡ length c.ends
ends_count c (Serve p q) reply = length-set c.ends p (with_busy (end_at c p) q (goes_on reply))
ends_count c e reply = refl

event_stands : (c : CardState) (e : Event) → sets_registers e ≡ false → IsCard c → Stands c (after_deed c (Happens e))
event_stands c e none is = record {
  card = record {
    hosted = record {
      settings = event_stays (world_of c) e none ∙ is.hosted.settings;
      within = is.hosted.within;
      ids = is.hosted.ids;
      slots = is.hosted.slots;
      functions = subst (λ (n : ℕ). n ≤ 64) (sym (step_shape (world_of c) e).functions) is.hosted.functions;
      many = is.hosted.many;
    };
    ends = ends_count c e (step (world_of c) e).answer.reply ∙ is.ends;
    raised = both_count c.raised (step (world_of c) e).answer.raised;
    sets = both_small c.raised (step (world_of c) e).answer.raised;
  };
  many = (step_shape (world_of c) e).functions;
  same = all_same c.hosted.host;
}

admitting_within : (h : HostState) (p : ℕ) (policy : Policy) → p < 64 → IsWithin h → IsWithin (host_admitting h p policy)
unfolding host_admitting
admitting_within h p policy below within = go (refusal h p policy) refl
  where
    go : (r : Option NotAdmitted) → refusal h p policy ≡ r → IsWithin (if is_none r then host_under (host_freed h p (number_of policy.address)) p policy else h)
    go None taken = take_within h p policy below taken within
    go (Some why) refused = within

admit_stands : (c : CardState) (p : ℕ) (policy : Policy) → p < 64 → IsCard c → Stands c (after_deed c (Admits p policy))
admit_stands c p policy below is =
    let h : HostedState = turned c.hosted (AdmitsTurn p policy ∷ []) c.hosted.mailboxes in
    record {
      card = record {
        hosted = stands_admitted p c.hosted h policy below is.hosted (record { world = refl; host = refl }) (admitting_within c.hosted.host p policy below is.hosted.within) refl;
        ends = is.ends;
        raised = is.raised;
        sets = is.sets;
      };
      many = as_many_after (world_of c) (events_of c.hosted.host (AdmitsTurn p policy ∷ []));
      same = admitting_same c.hosted.host p policy;
    }

pub deed_stands : (c : CardState) (x : Deed) → IsDeed x → IsCard c → Stands c (after_deed c x)
deed_stands c (Hears p message files) deed is = (alone_does p c (Hears p message files) tt refl deed is).stands
deed_stands c (Happens e) deed is = event_stands c e deed is
deed_stands c (Signals p vectors) deed is = (alone_does p c (Signals p vectors) tt refl deed is).stands
deed_stands c (Resets p) deed is = (alone_does p c (Resets p) tt refl deed is).stands
deed_stands c (Comes p memory) deed is = (alone_does p c (Comes p memory) tt refl deed is).stands
deed_stands c (Goes p) deed is = (alone_does p c (Goes p) tt refl deed is).stands
deed_stands c (Replaces p memory) deed is = (alone_does p c (Replaces p memory) tt refl deed is).stands
deed_stands c (Admits p policy) deed is = admit_stands c p policy deed is
deed_stands c (Dismisses p) deed is = (alone_does p c (Dismisses p) tt refl deed is).stands
deed_stands c (Notifies p) deed is = (alone_does p c (Notifies p) tt refl deed is).stands
deed_stands c (Offers p) deed is = (alone_does p c (Offers p) tt refl deed is).stands

-- ---- a life

pub life_stands : (c : CardState) (xs : List Deed) → IsCard c → All IsDeed xs → IsCard (card_after c xs)
life_stands c [] is all = is
life_stands c (x ∷ xs) is all = life_stands (after_deed c x) xs (deed_stands c x (All-head IsDeed x xs all) is).card (All-tail IsDeed x xs all)
