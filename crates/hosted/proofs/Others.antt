-- What turns of one function leave to the others.
use Rattle.std.proofs.Common.{◌≡◌, ◌≢◌, ℕ, ◌<◌, ◌≤◌, ◌==◌, Bool, true, false, List, [], ◌∷◌, ◌++◌, length, get_or, refl, sym, ap, ◌∙◌, subst, arith}
use Rattle.std.specs.Prelude.{◌||◌, is_none, Option, Some, None, slice_set, if◌then◌else◌}
use Rattle.std.specs.List.{All, cons_option}
use Rattle.std.proofs.lemmas.Bool.{eq-eqb, eqb-true, false≢true}
use Rattle.std.proofs.lemmas.List.{get_or-set_other, get_or_default}
use Rattle.std.proofs.lemmas.List.Elements.{All-cons, All-head, All-tail, All-nil}
use Rattle.device.specs.Events.{Event}
use Rattle.device.specs.declared.event.Event.TheVariants.{VfRead, VfWrite, Flr}
use Rattle.device.specs.Lone.{Item, Lone, keep, kept, lone_after, lone_of}
use Rattle.device.specs.World.{World, step, world_after}
use Rattle.device.proofs.Unwinding.{isolated_state}
use Rattle.mailbox.specs.declared.message.Message.{Message}
use Rattle.mailbox.specs.declared.slot.Slot.{Slot}
use Rattle.mailbox.specs.declared.policy.Policy.{Policy}
use Rattle.mailbox.specs.declared.slot.Slot.TheVariants.{Absent}
use Rattle.mailbox.specs.Host.{host_admitting, host_after, host_dismissing, host_freed, host_under, host_without, freed_by, refusal, slot_after}
use Rattle.mailbox.specs.Mailbox.{MailboxState, blank}
use Rattle.mailbox.specs.Slot.{with_guest}
use Rattle.mailbox.specs.Address.{is_number, number_of}
use Rattle.mailbox.specs.State.{HostState, holder, slot_at}
use Rattle.mailbox.proofs.Isolation.{slot_stays}
use Rattle.mailbox_laws.specs.Turns.{IsTurn, Turn, concerns, sets_registers, write_events, writes_admitting, events_in, events_of, host_at_end, host_of, kept_in, kept_of_turns}
use Rattle.mailbox_laws.specs.Turns.Turn.{Happens, Answers, Forgets, Admits, Dismisses}
use Rattle.mailbox_laws.proofs.Kept.{run_keeps}
use Rattle.mailbox.specs.Mailbox.{after_write}
use Rattle.mailbox.specs.Message.{message_of}
use Rattle.hosted.specs.Turns.{mail_turns, reset_turns, resets, rings, takes, write_turns}
use Rattle.hosted.specs.Hosted.{HaveTaken, HostedState, IsHosted, LeavesOthers, LeavesUnconcerned, mailbox_at}

-- an access of p's driver to a register, or p's reset
abbrev pub IsRegister : ℕ → Event → Type 0
IsRegister p (VfRead r offset) = r ≡ p
IsRegister p (VfWrite r offset x) = r ≡ p
IsRegister p (Flr r) = r ≡ p
IsRegister p _ = ⊥

-- a turn of p's own: that, what it has the host do, or that it loses its policy
abbrev pub IsOf : ℕ → Turn → Type 0
IsOf p (Happens e) = IsRegister p e
IsOf p (Answers r message) = r ≡ p
IsOf p (Forgets r) = r ≡ p
IsOf p (Admits r policy) = ⊥
IsOf p (Dismisses r) = r ≡ p

or_right : (a b : Bool) → (a || b) ≡ false → b ≡ false
or_right true b none = absurd (false≢true (sym none))
or_right false b none = none

apart : (p q : ℕ) → q ≢ p → (p == q) ≡ false
apart p q other = go (p == q) refl
  where
    go : (b : Bool) → (p == q) ≡ b → (p == q) ≡ false
    go true same = absurd (other (sym (eqb-true p q same)))
    go false differ = differ

-- it leaves nothing for another
register_none : (p q : ℕ) (w : World) (e : Event) → q ≢ p → IsRegister p e → cons_option (kept q w e) [] ≡ []
register_none p q w (VfRead r offset) other is = rw (apart r q (λ same. other (same ∙ is))) refl
register_none p q w (VfWrite r offset x) other is = rw (apart r q (λ same. other (same ∙ is))) refl
register_none p q w (Flr r) other is = rw (apart r q (λ same. other (same ∙ is))) refl
register_none p q w e other is = absurd is

kept_none : (p q : ℕ) (h : HostState) (w : World) (t : Turn) → q ≢ p → IsOf p t → kept_in q h w t ≡ []
kept_none p q h w (Happens e) other is = register_none p q w e other is
kept_none p q h w (Answers r message) other is = rw (apart r q (λ same. other (same ∙ is))) refl
kept_none p q h w (Forgets r) other is = rw (apart r q (λ same. other (same ∙ is))) refl
kept_none p q h w (Admits r policy) other is = absurd is
kept_none p q h w (Dismisses r) other is = rw (apart r q (λ same. other (same ∙ is))) refl

sets_none : (p : ℕ) (e : Event) → IsRegister p e → sets_registers e ≡ false
sets_none p (VfRead r offset) is = refl
sets_none p (VfWrite r offset x) is = refl
sets_none p (Flr r) is = refl
sets_none p e is = absurd is

is_turn : (p : ℕ) (t : Turn) → p < 64 → IsOf p t → IsTurn t
is_turn p (Happens e) below is = sets_none p e is
is_turn p (Answers r message) below is = subst (λ (k : ℕ). k < 64) (sym is) below
is_turn p (Forgets r) below is = subst (λ (k : ℕ). k < 64) (sym is) below
is_turn p (Admits r policy) below is = absurd is
is_turn p (Dismisses r) below is = subst (λ (k : ℕ). k < 64) (sym is) below

pub are_turns : (p : ℕ) (ts : List Turn) → p < 64 → All (IsOf p) ts → All IsTurn ts
are_turns p [] below all = All-nil IsTurn
are_turns p (t ∷ ts) below all = All-cons IsTurn t ts (is_turn p t below (All-head (IsOf p) t ts all)) (are_turns p ts below (All-tail (IsOf p) t ts all))

all_none : (p q : ℕ) (h : HostState) (w : World) (ts : List Turn) → q ≢ p → All (IsOf p) ts → kept_of_turns q h w ts ≡ []
all_none p q h w [] other all = refl
all_none p q h w (t ∷ ts) other all =
    ap (λ (xs : List Item). xs ++ kept_of_turns q (host_of h t) (world_after w (events_in h t)) ts) (kept_none p q h w t other (All-head (IsOf p) t ts all))
    ∙ all_none p q (host_of h t) (world_after w (events_in h t)) ts other (All-tail (IsOf p) t ts all)

-- nor does it touch what the host holds of another
slot_other : (p q : ℕ) (h : HostState) (t : Turn) → q ≢ p → IsOf p t → slot_at (host_of h t) q ≡ slot_at h q
unfolding host_after host_without host_dismissing
slot_other p q h (Happens e) other is = refl
slot_other p q h (Answers r message) other is = slot_stays h r q (slot_after h r message) (λ same. other (same ∙ is))
slot_other p q h (Forgets r) other is = slot_stays h r q (with_guest (slot_at h r) None) (λ same. other (same ∙ is))
slot_other p q h (Admits r policy) other is = absurd is
slot_other p q h (Dismisses r) other is = slot_stays h r q Absent (λ same. other (same ∙ is))

slots_other : (p q : ℕ) (h : HostState) (ts : List Turn) → q ≢ p → All (IsOf p) ts → slot_at (host_at_end h ts) q ≡ slot_at h q
slots_other p q h [] other all = refl
slots_other p q h (t ∷ ts) other all = slots_other p q (host_of h t) ts other (All-tail (IsOf p) t ts all) ∙ slot_other p q h t other (All-head (IsOf p) t ts all)

-- every other function is as it was
pub leaves_others : (p : ℕ) (old new : HostedState) (ts : List Turn) → p < 64 → IsHosted old → All (IsOf p) ts → HaveTaken ts old new → ((q : ℕ) → q ≢ p → mailbox_at new q ≡ mailbox_at old q) → LeavesOthers p old new
leaves_others p old new ts below is all taken mailboxes = record {
  functions = λ q inside other.
      ap (lone_of q) taken.world
      ∙ isolated_state q old.device.world (events_of old.host ts) inside is.functions
      ∙ ap (lone_after (lone_of q old.device.world))
      (run_keeps q old.host old.device.world ts (let few = is.functions in omega (arith, inside, few)) is.settings is.ids (are_turns p ts below all)
      ∙ all_none p q old.host old.device.world ts other all);
  slots = λ q other. ap (λ (h : HostState). slot_at h q) taken.host ∙ slots_other p q old.host ts other all;
  mailboxes = mailboxes;
}

pub box_stays : (boxes new : List MailboxState) (p q : ℕ) (m : MailboxState) → new ≡ slice_set boxes p m → q ≢ p → get_or new q blank ≡ get_or boxes q blank
box_stays boxes new p q m is other = ap (λ (xs : List MailboxState). get_or xs q blank) is ∙ get_or-set_other boxes p q m blank other

-- ---- the turns of each call are of one function

own_mail : (m : MailboxState) (p offset x : ℕ) → All (IsOf p) (mail_turns m p offset x)
own_mail m p offset x = go (rings offset x) (resets offset x)
  where
    go : (a b : Bool) → All (IsOf p) (if a then Answers p (message_of (after_write m offset x).words) ∷ [] else (if b then Forgets p ∷ [] else []))
    go true b = All-cons (IsOf p) (Answers p (message_of (after_write m offset x).words)) [] refl (All-nil (IsOf p))
    go false true = All-cons (IsOf p) (Forgets p) [] refl (All-nil (IsOf p))
    go false false = All-nil (IsOf p)

pub own_write : (h : HostedState) (p offset x : ℕ) → All (IsOf p) (write_turns h p offset x)
own_write h p offset x = All-cons (IsOf p) (Happens (VfWrite p offset x)) _ refl (go (takes h (VfWrite p offset x)))
  where
    go : (a : Bool) → All (IsOf p) (if a then mail_turns (mailbox_at h p) p offset x else [])
    go true = own_mail (mailbox_at h p) p offset x
    go false = All-nil (IsOf p)

pub own_reset : (h : HostedState) (p : ℕ) → All (IsOf p) (reset_turns h p)
own_reset h p = All-cons (IsOf p) (Happens (Flr p)) _ refl (go (takes h (Flr p)))
  where
    go : (a : Bool) → All (IsOf p) (if a then Forgets p ∷ [] else [])
    go true = All-cons (IsOf p) (Forgets p) [] refl (All-nil (IsOf p))
    go false = All-nil (IsOf p)

pub own_forget : (p : ℕ) → All (IsOf p) (Forgets p ∷ [])
own_forget p = All-cons (IsOf p) (Forgets p) [] refl (All-nil (IsOf p))

-- the mailbox that stands at the place of p
pub box_here : (boxes : List MailboxState) (i p : ℕ) (m : MailboxState) → i ≡ p → i < length boxes → m ≡ get_or boxes i m → m ≡ get_or boxes p blank
box_here boxes i p m at inside is = is ∙ get_or_default boxes i m blank inside ∙ ap (λ (k : ℕ). get_or boxes k blank) at

pub own_dismiss : (p : ℕ) → All (IsOf p) (Dismisses p ∷ [])
own_dismiss p = All-cons (IsOf p) (Dismisses p) [] refl (All-nil (IsOf p))

-- ---- a policy

-- of a function that it doesn't concern nothing changes in the host
slot_unconcerned : (h : HostState) (p q : ℕ) (policy : Policy) → concerns h p policy q ≡ false → slot_at (host_admitting h p policy) q ≡ slot_at h q
unfolding host_admitting host_under host_freed
slot_unconcerned h p q policy out = go (is_none (refusal h p policy)) (holder h p (number_of policy.address)) refl
  where
    not_p : q ≢ p
    not_p same = false≢true (sym out ∙ ap (λ (b : Bool). b || is_number (holder h p (number_of policy.address)) q) (eq-eqb p q (sym same)))

    not_loser : (o : Option ℕ) → o ≡ holder h p (number_of policy.address) → is_number o q ≡ false
    not_loser o is = or_right (p == q) (is_number o q) (ap (λ (x : Option ℕ). p == q || is_number x q) is ∙ out)

    freed : (o : Option ℕ) → is_number o q ≡ false → slot_at (freed_by h (number_of policy.address) o) q ≡ slot_at h q
    freed None differs = refl
    freed (Some r) differs = slot_stays h r q _ (λ same. false≢true (sym differs ∙ eq-eqb r q (sym same)))

    go : (b : Bool) (o : Option ℕ) → o ≡ holder h p (number_of policy.address)
        → slot_at (if b then host_under (freed_by h (number_of policy.address) o) p policy else h) q ≡ slot_at h q
    go true o is = slot_stays (freed_by h (number_of policy.address) o) p q _ not_p ∙ freed o (not_loser o is)
    go false o is = refl

pub leaves_unconcerned : (p : ℕ) (policy : Policy) (old new : HostedState) → p < 64 → IsHosted old → HaveTaken (Admits p policy ∷ []) old new → new.mailboxes ≡ old.mailboxes → LeavesUnconcerned p policy old new
leaves_unconcerned p policy old new below is taken mailboxes = record {
  functions = λ q inside out.
      ap (lone_of q) taken.world
      ∙ isolated_state q old.device.world (events_of old.host (Admits p policy ∷ [])) inside is.functions
      ∙ ap (lone_after (lone_of q old.device.world))
      (run_keeps q old.host old.device.world (Admits p policy ∷ []) (let few = is.functions in omega (arith, inside, few)) is.settings is.ids (All-cons IsTurn (Admits p policy) [] below (All-nil IsTurn))
      ∙ ap (λ (b : Bool). (if b then keep q old.device.world (write_events (writes_admitting old.host p policy)) else []) ++ []) out);
  slots = λ q out. ap (λ (h : HostState). slot_at h q) taken.host ∙ slot_unconcerned old.host p q policy out;
  mailboxes = mailboxes;
}
