-- What a deed leaves as it was: how many functions there are, and where no policy comes or goes, each function's policy.
use Rattle.std.proofs.Common.{◌≡◌, ℕ, ◌<◌, Bool, true, false, List, [], ◌∷◌, Option, Some, None, length, refl, sym, ap, ◌∙◌, true≢false}
use Rattle.std.specs.Prelude.{if◌then◌else◌}
use Rattle.std.specs.List.{All}
use Rattle.std.proofs.lemmas.List.{length-set}
use Rattle.wire_frame.specs.declared.fault.Fault.{Fault}
use Rattle.vf_unit.specs.Function.{initial_with}
use Rattle.vf_unit.specs.Guests.{moved_to}
use Rattle.vf_unit.specs.Unit.{Closed, Open}
use Rattle.device.specs.Across.{replaced}
use Rattle.device.specs.Events.{Event}
use Rattle.device.specs.declared.event.Event.TheVariants.{Flr, VfWrite}
use Rattle.device.specs.Guests.{attach_refusal, attached, is_vacant, replace_refusal}
use Rattle.device.specs.World.{World, function_of, step, with_function, world_after}
use Rattle.device.proofs.Shape.{step_shape}
use Rattle.mailbox.specs.declared.message.Message.{Message}
use Rattle.mailbox.specs.Mailbox.{after_write as box_written, notice_in}
use Rattle.mailbox.specs.Message.{message_of}
use Rattle.mailbox.specs.Within.{KeepsPolicies}
use Rattle.mailbox.proofs.Policies.{message_policies, reset_policies}
use Rattle.mailbox_laws.specs.Turns.{events_of, host_at_end}
use Rattle.mailbox_laws.specs.Turns.Turn.{Admits as AdmitsTurn, Answers, Dismisses as DismissesTurn, Forgets, Happens as HappensTurn}
use Rattle.hosted.specs.Hosted.{HostedState, mailbox_at}
use Rattle.hosted.specs.Turns.{reset_turns, resets, rings, takes, write_turns}
use Rattle.hosted.proofs.Stands.{prompt_changes}
use Rattle.vfio_session.specs.declared.decision.Ask.{Ask}
use Rattle.vfio_session.specs.declared.decision.Ask.TheVariants.{Read, Write, Map, Unmap, Reset, Arm, Disarm}
use Rattle.vfio_session.specs.declared.owed.Owed.{Owed}
use Rattle.vfio_session.specs.Received.{received}
use Rattle.vfio_session.specs.Sessions.{Received}
use Rattle.card.specs.Alike.{AreAlike, IsCard}
use Rattle.card.specs.Card.{CardState, end_at}
use Rattle.card.specs.Life.{Deed, Hears, Happens, Signals, Resets, Comes, Goes, Replaces, Admits, Dismisses, Notifies, Offers, IsDeed, HasLived, IsLivedAlike, after_coming, after_deed, card_after, events_heard, given, over_world, without_guest, world_of}
use Rattle.card.specs.Told.{asked, told, told_by, with_session}
use Rattle.card_laws.specs.Erased.{is_groups}

-- ---- the laws of a card, as they are called

pub record Laws : Type 0 where
  pub stands : (c : CardState) (xs : List Deed) → IsCard c → All IsDeed xs → IsCard (card_after c xs)
  pub alike : (p : ℕ) (c d : CardState) (xs ys : List Deed) → p < 64 → IsCard c → IsCard d
      → p < length c.hosted.device.world.functions → p < length d.hosted.device.world.functions
      → All IsDeed xs → All IsDeed ys → AreAlike p c d → given p c xs ≡ given p d ys → IsLivedAlike p c xs d ys
  pub world : (p : ℕ) (c : CardState) (message : List ℕ) (files : ℕ) → world_of (told c p message files).card ≡ world_after (world_of c) (events_heard c p message files)

-- and of lists of calls
abbrev pub LawOfCalls : Type 0
LawOfCalls = (p : ℕ) (a b c d : CardState) (xs ys : List Deed) → p < 64 → IsCard a → IsCard c
    → p < length a.hosted.device.world.functions → p < length c.hosted.device.world.functions
    → All IsDeed xs → All IsDeed ys → HasLived xs a b → HasLived ys c d → AreAlike p a c → given p a xs ≡ given p c ys → AreAlike p b d

-- ---- how many functions there are

as_many_after : (w : World) (es : List Event) → length (world_after w es).functions ≡ length w.functions
as_many_after w [] = refl
as_many_after w (e ∷ es) = as_many_after (step w e).world es ∙ (step_shape w e).functions

forgot_many : (c : CardState) (w : World) (q : ℕ) → length (world_of (without_guest (over_world c w) q)).functions ≡ length w.functions
forgot_many c w q = as_many_after w (events_of c.hosted.host (Forgets q ∷ []))

coming_many : (c : CardState) (q : ℕ) (memory : List ℕ) (r : Option Fault) → length (world_of (after_coming c q memory r)).functions ≡ length (world_of c).functions
coming_many c q memory None = forgot_many c (attached (world_of c) q memory) q ∙ length-set (world_of c).functions q (Open (initial_with (world_of c).profile.offloads memory))
coming_many c q memory (Some fault) = refl

going_many : (c : CardState) (q : ℕ) (b : Bool)
    → length (world_of (if b then c else without_guest (over_world c (if b then world_of c else with_function (world_of c) q (Closed 0))) q)).functions ≡ length (world_of c).functions
going_many c q true = refl
going_many c q false = forgot_many c (with_function (world_of c) q (Closed 0)) q ∙ length-set (world_of c).functions q (Closed 0)

replacing_many : (c : CardState) (q : ℕ) (memory : List ℕ) (r : Option Fault) → length (world_of (over_world c (replaced (world_of c) q memory r))).functions ≡ length (world_of c).functions
replacing_many c q memory None = length-set (world_of c).functions q (moved_to (function_of q (world_of c)) memory)
replacing_many c q memory (Some fault) = refl

pub as_many : Laws → (c : CardState) (x : Deed) → length (world_of (after_deed c x)).functions ≡ length (world_of c).functions
as_many laws c (Hears q message files) = ap (λ (w : World). length w.functions) (laws.world q c message files) ∙ as_many_after (world_of c) (events_heard c q message files)
as_many laws c (Happens e) = (step_shape (world_of c) e).functions
as_many laws c (Signals q vectors) = refl
as_many laws c (Resets q) = as_many_after (world_of c) (events_of c.hosted.host (reset_turns c.hosted q))
as_many laws c (Comes q memory) = coming_many c q memory (attach_refusal (world_of c) q (length memory))
as_many laws c (Goes q) = going_many c q (is_vacant (world_of c) q)
as_many laws c (Replaces q memory) = replacing_many c q memory (replace_refusal (world_of c) q (length memory))
as_many laws c (Admits q policy) = as_many_after (world_of c) (events_of c.hosted.host (AdmitsTurn q policy ∷ []))
as_many laws c (Dismisses q) = as_many_after (world_of c) (events_of c.hosted.host (DismissesTurn q ∷ []))
as_many laws c (Notifies q) = (prompt_changes q (world_of c) (notice_in (mailbox_at c.hosted q))).many
as_many laws c (Offers q) = refl

-- ---- policies

write_keeps : (h : HostedState) (q offset x : ℕ) → KeepsPolicies h.host (host_at_end h.host (write_turns h q offset x))
write_keeps h q offset x = go (takes h (VfWrite q offset x)) (rings offset x) (resets offset x)
  where
    m : Message
    m = message_of (box_written (mailbox_at h q) offset x).words

    go : (t r s : Bool) → KeepsPolicies h.host (host_at_end h.host (HappensTurn (VfWrite q offset x) ∷ (if t then (if r then Answers q m ∷ [] else (if s then Forgets q ∷ [] else [])) else [])))
    go true true s = message_policies h.host q m
    go true false true = reset_policies h.host q
    go true false false = λ n. refl
    go false r s = λ n. refl

reset_keeps : (h : HostedState) (q : ℕ) → KeepsPolicies h.host (host_at_end h.host (reset_turns h q))
reset_keeps h q = go (takes h (Flr q))
  where
    go : (t : Bool) → KeepsPolicies h.host (host_at_end h.host (HappensTurn (Flr q) ∷ (if t then Forgets q ∷ [] else [])))
    go true = reset_policies h.host q
    go false = λ n. refl

asked_keeps : (c : CardState) (q : ℕ) (a : Ask) (o : Owed) → KeepsPolicies c.hosted.host (asked c q a o).card.hosted.host
asked_keeps c q (Read offset) o = λ n. refl
asked_keeps c q (Write offset x) o = write_keeps c.hosted q offset x
asked_keeps c q Reset o = reset_keeps c.hosted q
asked_keeps c q (Map mapping) o = λ n. refl
asked_keeps c q (Unmap range) o = λ n. refl
asked_keeps c q (Arm vectors) o = λ n. refl
asked_keeps c q (Disarm vectors) o = λ n. refl

by_keeps : (c : CardState) (q : ℕ) (r : Received) (a : Option Ask) (o : Option Owed) → KeepsPolicies c.hosted.host (told_by c q r a o).card.hosted.host
by_keeps c q r (Some a) (Some o) = asked_keeps c q a o
by_keeps c q r (Some a) None = λ n. refl
by_keeps c q r None o = λ n. refl

told_keeps : (c : CardState) (q : ℕ) (message : List ℕ) (files : ℕ) → KeepsPolicies c.hosted.host (told c q message files).card.hosted.host
unfolding told
told_keeps c q message files =
    let r : Received = received (end_at c q).session message files in
    by_keeps (with_session c q r) q r r.asks r.owed

coming_keeps : (c : CardState) (q : ℕ) (memory : List ℕ) (r : Option Fault) → KeepsPolicies c.hosted.host (after_coming c q memory r).hosted.host
coming_keeps c q memory None = reset_policies c.hosted.host q
coming_keeps c q memory (Some fault) = λ n. refl

going_keeps : (c : CardState) (q : ℕ) (w : World) (b : Bool) → KeepsPolicies c.hosted.host (if b then c else without_guest (over_world c w) q).hosted.host
going_keeps c q w true = λ n. refl
going_keeps c q w false = reset_policies c.hosted.host q

-- a deed by which no policy comes or goes
abbrev pub IsPlain : Deed → Type 0
IsPlain (Admits q policy) = ⊥
IsPlain (Dismisses q) = ⊥
IsPlain _ = Unit {0}

pub deed_keeps : (c : CardState) (x : Deed) → IsPlain x → KeepsPolicies c.hosted.host (after_deed c x).hosted.host
deed_keeps c (Hears q message files) plain = told_keeps c q message files
deed_keeps c (Happens e) plain = λ n. refl
deed_keeps c (Signals q vectors) plain = λ n. refl
deed_keeps c (Resets q) plain = reset_keeps c.hosted q
deed_keeps c (Comes q memory) plain = coming_keeps c q memory (attach_refusal (world_of c) q (length memory))
deed_keeps c (Goes q) plain = going_keeps c q (if is_vacant (world_of c) q then world_of c else with_function (world_of c) q (Closed 0)) (is_vacant (world_of c) q)
deed_keeps c (Replaces q memory) plain = λ n. refl
deed_keeps c (Admits q policy) plain = absurd plain
deed_keeps c (Dismisses q) plain = absurd plain
deed_keeps c (Notifies q) plain = λ n. refl
deed_keeps c (Offers q) plain = λ n. refl

-- so is each of the group's
pub groups_plain : (group : ℕ → Bool) (x : Deed) → is_groups group x ≡ true → IsPlain x
groups_plain group (Hears q message files) is = tt
groups_plain group (Happens e) is = tt
groups_plain group (Signals q vectors) is = tt
groups_plain group (Resets q) is = tt
groups_plain group (Comes q memory) is = tt
groups_plain group (Goes q) is = tt
groups_plain group (Replaces q memory) is = tt
groups_plain group (Admits q policy) is = absurd (true≢false (sym is))
groups_plain group (Dismisses q) is = absurd (true≢false (sym is))
groups_plain group (Notifies q) is = tt
groups_plain group (Offers q) is = tt
