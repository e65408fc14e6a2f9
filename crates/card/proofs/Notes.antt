-- What is noted of the memories' accesses changes nothing else, so that calls one after another are one life.
use Rattle.std.proofs.Common.{◌≡◌, ℕ, Bool, true, false, List, [], ◌∷◌, ◌++◌, Option, Some, None, length, refl, sym, ap, subst, ◌∙◌}
use Rattle.std.specs.Prelude.{if◌then◌else◌}
use Rattle.live_memory.specs.Trace.{Access}
use Rattle.wire_frame.specs.declared.fault.Fault.{Fault}
use Rattle.device.specs.Events.{Event}
use Rattle.device.specs.declared.event.Event.TheVariants.{Open}
use Rattle.device.specs.Guests.{attach_refusal, detached, is_vacant}
use Rattle.vfio_session.specs.declared.decision.Ask.{Ask}
use Rattle.vfio_session.specs.declared.decision.Ask.TheVariants.{Read, Write, Map, Unmap, Reset, Arm, Disarm}
use Rattle.vfio_session.specs.declared.owed.Owed.{Owed}
use Rattle.vfio_session.specs.Received.{received}
use Rattle.vfio_session.specs.Sessions.{Received}
use Rattle.card.specs.Alike.{AreAlike}
use Rattle.card.specs.Card.{CardState, end_at}
use Rattle.card.specs.Life.{Deed, Hears, Happens, Signals, Resets, Comes, Goes, Replaces, Admits, Dismisses, Notifies, Offers, HasLived, after_coming, after_deed, card_after, over_world, with_notes, without_guest, world_of}
use Rattle.card.specs.Told.{asked, told, told_by, with_session}
use Rattle.card.proofs.Services.{life_append}

asked_noted : (c : CardState) (n : List (List Access)) (p : ℕ) (a : Ask) (o : Owed) → (asked (with_notes c n) p a o).card ≡ with_notes (asked c p a o).card n
asked_noted c n p (Read offset) o = refl
asked_noted c n p (Write offset x) o = refl
asked_noted c n p Reset o = refl
asked_noted c n p (Map mapping) o = refl
asked_noted c n p (Unmap range) o = refl
asked_noted c n p (Arm vectors) o = refl
asked_noted c n p (Disarm vectors) o = refl

by_noted : (c : CardState) (n : List (List Access)) (p : ℕ) (r : Received) (a : Option Ask) (o : Option Owed) → (told_by (with_notes c n) p r a o).card ≡ with_notes (told_by c p r a o).card n
by_noted c n p r (Some a) (Some o) = asked_noted c n p a o
by_noted c n p r (Some a) None = refl
by_noted c n p r None o = refl

told_noted : (c : CardState) (n : List (List Access)) (p : ℕ) (message : List ℕ) (files : ℕ) → (told (with_notes c n) p message files).card ≡ with_notes (told c p message files).card n
unfolding told
told_noted c n p message files =
    let r : Received = received (end_at c p).session message files in
    by_noted (with_session c p r) n p r r.asks r.owed

event_noted : (c : CardState) (n : List (List Access)) (e : Event) → after_deed (with_notes c n) (Happens e) ≡ with_notes (after_deed c (Happens e)) n
event_noted c n (Open p) = refl
event_noted c n e = refl

coming_noted : (c : CardState) (n : List (List Access)) (p : ℕ) (memory : List ℕ) (r : Option Fault) → after_coming (with_notes c n) p memory r ≡ with_notes (after_coming c p memory r) n
coming_noted c n p memory None = refl
coming_noted c n p memory (Some fault) = refl

going_noted : (c : CardState) (n : List (List Access)) (p : ℕ) (b : Bool)
    → (if b then with_notes c n else without_guest (over_world (with_notes c n) (detached (world_of c) p)) p) ≡ with_notes (if b then c else without_guest (over_world c (detached (world_of c) p)) p) n
going_noted c n p true = refl
going_noted c n p false = refl

deed_noted : (c : CardState) (n : List (List Access)) (x : Deed) → after_deed (with_notes c n) x ≡ with_notes (after_deed c x) n
deed_noted c n (Hears p message files) = told_noted c n p message files
deed_noted c n (Happens e) = event_noted c n e
deed_noted c n (Signals p vectors) = refl
deed_noted c n (Resets p) = refl
deed_noted c n (Comes p memory) = coming_noted c n p memory (attach_refusal (world_of c) p (length memory))
deed_noted c n (Goes p) = going_noted c n p (is_vacant (world_of c) p)
deed_noted c n (Replaces p memory) = refl
deed_noted c n (Admits p policy) = refl
deed_noted c n (Dismisses p) = refl
deed_noted c n (Notifies p) = refl
deed_noted c n (Offers p) = refl

life_noted : (c : CardState) (n : List (List Access)) (xs : List Deed) → card_after (with_notes c n) xs ≡ with_notes (card_after c xs) n
life_noted c n [] = refl
life_noted c n (x ∷ xs) = ap (λ (d : CardState). card_after d xs) (deed_noted c n x) ∙ life_noted (after_deed c x) n xs

pub lived_on : (a b c : CardState) (xs ys : List Deed) → HasLived xs a b → HasLived ys b c → HasLived (xs ++ ys) a c
lived_on a b c xs ys first second =
    ap (λ (d : CardState). with_notes d a.hosted.device.accesses) second
    ∙ sym (life_noted b a.hosted.device.accesses ys)
    ∙ ap (λ (d : CardState). card_after d ys) first
    ∙ sym (life_append a xs ys)

-- so where two lives end alike, so do the calls
pub calls_alike : (p : ℕ) (a b c d : CardState) (xs ys : List Deed) → HasLived xs a b → HasLived ys c d → AreAlike p (card_after a xs) (card_after c ys) → AreAlike p b d
calls_alike p a b c d xs ys one two is = record {
  part = part.part;
  ids = part.ids;
  default_pool = part.default_pool;
  limit = part.limit;
}
  where
    part : AreAlike p (with_notes b a.hosted.device.accesses) (with_notes d c.hosted.device.accesses)
    part = subst (AreAlike p (with_notes b a.hosted.device.accesses)) (sym two) (subst (λ (k : CardState). AreAlike p k (card_after c ys)) (sym one) is)
