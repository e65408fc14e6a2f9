-- Two deeds that give function p the same, and one that gives it nothing.
use Rattle.std.proofs.Common.{[], ◌≡◌, ◌≢◌, ℕ, ◌<◌, Bool, true, false, Option, Some, None, length, refl, sym, ap, ◌∙◌, subst}
use Rattle.std.specs.Prelude.{◌==◌, bit_and, slice_index, if◌then◌else◌}
use Rattle.std.specs.Option.{option_map}
use Rattle.std.proofs.lemmas.Bool.{eq-eqb, eqb-true, false≢true}
use Rattle.irq_causes.specs.Messages.{both}
use Rattle.pool_filter.specs.Own.{own}
use Rattle.local_switch.specs.Switch.{is_pool}
use Rattle.device.specs.Across.{Came, Got, Sight, Went}
use Rattle.device.specs.Events.{Event}
use Rattle.device.specs.Guests.{attach_refusal, replace_refusal}
use Rattle.device.specs.Lone.{Item, kept, kept_of}
use Rattle.device.specs.World.{function_of}
use Rattle.mailbox.specs.declared.policy.Policy.{Policy}
use Rattle.mailbox.specs.Address.{number_of}
use Rattle.mailbox.specs.Mailbox.{notice_in}
use Rattle.mailbox.proofs.Turns.{none_is, some_is}
use Rattle.hosted.specs.Hosted.{mailbox_at}
use Rattle.vfio_session.specs.Sessions.{offering}
use Rattle.card.specs.Alike.{AreAlike, IsCard}
use Rattle.card.specs.Card.{CardState, EndState, end_at}
use Rattle.card.specs.Life.{Deed, Hears, Happens, Signals, Resets, Comes, Goes, Replaces, Admits, Dismisses, Notifies, Offers, IsDeed, Given, Own, Kept, Loses, Seen, Signalled, Noticed, accesses_in, sent_in, after_deed, given_by_others, given_in, heard_in, is_told_of_others, loses_to, shown_in, whose, world_of}
use Rattle.card.specs.Served.{signalled}
use Rattle.card.specs.Told.{told}
use Rattle.card.proofs.Parts.{Pair, ends, mine, session_pair}
use Rattle.card.proofs.Standing.{Does, IsAlone, alone_does}
use Rattle.card.proofs.Deeds.{Passes, Meets, apart, event_passes, events_meet, event_own, coming_meets, going_meets, replacing_meets, unseen, hearing_meets, signalling_meets, resetting_meets, notifying_meets, dismissing_meets, admitting_meets, losing_meets, admitting_passes}

-- ---- a deed that gives p nothing

pair_alone : (p : ℕ) (c : CardState) → p < 64 → IsCard c → p < length (world_of c).functions → Pair p c c
pair_alone p c below is there = record {
  below = below;
  one = is;
  two = is;
  there = there;
  also_there = there;
  alike = record { part = refl; ids = refl; default_pool = refl; limit = refl };
}

-- a deed of q's that leaves all others as they are
does_pass : (p q : ℕ) (c d : CardState) → Does q c d → p ≢ q → p < length (world_of c).functions → AreAlike p d c
does_pass p q c d does other there = record {
  part = λ i. record {
    lone = does.alone.hosted.functions p there other i;
    slot = does.alone.hosted.slots p other i;
    mailbox = does.alone.hosted.mailboxes p other i;
    end = does.alone.ends p other i;
    raised = does.alone.raised p other i;
  };
  ids = does.stands.same.ids;
  default_pool = does.stands.same.pool;
  limit = does.stands.same.limit;
}

none_kept : (k : Option Item) → option_map Kept k ≡ None → k ≡ None
none_kept None none = refl
none_kept (Some k) none = cc

none_lost : (b : Bool) (a : ℕ) → (if b then Some (Loses a) else None) ≡ None → b ≡ false
none_lost true a none = cc
none_lost false a none = refl

-- the deed is of a function other than p
others_pass : (p q : ℕ) (c : CardState) (x : Deed) → IsAlone x → whose x ≡ Some q → q < 64 → p ≢ q → IsCard c → p < length (world_of c).functions → shown_in p c x ≡ None → accesses_in p c x ≡ [] → sent_in p c x ≡ None → Passes p c x
others_pass p q c x alone at q_below other is there shown made sent = record { cards = does_pass p q c (after_deed c x) (alone_does q c x alone at q_below is) other there; shown = shown; accesses = made; sent = sent }

-- what the device shows of another's guest
unseen_sight : (p q : ℕ) → p ≢ q → (s : Sight) → option_map Seen (if q == p then Some s else None) ≡ None
unseen_sight p q other s = ap (λ (m : Bool). option_map Seen (if m then Some s else None)) (apart q p other)

not_own : (p q : ℕ) → (q == p) ≡ false → p ≢ q
not_own p q differ same = false≢true (sym differ ∙ eq-eqb q p (sym same))

passes : (p : ℕ) (c : CardState) (x : Deed) → p < 64 → IsCard c → p < length (world_of c).functions → IsDeed x → is_pool (whose x) p ≡ false → given_by_others p c x ≡ None → Passes p c x
passes p c (Hears q message files) below is there deed apart none = others_pass p q c (Hears q message files) tt refl deed (not_own p q apart) is there (unseen p q (not_own p q apart) (heard_in (told c q message files))) refl refl
passes p c (Happens e) below is there deed apart none = event_passes p c e (pair_alone p c below is there) apart (none_kept (kept_of p (world_of c) e) none)
passes p c (Signals q vectors) below is there deed apart none =
    others_pass p q c (Signals q vectors) tt refl deed (not_own p q apart) is there (unseen p q (not_own p q apart) (Signalled (signalled (bit_and (slice_index c.raised q) vectors) (end_at c q).session.armed))) refl refl
passes p c (Resets q) below is there deed apart none = others_pass p q c (Resets q) tt refl deed (not_own p q apart) is there refl refl refl
passes p c (Comes q memory) below is there deed apart none = others_pass p q c (Comes q memory) tt refl deed (not_own p q apart) is there (unseen_sight p q (not_own p q apart) (Came (attach_refusal (world_of c) q (length memory)))) refl refl
passes p c (Goes q) below is there deed apart none = others_pass p q c (Goes q) tt refl deed (not_own p q apart) is there (unseen_sight p q (not_own p q apart) (Went (function_of q (world_of c)))) refl refl
passes p c (Replaces q memory) below is there deed apart none =
    others_pass p q c (Replaces q memory) tt refl deed (not_own p q apart) is there (unseen_sight p q (not_own p q apart) (Got (replace_refusal (world_of c) q (length memory)) (function_of q (world_of c)))) refl refl
passes p c (Admits q policy) below is there deed apart none =
    admitting_passes p c q policy (pair_alone p c below is there) deed (not_own p q apart) (none_lost (loses_to c.hosted.host q policy p) (number_of policy.address) none)
passes p c (Dismisses q) below is there deed apart none = others_pass p q c (Dismisses q) tt refl deed (not_own p q apart) is there refl refl refl
passes p c (Notifies q) below is there deed apart none = others_pass p q c (Notifies q) tt refl deed (not_own p q apart) is there (unseen p q (not_own p q apart) (Noticed (notice_in (mailbox_at c.hosted q)))) refl refl
passes p c (Offers q) below is there deed apart none = others_pass p q c (Offers q) tt refl deed (not_own p q apart) is there refl refl refl

pub deed_passes : (p : ℕ) (c : CardState) (x : Deed) → p < 64 → IsCard c → p < length (world_of c).functions → IsDeed x → given_in p c x ≡ None → Passes p c x
deed_passes p c x below is there deed none = go (is_pool (whose x) p) refl none
  where
    go : (b : Bool) → is_pool (whose x) p ≡ b → (if b then Some (Own x (is_told_of_others p c x)) else given_by_others p c x) ≡ None → Passes p c x
    go true mine given = cc
    go false apart given = passes p c x below is there deed apart given

-- ---- two deeds that give p the same

-- an offer to p's client
abbrev offered : EndState → EndState
offered e = record e { session = offering e.session }

offering_meets : (p : ℕ) (c d : CardState) → Pair p c d → Meets p c (Offers p) d (Offers p)
offering_meets p c d b =
    let after : Pair p (after_deed c (Offers p)) (after_deed d (Offers p)) = session_pair p c d (offered (end_at c p)) (offered (end_at d p)) b (ap offered (ends p c d b)) in
    record { cards = after.alike; shown = refl; accesses = refl; sent = refl }

-- a deed of p's own
own_meets : (p : ℕ) (c d : CardState) (x : Deed) → Pair p c d → is_pool (whose x) p ≡ true → is_told_of_others p c x ≡ is_told_of_others p d x → Meets p c x d x
own_meets p c d (Hears q message files) b own told_same =
    subst (λ (k : ℕ). Meets p c (Hears k message files) d (Hears k message files)) (sym (eqb-true q p own)) (hearing_meets p c d message files b told_same)
own_meets p c d (Happens e) b own told_same = event_own p c d e b own
own_meets p c d (Signals q vectors) b own told_same = subst (λ (k : ℕ). Meets p c (Signals k vectors) d (Signals k vectors)) (sym (eqb-true q p own)) (signalling_meets p c d vectors b)
own_meets p c d (Resets q) b own told_same = subst (λ (k : ℕ). Meets p c (Resets k) d (Resets k)) (sym (eqb-true q p own)) (resetting_meets p c d b)
own_meets p c d (Comes q memory) b own told_same = subst (λ (k : ℕ). Meets p c (Comes k memory) d (Comes k memory)) (sym (eqb-true q p own)) (coming_meets p c d memory b)
own_meets p c d (Goes q) b own told_same = subst (λ (k : ℕ). Meets p c (Goes k) d (Goes k)) (sym (eqb-true q p own)) (going_meets p c d b)
own_meets p c d (Replaces q memory) b own told_same = subst (λ (k : ℕ). Meets p c (Replaces k memory) d (Replaces k memory)) (sym (eqb-true q p own)) (replacing_meets p c d memory b)
own_meets p c d (Admits q policy) b own told_same = subst (λ (k : ℕ). Meets p c (Admits k policy) d (Admits k policy)) (sym (eqb-true q p own)) (admitting_meets p c d policy b told_same)
own_meets p c d (Dismisses q) b own told_same = subst (λ (k : ℕ). Meets p c (Dismisses k) d (Dismisses k)) (sym (eqb-true q p own)) (dismissing_meets p c d b)
own_meets p c d (Notifies q) b own told_same = subst (λ (k : ℕ). Meets p c (Notifies k) d (Notifies k)) (sym (eqb-true q p own)) (notifying_meets p c d b)
own_meets p c d (Offers q) b own told_same = subst (λ (k : ℕ). Meets p c (Offers k) d (Offers k)) (sym (eqb-true q p own)) (offering_meets p c d b)

-- what others give, by what it is: a frame, or an address that is lost
abbrev IsFrom : ℕ → CardState → Deed → Given → Type 0
IsFrom p c x (Own y is_told) = ⊥
IsFrom p c x (Kept k) = (e : Event) × ((x ≡ Happens e) × (kept_of p (world_of c) e ≡ Some k))
IsFrom p c x (Loses a) = (q : ℕ) × ((policy : Policy) × ((x ≡ Admits q policy) × ((loses_to c.hosted.host q policy p ≡ true) × (number_of policy.address ≡ a))))

kept_from : (p : ℕ) (c : CardState) (e : Event) (k : Option Item) (g : Given) → kept_of p (world_of c) e ≡ k → option_map Kept k ≡ Some g → IsFrom p c (Happens e) g
kept_from p c e None g is given = cc
kept_from p c e (Some k) g is given = subst (IsFrom p c (Happens e)) (some_is given) (e, (refl, is))

lost_from : (p : ℕ) (c : CardState) (q : ℕ) (policy : Policy) (b : Bool) (g : Given) → loses_to c.hosted.host q policy p ≡ b → (if b then Some (Loses (number_of policy.address)) else None) ≡ Some g → IsFrom p c (Admits q policy) g
lost_from p c q policy false g is given = cc
lost_from p c q policy true g is given = subst (IsFrom p c (Admits q policy)) (some_is given) (q, (policy, (refl, (is, refl))))

from_others : (p : ℕ) (c : CardState) (x : Deed) (g : Given) → given_by_others p c x ≡ Some g → IsFrom p c x g
from_others p c (Hears q message files) g given = absurd (none_is given)
from_others p c (Happens e) g given = kept_from p c e (kept_of p (world_of c) e) g refl given
from_others p c (Signals q vectors) g given = absurd (none_is given)
from_others p c (Resets q) g given = absurd (none_is given)
from_others p c (Comes q memory) g given = absurd (none_is given)
from_others p c (Goes q) g given = absurd (none_is given)
from_others p c (Replaces q memory) g given = absurd (none_is given)
from_others p c (Admits q policy) g given = lost_from p c q policy (loses_to c.hosted.host q policy p) g refl given
from_others p c (Dismisses q) g given = absurd (none_is given)
from_others p c (Notifies q) g given = absurd (none_is given)
from_others p c (Offers q) g given = absurd (none_is given)

others_meet : (p : ℕ) (c d : CardState) (x y : Deed) (g : Given) → Pair p c d → IsDeed x → IsDeed y → is_pool (whose x) p ≡ false → is_pool (whose y) p ≡ false → IsFrom p c x g → IsFrom p d y g → Meets p c x d y
others_meet p c d x y (Own z is_told) b deed also_deed apart also_apart one two = absurd one
others_meet p c d x y (Kept k) b deed also_deed apart also_apart (e, (is, kept)) (f, (also, also_kept)) =
    subst (λ (v : Deed). Meets p c v d y) (sym is) (subst (λ (v : Deed). Meets p c (Happens e) d v) (sym also)
    (events_meet p c d e f k b (ap (λ (v : Deed). is_pool (whose v) p) (sym is) ∙ apart) (ap (λ (v : Deed). is_pool (whose v) p) (sym also) ∙ also_apart) kept also_kept))
others_meet p c d x y (Loses a) b deed also_deed apart also_apart (q, (policy, (is, (lost, at)))) (r, (other, (also, (also_lost, also_at)))) =
    subst (λ (v : Deed). Meets p c v d y) (sym is) (subst (λ (v : Deed). Meets p c (Admits q policy) d v) (sym also)
    (losing_meets p c d q r policy other b (subst IsDeed is deed) (subst IsDeed also also_deed)
    (not_own p q (ap (λ (v : Deed). is_pool (whose v) p) (sym is) ∙ apart)) (not_own p r (ap (λ (v : Deed). is_pool (whose v) p) (sym also) ∙ also_apart))
    lost also_lost (at ∙ sym also_at)))

-- one of them is p's own, and so is the other
abbrev is_of_own : Option Given → Bool
is_of_own (Some (Own x is_told)) = true
is_of_own _ = false

abbrev deed_in : Deed → Option Given → Deed
deed_in x (Some (Own y is_told)) = y
deed_in x _ = x

abbrev told_in : Option Given → Bool
told_in (Some (Own y is_told)) = is_told
told_in _ = false

not_of_own : (p : ℕ) (c : CardState) (x : Deed) → is_of_own (given_by_others p c x) ≡ false
not_of_own p c x = go (given_by_others p c x) refl
  where
    go : (o : Option Given) → given_by_others p c x ≡ o → is_of_own o ≡ false
    go None is = refl
    go (Some (Own y is_told)) is = absurd (from_others p c x (Own y is_told) is)
    go (Some (Kept k)) is = refl
    go (Some (Loses a)) is = refl

pub deeds_meet : (p : ℕ) (c d : CardState) (x y : Deed) (g : Given) → Pair p c d → IsDeed x → IsDeed y → given_in p c x ≡ Some g → given_in p d y ≡ Some g → Meets p c x d y
deeds_meet p c d x y g b deed also_deed is also = go (is_pool (whose x) p) (is_pool (whose y) p) refl refl is also
  where
    go : (m n : Bool) → is_pool (whose x) p ≡ m → is_pool (whose y) p ≡ n
        → (if m then Some (Own x (is_told_of_others p c x)) else given_by_others p c x) ≡ Some g → (if n then Some (Own y (is_told_of_others p d y)) else given_by_others p d y) ≡ Some g → Meets p c x d y
    go true true own also_own one two =
        let both : Some (Own x (is_told_of_others p c x)) ≡ Some (Own y (is_told_of_others p d y)) = one ∙ sym two in
        let same : x ≡ y = ap (deed_in x) both in
        subst (Meets p c x d) same (own_meets p c d x b own (ap told_in both ∙ ap (is_told_of_others p d) (sym same)))
    go true false own also_apart one two = absurd (false≢true (sym (not_of_own p d y) ∙ ap is_of_own (two ∙ sym one)))
    go false true apart also_own one two = absurd (false≢true (sym (not_of_own p c x) ∙ ap is_of_own (one ∙ sym two)))
    go false false apart also_apart one two = others_meet p c d x y g b deed also_deed apart also_apart (from_others p c x g one) (from_others p d y g two)
