-- What a deed gives a function outside a group: nothing, where it is the group's and the settings keep the group apart; else the same in two cards
-- that differ in the group alone.
use Rattle.std.proofs.Common.{◌≡◌, ℕ, ◌<◌, ◌≤◌, Bool, true, false, not, ◌&&◌, ◌||◌, List, [], ◌∷◌, Option, Some, None, length, refl, sym, ap, ◌∙◌, subst, arith, eqb, eqb-true, ltb, ltb-true, true≢false}
use Rattle.std.specs.Prelude.{is_none, if◌then◌else◌}
use Rattle.std.specs.List.{All, cons_option}
use Rattle.std.specs.Option.{option_map}
use Rattle.std.proofs.lemmas.Bool.{eq-eqb}
use Rattle.std.proofs.lemmas.List.Elements.{All-cons, All-nil}
use Rattle.pool_filter.specs.Settings.{Settings}
use Rattle.pool_filter.specs.Accepts.{accepts, default_pool}
use Rattle.local_switch.specs.Switch.{is_accepted, is_pool, takes_from_pool, takes_from_wire}
use Rattle.device.specs.Events.{Event}
use Rattle.device.specs.declared.event.Event.TheVariants.{Serve, PfRead, PfWrite, PfReset, Wire}
use Rattle.device.specs.Erased.{IsApart, is_member}
use Rattle.device.specs.Lone.{Offer, OwnEvent, is_own, kept_of, kept_sent, pool_of}
use Rattle.device.specs.World.{World, sent_by, service}
use Rattle.device.proofs.Confinement.{confined}
use Rattle.vf_unit.specs.declared.registers.Queue.{Queue}
use Rattle.mailbox.specs.declared.policy.Policy.{Policy}
use Rattle.mailbox.specs.Address.{number_of}
use Rattle.mailbox.specs.Isolation.{IsSameForAll}
use Rattle.mailbox.specs.Words.{settings_of}
use Rattle.mailbox.proofs.Turns.{some_is}
use Rattle.mailbox_laws.specs.Turns.{sets_registers}
use Rattle.card.specs.Alike.{AreAlike, IsCard, Part, is_address_held}
use Rattle.card.specs.Card.{CardState}
use Rattle.card.specs.Life.{Deed, Hears, Happens, Signals, Resets, Comes, Goes, Replaces, Admits, Dismisses, Notifies, Offers, IsDeed, IsLivedAlike, Given, Own, Kept, Loses, given_by_others, given_in, is_told_of_others, loses_to, sent_in, whose, world_of}
use Rattle.card_laws.specs.Erased.{AreAlikeOutside, falls_outside, input_in, is_groups, is_outside, is_service}
use Rattle.card_laws.proofs.Addresses.{holder_alike, owned_alike, refusal_alike}
use Rattle.card_laws.proofs.Steady.{Laws}
use Rattle.card_laws.proofs.Frames.{same_for, same_for_all}

-- two cards that differ in the group alone, and a function outside
pub record Pair (group : ℕ → Bool) (p : ℕ) (c d : CardState) : Type 0 where
  pub one : IsCard c
  pub two : IsCard d
  pub alike : AreAlikeOutside group c d
  pub there : p < length (world_of c).functions
  pub outside : group p ≡ false

pub below : (group : ℕ → Bool) (p : ℕ) (c d : CardState) → Pair group p c d → p < 64
below group p c d b = omega (arith, b.there, b.one.hosted.functions)

pub alike_here : (group : ℕ → Bool) (p : ℕ) (c d : CardState) → Pair group p c d → AreAlike p c d
alike_here group p c d b = b.alike.functions p b.there b.outside

-- ---- its own deed, and another's

pub own_given : (p : ℕ) (c : CardState) (x : Deed) → is_pool (whose x) p ≡ true → given_in p c x ≡ Some (Own x (is_told_of_others p c x))
own_given p c x is = ap (λ (b : Bool). if b then Some (Own x (is_told_of_others p c x)) else given_by_others p c x) is

others_given : (p : ℕ) (c : CardState) (x : Deed) → is_pool (whose x) p ≡ false → given_in p c x ≡ given_by_others p c x
others_given p c x is = ap (λ (b : Bool). if b then Some (Own x (is_told_of_others p c x)) else given_by_others p c x) is

-- who is of the group is none outside
differs : (group : ℕ → Bool) (p : ℕ) (o : Option ℕ) → is_member group o ≡ true → group p ≡ false → is_pool o p ≡ false
differs group p None is outside = absurd (true≢false (sym is))
differs group p (Some q) is outside = go (eqb q p) refl
  where
    go : (b : Bool) → eqb q p ≡ b → eqb q p ≡ false
    go true same = absurd (true≢false (sym is ∙ ap group (eqb-true q p same) ∙ outside))
    go false other = other

-- ---- the group's deeds

-- a service, where the group is apart
service_none : (group : ℕ → Bool) (p q : ℕ) (k : Queue) (w : World) → length w.functions ≤ 64 → p < 64 → group q ≡ true → group p ≡ false → IsApart group w.settings → kept_of p w (Serve q k) ≡ None
service_none group p q k w few small is outside apart =
    sym (ap (λ (b : Bool). if b then Some (OwnEvent (Serve q k)) else kept_of p w (Serve q k)) (differs group p (Some q) is outside))
    ∙ (confined group w (Serve q k ∷ []) few ((λ mine. apart), tt)).0 is p small outside

event_none : (group : ℕ → Bool) (p : ℕ) (w : World) (e : Event) → length w.functions ≤ 64 → p < 64 → is_member group (pool_of e) ≡ true → group p ≡ false
    → ((is_groups group (Happens e) && is_service (Happens e)) ≡ true → IsApart group w.settings) → kept_of p w e ≡ None
event_none group p w (Serve q k) few small is outside apart = service_none group p q k w few small is outside (apart (ap (λ (b : Bool). b && true) is))
event_none group p w (PfRead offset) few small is outside apart = absurd (true≢false (sym is))
event_none group p w (PfWrite offset x) few small is outside apart = absurd (true≢false (sym is))
event_none group p w PfReset few small is outside apart = absurd (true≢false (sym is))
event_none group p w (Wire frame) few small is outside apart = absurd (true≢false (sym is))
event_none group p w e few small is outside apart = refl

pub groups_none : (group : ℕ → Bool) (p : ℕ) (c : CardState) (x : Deed) → IsCard c → p < 64 → group p ≡ false → is_groups group x ≡ true
    → ((is_groups group x && is_service x) ≡ true → IsApart group (world_of c).settings) → given_in p c x ≡ None
groups_none group p c (Hears q message files) card small outside is apart = others_given p c (Hears q message files) (differs group p (Some q) is outside)
groups_none group p c (Happens e) card small outside is apart =
    others_given p c (Happens e) (differs group p (pool_of e) is outside)
    ∙ ap (option_map Kept) (event_none group p (world_of c) e card.hosted.functions small is outside apart)
groups_none group p c (Signals q vectors) card small outside is apart = others_given p c (Signals q vectors) (differs group p (Some q) is outside)
groups_none group p c (Resets q) card small outside is apart = others_given p c (Resets q) (differs group p (Some q) is outside)
groups_none group p c (Comes q memory) card small outside is apart = others_given p c (Comes q memory) (differs group p (Some q) is outside)
groups_none group p c (Goes q) card small outside is apart = others_given p c (Goes q) (differs group p (Some q) is outside)
groups_none group p c (Replaces q memory) card small outside is apart = others_given p c (Replaces q memory) (differs group p (Some q) is outside)
groups_none group p c (Admits q policy) card small outside is apart = absurd (true≢false (sym is))
groups_none group p c (Dismisses q) card small outside is apart = absurd (true≢false (sym is))
groups_none group p c (Notifies q) card small outside is apart = others_given p c (Notifies q) (differs group p (Some q) is outside)
groups_none group p c (Offers q) card small outside is apart = others_given p c (Offers q) (differs group p (Some q) is outside)

-- ---- frames, in both cards

accepts_same : (group : ℕ → Bool) (p : ℕ) (c d : CardState) (frame : List ℕ) → Pair group p c d → accepts (world_of c).settings p frame ≡ accepts (world_of d).settings p frame
accepts_same group p c d frame b =
    let here : AreAlike p c d = alike_here group p c d b in
    ap (λ (s : Settings). accepts s p frame) b.one.hosted.settings
    ∙ (same_for c.hosted.host d.hosted.host p (below group p c d b) (ap (λ (r : Part). r.slot) here.part) here.ids here.default_pool).accepts frame
    ∙ sym (ap (λ (s : Settings). accepts s p frame) b.two.hosted.settings)

-- loopback, and the default pool
all_same : (group : ℕ → Bool) (p : ℕ) (c d : CardState) → Pair group p c d → IsSameForAll (world_of c).settings (world_of d).settings
all_same group p c d b =
    let here : AreAlike p c d = alike_here group p c d b in
    subst (λ (s : Settings). IsSameForAll s (world_of d).settings) (sym b.one.hosted.settings)
    (subst (IsSameForAll (settings_of c.hosted.host)) (sym b.two.hosted.settings)
    (same_for_all c.hosted.host d.hosted.host p (below group p c d b) (ap (λ (r : Part). r.slot) here.part) here.ids here.default_pool))

pub default_same : (group : ℕ → Bool) (p : ℕ) (c d : CardState) → Pair group p c d → default_pool (world_of c).settings ≡ default_pool (world_of d).settings
default_same group p c d b = (all_same group p c d b).default_pool

pool_same : (group : ℕ → Bool) (p q : ℕ) (c d : CardState) (frame : List ℕ) → Pair group p c d → takes_from_pool (world_of c).settings q frame p ≡ takes_from_pool (world_of d).settings q frame p
unfolding takes_from_pool
pool_same group p q c d frame b = λ i. (all_same group p c d b).loopback i && (accepts_same group p c d frame b i && not (eqb q p))

sent_same : (group : ℕ → Bool) (p q : ℕ) (c d : CardState) (o : Option (List ℕ)) → Pair group p c d → kept_sent (world_of c) q p o ≡ kept_sent (world_of d) q p o
sent_same group p q c d None b = refl
sent_same group p q c d (Some frame) b = ap (λ (t : Bool). if t then Some (Offer frame true) else None) (pool_same group p q c d frame b)

-- what falls to a default pool outside is the same, where that stays as input
falls_same : (group : ℕ → Bool) (p : ℕ) (o : Option ℕ) (a e : Bool) → group p ≡ false → (is_outside group o && not a) ≡ (is_outside group o && not e) → (not a && is_pool o p) ≡ (not e && is_pool o p)
falls_same group p None a e outside same = none a ∙ sym (none e)
  where
    none : (b : Bool) → (not b && false) ≡ false
    none true = refl
    none false = refl
falls_same group p (Some q) a e outside same = go (eqb q p) refl
  where
    none : (b : Bool) → (not b && false) ≡ false
    none true = refl
    none false = refl

    go : (t : Bool) → eqb q p ≡ t → (not a && eqb q p) ≡ (not e && eqb q p)
    go true is =
        let free : group q ≡ false = ap group (eqb-true q p is) ∙ outside in
        let both : not a ≡ not e = sym (λ i. not (free i) && not a) ∙ same ∙ (λ i. not (free i) && not e) in
        ap (λ (b : Bool). b && eqb q p) both
    go false is = ap (λ (b : Bool). not a && b) is ∙ none a ∙ sym (ap (λ (b : Bool). not e && b) is ∙ none e)

wire_same : (group : ℕ → Bool) (p : ℕ) (c d : CardState) (frame : List ℕ) → Pair group p c d → falls_outside group (world_of c).settings frame ≡ falls_outside group (world_of d).settings frame
    → takes_from_wire (world_of c).settings frame p ≡ takes_from_wire (world_of d).settings frame p
unfolding takes_from_wire
wire_same group p c d frame b same =
    let a : Bool = is_accepted (world_of c).settings frame in
    let e : Bool = is_accepted (world_of d).settings frame in
    let o : Option ℕ = default_pool (world_of c).settings in
    let at : o ≡ default_pool (world_of d).settings = default_same group p c d b in
    let falls : (is_outside group o && not a) ≡ (is_outside group o && not e) = same ∙ ap (λ (n : Option ℕ). is_outside group n && not e) (sym at) in
    (λ i. accepts_same group p c d frame b i || falls_same group p o a e b.outside falls i)
    ∙ ap (λ (n : Option ℕ). accepts (world_of d).settings p frame || (not e && is_pool n p)) at

-- ---- services, in both cards

one_shown : {X : Type 0} (a b : Option X) → cons_option a [] ≡ cons_option b [] → a ≡ b
one_shown None None same = refl
one_shown None (Some y) same = cc
one_shown (Some x) None same = cc
one_shown (Some x) (Some y) same = cc

-- a life of one event of q's own
pub lives_event : Laws → (group : ℕ → Bool) (q : ℕ) (c d : CardState) (e : Event) → Pair group q c d → is_own q e ≡ true → sets_registers e ≡ false → IsLivedAlike q c (Happens e ∷ []) d (Happens e ∷ [])
lives_event laws group q c d e b own none =
    let all : All IsDeed (Happens e ∷ []) = All-cons IsDeed (Happens e) [] none (All-nil IsDeed) in
    laws.alike q c d (Happens e ∷ []) (Happens e ∷ []) (below group q c d b) b.one b.two b.there (subst (λ (n : ℕ). q < n) b.alike.count b.there) all all (alike_here group q c d b)
    (ap (λ (o : Option Given). cons_option o []) (own_given q c (Happens e) own ∙ sym (own_given q d (Happens e) own)))

-- so it sends the same frame
service_same : Laws → (group : ℕ → Bool) (q : ℕ) (k : Queue) (c d : CardState) → Pair group q c d → sent_by (world_of c) (Serve q k) ≡ sent_by (world_of d) (Serve q k)
service_same laws group q k c d b =
    let mine : eqb q q ≡ true = eq-eqb q q refl in
    let lived : IsLivedAlike q c (Happens (Serve q k) ∷ []) d (Happens (Serve q k) ∷ []) = lives_event laws group q c d (Serve q k) b mine refl in
    sym (ap (λ (m : Bool). if m then sent_by (world_of c) (Serve q k) else None) mine)
    ∙ one_shown (sent_in q c (Happens (Serve q k))) (sent_in q d (Happens (Serve q k))) lived.sends
    ∙ ap (λ (m : Bool). if m then sent_by (world_of d) (Serve q k) else None) mine

serve_same : Laws → (group : ℕ → Bool) (p q : ℕ) (k : Queue) (c d : CardState) → Pair group p c d → group q ≡ false → kept_of p (world_of c) (Serve q k) ≡ kept_of p (world_of d) (Serve q k)
serve_same laws group p q k c d b free = go (ltb q (length (world_of c).functions)) refl
  where
    go : (t : Bool) → ltb q (length (world_of c).functions) ≡ t → kept_sent (world_of c) q p (sent_by (world_of c) (Serve q k)) ≡ kept_sent (world_of d) q p (sent_by (world_of d) (Serve q k))
    go true is =
        ap (kept_sent (world_of c) q p) (service_same laws group q k c d (record { one = b.one; two = b.two; alike = b.alike; there = ltb-true q (length (world_of c).functions) is; outside = free }))
        ∙ sent_same group p q c d (sent_by (world_of d) (Serve q k)) b
    go false is =
        ap (λ (m : Bool). kept_sent (world_of c) q p (if m then (service (world_of c) q k).sent else None)) is
        ∙ sym (ap (λ (m : Bool). kept_sent (world_of d) q p (if m then (service (world_of d) q k).sent else None)) (sym (ap (ltb q) b.alike.count) ∙ is))

-- ---- any other deed, in both cards

kept_same : Laws → (group : ℕ → Bool) (p : ℕ) (c d : CardState) (e : Event) → Pair group p c d → is_member group (pool_of e) ≡ false → sets_registers e ≡ false
    → input_in group c (Happens e) ≡ input_in group d (Happens e) → kept_of p (world_of c) e ≡ kept_of p (world_of d) e
kept_same laws group p c d (Serve q k) b free none same = serve_same laws group p q k c d b free
kept_same laws group p c d (PfWrite offset x) b free none same = absurd (true≢false none)
kept_same laws group p c d PfReset b free none same = absurd (true≢false none)
kept_same laws group p c d (Wire frame) b free none same =
    let limit : (world_of c).profile.limit ≡ (world_of d).profile.limit = ap (λ (r : Part). r.lone.profile.limit) (alike_here group p c d b).part in
    (λ i. if ltb (limit i) (length frame) then None else (if wire_same group p c d frame b (some_is same) i then Some (Offer frame false) else None))
kept_same laws group p c d e b free none same = refl

loses_same : (group : ℕ → Bool) (p q : ℕ) (policy : Policy) (c d : CardState) → Pair group p c d → loses_to c.hosted.host q policy p ≡ loses_to d.hosted.host q policy p
loses_same group p q policy c d b =
    let here : AreAlike p c d = alike_here group p c d b in
    (λ i. is_none (refusal_alike c.hosted.host d.hosted.host q policy b.alike.policies here.ids i)
    && holder_alike c.hosted.host d.hosted.host q p (number_of policy.address) (below group p c d b) b.one.hosted.within b.two.hosted.within (ap (λ (r : Part). r.slot) here.part) i)

others_same : Laws → (group : ℕ → Bool) (p : ℕ) (c d : CardState) (x : Deed) → Pair group p c d → IsDeed x → is_groups group x ≡ false → input_in group c x ≡ input_in group d x
    → given_by_others p c x ≡ given_by_others p d x
others_same laws group p c d (Hears q message files) b deed free same = refl
others_same laws group p c d (Happens e) b deed free same = ap (option_map Kept) (kept_same laws group p c d e b free deed same)
others_same laws group p c d (Signals q vectors) b deed free same = refl
others_same laws group p c d (Resets q) b deed free same = refl
others_same laws group p c d (Comes q memory) b deed free same = refl
others_same laws group p c d (Goes q) b deed free same = refl
others_same laws group p c d (Replaces q memory) b deed free same = refl
others_same laws group p c d (Admits q policy) b deed free same = ap (λ (t : Bool). if t then Some (Loses (number_of policy.address)) else None) (loses_same group p q policy c d b)
others_same laws group p c d (Dismisses q) b deed free same = refl
others_same laws group p c d (Notifies q) b deed free same = refl
others_same laws group p c d (Offers q) b deed free same = refl

told_same : (group : ℕ → Bool) (p : ℕ) (c d : CardState) (x : Deed) → Pair group p c d → is_pool (whose x) p ≡ true → input_in group c x ≡ input_in group d x → is_told_of_others p c x ≡ is_told_of_others p d x
told_same group p c d (Hears q message files) b own same = subst (λ (k : ℕ). is_address_held c k message files ≡ is_address_held d k message files) (eqb-true q p own) (some_is same)
told_same group p c d (Happens e) b own same = refl
told_same group p c d (Signals q vectors) b own same = refl
told_same group p c d (Resets q) b own same = refl
told_same group p c d (Comes q memory) b own same = refl
told_same group p c d (Goes q) b own same = refl
told_same group p c d (Replaces q memory) b own same = refl
told_same group p c d (Admits q policy) b own same = owned_alike c.hosted.host d.hosted.host p (number_of policy.address) b.alike.policies
told_same group p c d (Dismisses q) b own same = refl
told_same group p c d (Notifies q) b own same = refl
told_same group p c d (Offers q) b own same = refl

pub given_same : Laws → (group : ℕ → Bool) (p : ℕ) (c d : CardState) (x : Deed) → Pair group p c d → IsDeed x → is_groups group x ≡ false → input_in group c x ≡ input_in group d x
    → given_in p c x ≡ given_in p d x
given_same laws group p c d x b deed free same = go (is_pool (whose x) p) refl
  where
    go : (m : Bool) → is_pool (whose x) p ≡ m → given_in p c x ≡ given_in p d x
    go true own = own_given p c x own ∙ ap (λ (t : Bool). Some (Own x t)) (told_same group p c d x b own same) ∙ sym (own_given p d x own)
    go false apart = others_given p c x apart ∙ others_same laws group p c d x b deed free same ∙ sym (others_given p d x apart)
