-- Where policies keep a group apart, its settings do, and nothing stays as input.
use Rattle.std.proofs.Common.{◌≡◌, ℕ, ◌<◌, Bool, true, false, not, ◌&&◌, List, [], ◌∷◌, Option, Some, None, length, refl, sym, ap, ◌∙◌, subst, ltb, ltb-true}
use Rattle.std.specs.Prelude.{slice_index, if◌then◌else◌}
use Rattle.std.specs.List.{All, cons_option}
use Rattle.std.specs.Option.{option_map}
use Rattle.std.proofs.lemmas.Bool.{eq-eqb}
use Rattle.std.proofs.lemmas.List.Elements.{All-cons, All-head, All-nil, All-tail}
use Rattle.pool_filter.specs.Settings.{Settings}
use Rattle.pool_filter.specs.Reach.{KeepsApart}
use Rattle.local_switch.specs.Switch.{is_accepted}
use Rattle.device.specs.Across.{Saw}
use Rattle.wire_frame.specs.declared.fault.Fault.TheVariants.{NoSuchVf}
use Rattle.device.specs.Events.{Event}
use Rattle.device.specs.declared.event.Event.TheVariants.{VfWrite, Wire}
use Rattle.device.specs.declared.event.Reply.TheVariants.{Done}
use Rattle.device.specs.Erased.{IsApart}
use Rattle.device.specs.Act.{act}
use Rattle.device.specs.Lone.{Replied, interrupted}
use Rattle.device.specs.declared.event.Answer.{Answer}
use Rattle.device.specs.Replies.{Reply}
use Rattle.device.specs.World.{World, acted, function_of, refused, step}
use Rattle.device.proofs.Apartness.{apart_by_test}
use Rattle.mailbox.specs.Mailbox.{after_write as box_written}
use Rattle.mailbox.specs.Message.{message_of}
use Rattle.hosted.specs.Hosted.{mailbox_at}
use Rattle.hosted.specs.Turns.{is_taken as is_answered, rings, takes}
use Rattle.vfio_session.specs.declared.decision.Ask.{Ask}
use Rattle.vfio_session.specs.declared.decision.Ask.TheVariants.{Read, Write, Map, Unmap, Reset, Arm, Disarm}
use Rattle.vfio_session.specs.Received.{received}
use Rattle.card.specs.Alike.{IsCard, Part, asked_address, asked_in, is_address_held, is_held, may_choose}
use Rattle.mailbox.specs.State.{is_taken}
use Rattle.card.specs.Card.{CardState, EndState, end_at}
use Rattle.card.specs.Life.{Deed, Hears, Happens, Signals, Resets, Comes, Goes, Replaces, Admits, Dismisses, Notifies, Offers, IsDeed, IsLivedAlike, Seen, Show, after_deed, shown_in, world_of}
use Rattle.card_laws.specs.Erased.{AreAlikeOutside, BeforeEach, HasOwnVlans, LeavesNoInput, StaysApart, chooses, erase, input_in, inputs, is_groups, is_outside, is_service}
use Rattle.card_laws.proofs.Addresses.{taken_same}
use Rattle.card_laws.proofs.Steady.{Laws}
use Rattle.card_laws.proofs.Erasing.{alike_itself, both_after, groups_after, lived_without}
use Rattle.card_laws.proofs.Given.{Pair, alike_here, below, default_same, lives_event}
use Rattle.card_laws.proofs.Vlans.{by_policies}

-- ---- VLANs

pub apart_by_policies : Laws → (group : ℕ → Bool) (c : CardState) (xs : List Deed) → IsCard c → All IsDeed xs → BeforeEach (HasOwnVlans group) c xs → StaysApart group c xs
apart_by_policies laws group c [] is all own = tt
apart_by_policies laws group c (x ∷ xs) is all own = (
  λ serves. apart_by_test group (world_of c).settings (subst (λ (s : Settings). KeepsApart s group) (sym is.hosted.settings) (by_policies group c.hosted.host is.hosted.within own.0)),
  apart_by_policies laws group (after_deed c x) xs (laws.stands c (x ∷ []) is (All-cons IsDeed x [] (All-head IsDeed x xs all) (All-nil IsDeed))) (All-tail IsDeed x xs all) own.1,
)

-- ---- the address that a driver asks for

-- the device's reply to q's own write, as q sees it
abbrev reply_in : List Show → Reply
reply_in (Seen (Saw (Replied r n)) ∷ rest) = r
reply_in _ = Done

seen_reply : (q offset x : ℕ) (c : CardState) → reply_in (cons_option (shown_in q c (Happens (VfWrite q offset x))) []) ≡ (step (world_of c) (VfWrite q offset x)).answer.reply
seen_reply q offset x c =
    let a : Answer = (step (world_of c) (VfWrite q offset x)).answer in
    ap (λ (m : Bool). reply_in (cons_option (option_map Seen (option_map Saw (if m then Some (Replied a.reply (slice_index a.raised q)) else interrupted (slice_index a.raised q)))) [])) (eq-eqb q q refl)

takes_same : Laws → (group : ℕ → Bool) (q offset x : ℕ) (c d : CardState) → Pair group q c d → takes c.hosted (VfWrite q offset x) ≡ takes d.hosted (VfWrite q offset x)
takes_same laws group q offset x c d b =
    let lived : IsLivedAlike q c (Happens (VfWrite q offset x) ∷ []) d (Happens (VfWrite q offset x) ∷ []) = lives_event laws group q c d (VfWrite q offset x) b (eq-eqb q q refl) refl in
    ap is_answered (sym (seen_reply q offset x c) ∙ ap reply_in lived.shows ∙ seen_reply q offset x d)

boxes_same : (group : ℕ → Bool) (q : ℕ) (c d : CardState) → Pair group q c d → mailbox_at c.hosted q ≡ mailbox_at d.hosted q
boxes_same group q c d b = ap (λ (r : Part). r.mailbox) (alike_here group q c d b).part

asked_same : Laws → (group : ℕ → Bool) (q : ℕ) (c d : CardState) (a : Option Ask) → Pair group q c d → asked_in c q a ≡ asked_in d q a
asked_same laws group q c d None b = refl
asked_same laws group q c d (Some (Read offset)) b = refl
asked_same laws group q c d (Some (Write offset x)) b =
    (λ i. if takes_same laws group q offset x c d b i && rings offset x then asked_address (message_of (box_written (boxes_same group q c d b i) offset x).words) else None)
asked_same laws group q c d (Some Reset) b = refl
asked_same laws group q c d (Some (Map mapping)) b = refl
asked_same laws group q c d (Some (Unmap range)) b = refl
asked_same laws group q c d (Some (Arm vectors)) b = refl
asked_same laws group q c d (Some (Disarm vectors)) b = refl

-- of a pool that has no function none is asked for
takes_none : (q offset x : ℕ) (c : CardState) → ltb q (length (world_of c).functions) ≡ false → takes c.hosted (VfWrite q offset x) ≡ false
takes_none q offset x c none =
    let w : World = world_of c in
    ap (λ (t : Bool). is_answered (if t then acted w q (act (function_of q w) (VfWrite q offset x)) else refused w NoSuchVf).answer.reply) none

asked_none : (q : ℕ) (c : CardState) (a : Option Ask) → ltb q (length (world_of c).functions) ≡ false → asked_in c q a ≡ None
asked_none q c None none = refl
asked_none q c (Some (Read offset)) none = refl
asked_none q c (Some (Write offset x)) none = ap (λ (t : Bool). if t && rings offset x then asked_address (message_of (box_written (mailbox_at c.hosted q) offset x).words) else None) (takes_none q offset x c none)
asked_none q c (Some Reset) none = refl
asked_none q c (Some (Map mapping)) none = refl
asked_none q c (Some (Unmap range)) none = refl
asked_none q c (Some (Arm vectors)) none = refl
asked_none q c (Some (Disarm vectors)) none = refl

-- whether it may choose it, and another function holds it
held_same : (group : ℕ → Bool) (p q : ℕ) (c d : CardState) (o : Option ℕ) → Pair group p c d → LeavesNoInput group c → q < 64 → group q ≡ false → is_held c.hosted.host q o ≡ is_held d.hosted.host q o
held_same group p q c d None b none small free = refl
held_same group p q c d (Some a) b none small free =
    go (chooses c q) refl ∙ ap (λ (t : Bool). t && is_taken d.hosted.host q a) (ap may_choose (b.alike.policies q))
  where
    go : (t : Bool) → chooses c q ≡ t → (chooses c q && is_taken c.hosted.host q a) ≡ (chooses c q && is_taken d.hosted.host q a)
    go false is = (λ i. is i && is_taken c.hosted.host q a) ∙ sym (λ i. is i && is_taken d.hosted.host q a)
    go true is =
        ap (λ (t : Bool). chooses c q && t)
        (taken_same c.hosted.host d.hosted.host q a b.one.hosted.slots b.two.hosted.slots b.one.hosted.within b.two.hosted.within b.alike.policies
        (λ r inside also. let at = none.chosen q r small inside free is also in ap (λ (n : Part). n.slot) (b.alike.functions r at.0 at.1).part))

hears_same : Laws → (group : ℕ → Bool) (p q : ℕ) (c d : CardState) (message : List ℕ) (files : ℕ) → Pair group p c d → LeavesNoInput group c → group q ≡ false
    → is_address_held c q message files ≡ is_address_held d q message files
hears_same laws group p q c d message files b none free = go (ltb q (length (world_of c).functions)) refl
  where
    go : (t : Bool) → ltb q (length (world_of c).functions) ≡ t → is_address_held c q message files ≡ is_address_held d q message files
    go true is =
        let here : Pair group q c d = record { one = b.one; two = b.two; alike = b.alike; there = ltb-true q (length (world_of c).functions) is; outside = free } in
        let asks : asked_in c q (received (end_at c q).session message files).asks ≡ asked_in d q (received (end_at d q).session message files).asks
        = asked_same laws group q c d (received (end_at c q).session message files).asks here
        ∙ ap (λ (e : EndState). asked_in d q (received e.session message files).asks) (ap (λ (r : Part). r.end) (alike_here group q c d here).part) in
        held_same group p q c d (asked_in c q (received (end_at c q).session message files).asks) b none (below group q c d here) free ∙ ap (is_held d.hosted.host q) asks
    go false is =
        ap (is_held c.hosted.host q) (asked_none q c (received (end_at c q).session message files).asks is)
        ∙ sym (ap (is_held d.hosted.host q) (asked_none q d (received (end_at d q).session message files).asks (sym (ap (ltb q) b.alike.count) ∙ is)))

-- ---- what a deed tells

event_same : (group : ℕ → Bool) (p : ℕ) (c d : CardState) (e : Event) → Pair group p c d → LeavesNoInput group c → input_in group c (Happens e) ≡ input_in group d (Happens e)
event_same group p c d (Wire frame) b none =
    ap (λ (t : Bool). Some (t && not (is_accepted (world_of c).settings frame))) none.default_pool
    ∙ sym (ap (λ (t : Bool). Some (t && not (is_accepted (world_of d).settings frame))) (ap (is_outside group) (sym (default_same group p c d b)) ∙ none.default_pool))
event_same group p c d e b none = refl

input_same : Laws → (group : ℕ → Bool) (p : ℕ) (c d : CardState) (x : Deed) → Pair group p c d → LeavesNoInput group c → is_groups group x ≡ false → input_in group c x ≡ input_in group d x
input_same laws group p c d (Hears q message files) b none free = ap Some (hears_same laws group p q c d message files b none free)
input_same laws group p c d (Happens e) b none free = event_same group p c d e b none
input_same laws group p c d (Signals q vectors) b none free = refl
input_same laws group p c d (Resets q) b none free = refl
input_same laws group p c d (Comes q memory) b none free = refl
input_same laws group p c d (Goes q) b none free = refl
input_same laws group p c d (Replaces q memory) b none free = refl
input_same laws group p c d (Admits q policy) b none free = refl
input_same laws group p c d (Dismisses q) b none free = refl
input_same laws group p c d (Notifies q) b none free = refl
input_same laws group p c d (Offers q) b none free = refl

-- ---- and so a life

inputs_on : Laws → (group : ℕ → Bool) (p : ℕ) (c d : CardState) (x : Deed) (xs : List Deed) (mine : Bool) → is_groups group x ≡ mine → Pair group p c d → IsDeed x → LeavesNoInput group c
    → ((is_groups group x && is_service x) ≡ true → IsApart group (world_of c).settings)
    → ((v : CardState) → Pair group p (after_deed c x) v → inputs group (after_deed c x) xs ≡ inputs group v (erase group xs))
    → (if mine then inputs group (after_deed c x) xs else cons_option (input_in group c x) (inputs group (after_deed c x) xs)) ≡ inputs group d (if mine then erase group xs else x ∷ erase group xs)
inputs_on laws group p c d x xs true is b deed none apart rest = rest d (groups_after laws group p c d x b deed is apart)
inputs_on laws group p c d x xs false is b deed none apart rest =
    let same : input_in group c x ≡ input_in group d x = input_same laws group p c d x b none is in
    (λ i. cons_option (same i) (rest (after_deed d x) (both_after laws group p c d x b deed is same) i))
    ∙ sym (ap (λ (m : Bool). if m then inputs group (after_deed d x) (erase group xs) else cons_option (input_in group d x) (inputs group (after_deed d x) (erase group xs))) is)

inputs_same : Laws → (group : ℕ → Bool) (p : ℕ) (c d : CardState) (xs : List Deed) → Pair group p c d → All IsDeed xs → StaysApart group c xs → BeforeEach (LeavesNoInput group) c xs
    → inputs group c xs ≡ inputs group d (erase group xs)
inputs_same laws group p c d [] b all stays none = refl
inputs_same laws group p c d (x ∷ xs) b all stays none =
    inputs_on laws group p c d x xs (is_groups group x) refl b (All-head IsDeed x xs all) none.0 stays.0
    (λ v pair. inputs_same laws group p (after_deed c x) v xs pair (All-tail IsDeed x xs all) stays.1 none.1)

pub inputs_given : Laws → (group : ℕ → Bool) (p : ℕ) (c d : CardState) (xs : List Deed) → p < length (world_of c).functions → group p ≡ false → IsCard c → IsCard d → All IsDeed xs
    → AreAlikeOutside group c d → StaysApart group c xs → BeforeEach (LeavesNoInput group) c xs → inputs group c xs ≡ inputs group d (erase group xs)
inputs_given laws group p c d xs there outside one two all alike = inputs_same laws group p c d xs (record { one = one; two = two; alike = alike; there = there; outside = outside }) all

-- ---- lives under such policies

pub lived_by_policies : Laws → (group : ℕ → Bool) (p : ℕ) (c d : CardState) (xs : List Deed) → p < length (world_of c).functions → group p ≡ false → IsCard c → IsCard d → All IsDeed xs
    → AreAlikeOutside group c d → BeforeEach (HasOwnVlans group) c xs → BeforeEach (LeavesNoInput group) c xs → IsLivedAlike p c xs d (erase group xs)
lived_by_policies laws group p c d xs there outside one two all alike own none =
    let b : Pair group p c d = record { one = one; two = two; alike = alike; there = there; outside = outside } in
    let stays : StaysApart group c xs = apart_by_policies laws group c xs one all own in
    lived_without laws group p c d xs there outside one two all alike stays (inputs_same laws group p c d xs b all stays none)

lived_on : (p : ℕ) (c d e : CardState) (xs ys zs : List Deed) → IsLivedAlike p c xs e zs → IsLivedAlike p d ys e zs → IsLivedAlike p c xs d ys
lived_on p c d e xs ys zs one two = record {
  shows = one.shows ∙ sym two.shows;
  accesses = one.accesses ∙ sym two.accesses;
  sends = one.sends ∙ sym two.sends;
  cards = record {
    part = one.cards.part ∙ sym two.cards.part;
    ids = one.cards.ids ∙ sym two.cards.ids;
    default_pool = one.cards.default_pool ∙ sym two.cards.default_pool;
    limit = one.cards.limit ∙ sym two.cards.limit;
  };
}

pub whatever : Laws → (group : ℕ → Bool) (p : ℕ) (c d : CardState) (xs ys : List Deed) → p < length (world_of c).functions → group p ≡ false → IsCard c → IsCard d → All IsDeed xs → All IsDeed ys
    → AreAlikeOutside group c d → erase group xs ≡ erase group ys
    → BeforeEach (HasOwnVlans group) c xs → BeforeEach (LeavesNoInput group) c xs → BeforeEach (HasOwnVlans group) d ys → BeforeEach (LeavesNoInput group) d ys
    → IsLivedAlike p c xs d ys
whatever laws group p c d xs ys there outside one two all also alike same own none also_own also_none =
    lived_on p c d d xs ys (erase group xs)
    (lived_by_policies laws group p c d xs there outside one two all alike own none)
    (subst (IsLivedAlike p d ys d) (sym same) (lived_by_policies laws group p d d ys (subst (λ (n : ℕ). p < n) alike.count there) outside two two also (alike_itself group d) also_own also_none))
