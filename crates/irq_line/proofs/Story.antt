-- The story of a word goes on by each deed, and a raise in it stands in the word or was answered by a later take.
use Rattle.std.proofs.Common.{◌≡◌, ◌≢◌, inl, inr, ℕ, ◌+◌, ◌<◌, ◌≤◌, Bool, true, false, cond, ◌==◌, List, [], ◌∷◌, ◌++◌, refl, sym, ap, ◌∙◌, subst, append-nil, append_assoc, arith, le_refl, bit_or, eq-eqb, ne_eqb}
use Rattle.std.specs.Int.{bit_at}
use Rattle.std.proofs.lemmas.List.Elements.{filter-append}
use Rattle.std.proofs.lemmas.List.{append_cancel_left}
use Rattle.std.proofs.lemmas.List.Sums.{sum_by-cons, sum_by_push}
use Rattle.std.proofs.lemmas.Nat.Bits.{bit_at_or, bit_at-lt, bit_at-zero}
use Rattle.std.specs.List.{sum_by}
use mathlib.Core.Logic.{dite}
use native.Mathlib.Decide.{dec_le}
use Rattle.irq_line.specs.declared.views.Raise.{Raise}
use Rattle.irq_line.specs.declared.views.GuestRecord.{GuestRecord}
use Rattle.irq_line.specs.Line.{raise_of, bit_for, raised, answered, Deed, Raising, Taking, Peeking, raises_in, takes_in, peeks_in, raises_since, Replays, raises_for, IsStory, StandsOrTaken, idle_guest, after_take, after_peek}

-- ---- one deed more
raises_in-append : (xs ys : List Deed) → raises_in (xs ++ ys) ≡ raises_in xs ++ raises_in ys
raises_in-append [] ys = refl
raises_in-append (Raising r ∷ xs) ys = ap (λ (rs : List Raise). r ∷ rs) (raises_in-append xs ys)
raises_in-append (Taking a ∷ xs) ys = raises_in-append xs ys
raises_in-append (Peeking a ∷ xs) ys = raises_in-append xs ys

takes_in-append : (xs ys : List Deed) → takes_in (xs ++ ys) ≡ takes_in xs ++ takes_in ys
takes_in-append [] ys = refl
takes_in-append (Raising r ∷ xs) ys = takes_in-append xs ys
takes_in-append (Taking a ∷ xs) ys = ap (λ (ts : List ℕ). a ∷ ts) (takes_in-append xs ys)
takes_in-append (Peeking a ∷ xs) ys = takes_in-append xs ys

peeks_in-append : (xs ys : List Deed) → peeks_in (xs ++ ys) ≡ peeks_in xs ++ peeks_in ys
peeks_in-append [] ys = refl
peeks_in-append (Raising r ∷ xs) ys = peeks_in-append xs ys
peeks_in-append (Taking a ∷ xs) ys = peeks_in-append xs ys
peeks_in-append (Peeking a ∷ xs) ys = ap (λ (ps : List ℕ). a ∷ ps) (peeks_in-append xs ys)

goes_on : (w : ℕ) (story : List Deed) (n : ℕ) (deed : Deed) (last : ℕ) → Replays w story n → Replays n (deed ∷ []) last → Replays w (story ++ deed ∷ []) last
goes_on w [] n deed last so next = subst (λ (k : ℕ). Replays k (deed ∷ []) last) (sym so) next
goes_on w (Raising r ∷ deeds) n deed last so next = (so.0, goes_on (bit_or w r.mask) deeds n deed last so.1 next)
goes_on w (Taking a ∷ deeds) n deed last so next = (so.0, goes_on 0 deeds n deed last so.1 next)
goes_on w (Peeking a ∷ deeds) n deed last so next = (so.0, goes_on w deeds n deed last so.1 next)

for_here : (p m found : ℕ) (raises : List Raise) → raises_for p (raises ++ raise_of p m found ∷ []) ≡ raises_for p raises ++ raise_of p m found ∷ []
for_here p m found raises = filter-append (λ (r : Raise). r.pool == p) raises (raise_of p m found ∷ [])
    ∙ ap (λ (b : Bool). raises_for p raises ++ cond b (raise_of p m found ∷ []) []) (eq-eqb p p refl)

for_elsewhere : (p q m found : ℕ) (raises : List Raise) → q ≢ p → raises_for p (raises ++ raise_of q m found ∷ []) ≡ raises_for p raises
for_elsewhere p q m found raises apart = filter-append (λ (r : Raise). r.pool == p) raises (raise_of q m found ∷ [])
    ∙ ap (λ (b : Bool). raises_for p raises ++ cond b (raise_of q m found ∷ []) []) (ne_eqb q p apart)
    ∙ append-nil (raises_for p raises)

since_raised : (raises : List Raise) (story : List Deed) (r : Raise) → raises_since raises (story ++ Raising r ∷ []) ≡ raises_since raises story ++ r ∷ []
since_raised raises [] r = refl
since_raised raises (Raising s ∷ deeds) r = since_raised (raises ++ s ∷ []) deeds r
since_raised raises (Taking a ∷ deeds) r = since_raised [] deeds r
since_raised raises (Peeking a ∷ deeds) r = since_raised raises deeds r

since_taken : (raises : List Raise) (story : List Deed) (a : ℕ) → raises_since raises (story ++ Taking a ∷ []) ≡ []
since_taken raises [] a = refl
since_taken raises (Raising s ∷ deeds) a = since_taken (raises ++ s ∷ []) deeds a
since_taken raises (Taking b ∷ deeds) a = since_taken [] deeds a
since_taken raises (Peeking b ∷ deeds) a = since_taken raises deeds a

since_peeked : (raises : List Raise) (story : List Deed) (a : ℕ) → raises_since raises (story ++ Peeking a ∷ []) ≡ raises_since raises story
since_peeked raises [] a = refl
since_peeked raises (Raising s ∷ deeds) a = since_peeked (raises ++ s ∷ []) deeds a
since_peeked raises (Taking b ∷ deeds) a = since_peeked [] deeds a
since_peeked raises (Peeking b ∷ deeds) a = since_peeked raises deeds a

-- a raise for the pool
pub story_raised : (p w m : ℕ) (raises : List Raise) (g : GuestRecord) (story : List Deed) → IsStory p w raises g story
    → IsStory p (bit_or w m) (raises ++ raise_of p m w ∷ []) g (story ++ Raising (raise_of p m w) ∷ [])
story_raised p w m raises g story h = record {
  all_raises = raises_in-append story (Raising (raise_of p m w) ∷ [])
      ∙ ap (λ (rs : List Raise). rs ++ raise_of p m w ∷ []) h.all_raises
      ∙ sym (for_here p m w raises);
  all_takes = takes_in-append story (Raising (raise_of p m w) ∷ []) ∙ append-nil (takes_in story) ∙ h.all_takes;
  all_peeks = peeks_in-append story (Raising (raise_of p m w) ∷ []) ∙ append-nil (peeks_in story) ∙ h.all_peeks;
  in_order = for_here p m w raises
      ∙ ap (λ (rs : List Raise). rs ++ raise_of p m w ∷ []) h.in_order
      ∙ append_assoc g.seen (raises_since [] story) (raise_of p m w ∷ [])
      ∙ ap (λ (rs : List Raise). g.seen ++ rs) (sym (since_raised [] story (raise_of p m w)));
  ends = goes_on 0 story w (Raising (raise_of p m w)) (bit_or w m) h.ends (refl, refl);
}

-- a raise for another pool
pub story_spared : (p w q m found : ℕ) (raises : List Raise) (g : GuestRecord) (story : List Deed) → q ≢ p → IsStory p w raises g story
    → IsStory p w (raises ++ raise_of q m found ∷ []) g story
story_spared p w q m found raises g story apart h = record {
  all_raises = h.all_raises ∙ sym (for_elsewhere p q m found raises apart);
  all_takes = h.all_takes;
  all_peeks = h.all_peeks;
  in_order = for_elsewhere p q m found raises apart ∙ h.in_order;
  ends = h.ends;
}

pub story_taken : (p w : ℕ) (raises : List Raise) (g : GuestRecord) (story : List Deed) → IsStory p w raises g story
    → IsStory p 0 raises (record { did = after_take g.did w; seen = raises_for p raises }) (story ++ Taking w ∷ [])
story_taken p w raises g story h = record {
  all_raises = raises_in-append story (Taking w ∷ []) ∙ append-nil (raises_in story) ∙ h.all_raises;
  all_takes = takes_in-append story (Taking w ∷ []) ∙ ap (λ (ts : List ℕ). ts ++ w ∷ []) h.all_takes;
  all_peeks = peeks_in-append story (Taking w ∷ []) ∙ append-nil (peeks_in story) ∙ h.all_peeks;
  in_order = sym (append-nil (raises_for p raises)) ∙ ap (λ (rs : List Raise). raises_for p raises ++ rs) (sym (since_taken [] story w));
  ends = goes_on 0 story w (Taking w) 0 h.ends (refl, refl);
}

pub story_peeked : (p w : ℕ) (raises : List Raise) (g : GuestRecord) (story : List Deed) → IsStory p w raises g story
    → IsStory p w raises (record g { did = after_peek g.did w }) (story ++ Peeking w ∷ [])
story_peeked p w raises g story h = record {
  all_raises = raises_in-append story (Peeking w ∷ []) ∙ append-nil (raises_in story) ∙ h.all_raises;
  all_takes = takes_in-append story (Peeking w ∷ []) ∙ append-nil (takes_in story) ∙ h.all_takes;
  all_peeks = peeks_in-append story (Peeking w ∷ []) ∙ ap (λ (ps : List ℕ). ps ++ w ∷ []) h.all_peeks;
  in_order = h.in_order ∙ ap (λ (rs : List Raise). g.seen ++ rs) (sym (since_peeked [] story w));
  ends = goes_on 0 story w (Peeking w) w h.ends (refl, refl);
}

pub story_begins : (p : ℕ) → IsStory p 0 [] (idle_guest p) []
story_begins p = record { all_raises = refl; all_takes = refl; all_peeks = refl; in_order = refl; ends = refl }

-- ---- what a story means

-- a bit that stood stands at the end, or a take answered it
bit_kept : (w : ℕ) (story : List Deed) (last v : ℕ) → Replays w story last → bit_at w v ≤ bit_at last v + answered v (takes_in story)
bit_kept w [] last v so = let e : bit_at w v ≡ bit_at last v = ap (λ (k : ℕ). bit_at k v) so in omega arith
bit_kept w (Raising r ∷ deeds) last v so = let rest = bit_kept (bit_or w r.mask) deeds last v so.1 in let o = bit_at_or w r.mask v in omega arith
bit_kept w (Taking a ∷ deeds) last v so = let e : bit_at a v ≡ bit_at w v = ap (λ (k : ℕ). bit_at k v) so.0 in let c = sum_by-cons (λ (answer : ℕ). bit_at answer v) a (takes_in deeds) in omega arith
bit_kept w (Peeking a ∷ deeds) last v so = bit_kept w deeds last v so.1

raise_kept : (w : ℕ) (before after : List Deed) (r : Raise) (last v : ℕ) → Replays w (before ++ Raising r ∷ after) last
    → bit_at r.mask v ≤ bit_at last v + answered v (takes_in after)
raise_kept w [] after r last v so = let rest = bit_kept (bit_or w r.mask) after last v so.1 in let o = bit_at_or w r.mask v in omega arith
raise_kept w (Raising s ∷ before) after r last v so = raise_kept (bit_or w s.mask) before after r last v so.1
raise_kept w (Taking a ∷ before) after r last v so = raise_kept 0 before after r last v so.1
raise_kept w (Peeking a ∷ before) after r last v so = raise_kept w before after r last v so.1

pub stands_or_taken : (story : List Deed) (last v : ℕ) → Replays 0 story last → StandsOrTaken v story last
stands_or_taken story last v so before after r is on =
    let kept = raise_kept 0 before after r last v (subst (λ (deeds : List Deed). Replays 0 deeds last) is so) in
    dite (dec_le 1 (bit_at last v))
    (λ (stands : 1 ≤ bit_at last v). let most = bit_at-lt last v in inl (omega arith))
    (λ cleared. inr (omega arith))

bit_most : (p v q m : ℕ) → bit_for p v q m ≤ bit_at m v
bit_most p v q m = elim (q == p) as (λ b. cond b (bit_at m v) 0 ≤ bit_at m v) [ true ↦ le_refl _ | false ↦ omega arith ]

-- what was raised after the last take stands at the end
since_stands : (w : ℕ) (raises : List Raise) (story : List Deed) (last p v : ℕ) → Replays w story last
    → (0 < raised p v raises → 0 < bit_at w v) → 0 < raised p v (raises_since raises story) → 0 < bit_at last v
since_stands w raises [] last p v so here some = let on : 0 < bit_at w v = here some in let e : bit_at w v ≡ bit_at last v = ap (λ (k : ℕ). bit_at k v) so in omega arith
since_stands w raises (Raising r ∷ deeds) last p v so here some = since_stands (bit_or w r.mask) (raises ++ r ∷ []) deeds last p v so.1 more some
  where
    more : 0 < raised p v (raises ++ r ∷ []) → 0 < bit_at (bit_or w r.mask) v
    more any =
        let o = bit_at_or w r.mask v in
        let n = sum_by_push (λ (s : Raise). bit_for p v s.pool s.mask) raises r in
        dite (dec_le 1 (raised p v raises))
        (λ (earlier : 1 ≤ raised p v raises). let on : 0 < bit_at w v = here earlier in omega arith)
        (λ first. let most = bit_most p v r.pool r.mask in omega arith)
since_stands w raises (Taking a ∷ deeds) last p v so here some = since_stands 0 [] deeds last p v so.1 (λ (none : 0 < raised p v []). absurd (omega arith)) some
since_stands w raises (Peeking a ∷ deeds) last p v so here some = since_stands w raises deeds last p v so.1 here some

-- the raises that the last take has not seen are those of the story after that take
pub unseen_stand : (p w v : ℕ) (raises later : List Raise) (g : GuestRecord) (story : List Deed) → IsStory p w raises g story
    → raises_for p raises ≡ g.seen ++ later → 0 < raised p v later → bit_at w v ≡ 1
unseen_stand p w v raises later g story h is some =
    let since : later ≡ raises_since [] story = append_cancel_left g.seen later (raises_since [] story) (sym is ∙ h.in_order) in
    let stands = since_stands 0 [] story w p v h.ends (λ (none : 0 < raised p v []). absurd (omega arith)) (subst (λ (rs : List Raise). 0 < raised p v rs) since some) in
    let most = bit_at-lt w v in
    omega arith

-- ---- what was peeked was raised

-- how many of the raises are of the vector
abbrev asked : ℕ → List Raise → ℕ
asked v raises = sum_by (λ (r : Raise). bit_at r.mask v) raises

asked_one : (p v : ℕ) (r : Raise) (raises : List Raise) (b : Bool) → (r.pool == p) ≡ b → asked v (raises_for p raises) ≤ raised p v raises
    → asked v (cond b (r ∷ raises_for p raises) (raises_for p raises)) ≤ raised p v raises + cond b (bit_at r.mask v) 0
asked_one p v r raises true is rest = omega (arith, sum_by-cons (λ (s : Raise). bit_at s.mask v) r (raises_for p raises))
asked_one p v r raises false is rest = omega arith

asked_raised : (p v : ℕ) (raises : List Raise) → asked v (raises_for p raises) ≤ raised p v raises
asked_raised p v [] = le_refl 0
asked_raised p v (r ∷ raises) =
    let one = asked_one p v r raises (r.pool == p) refl (asked_raised p v raises) in
    let n = sum_by-cons (λ (s : Raise). bit_for p v s.pool s.mask) r raises in
    omega arith

-- a vector that a peek answered stood at first, or was raised
peeked_asked : (w : ℕ) (story : List Deed) (last v : ℕ) → Replays w story last → 0 < answered v (peeks_in story) → 0 < bit_at w v + asked v (raises_in story)
peeked_asked w [] last v so some = absurd (omega arith)
peeked_asked w (Raising r ∷ deeds) last v so some =
    let rest = peeked_asked (bit_or w r.mask) deeds last v so.1 some in
    let o = bit_at_or w r.mask v in
    let n = sum_by-cons (λ (s : Raise). bit_at s.mask v) r (raises_in deeds) in
    omega arith
peeked_asked w (Taking a ∷ deeds) last v so some = let rest = peeked_asked 0 deeds last v so.1 some in let none = bit_at-zero v in omega arith
peeked_asked w (Peeking a ∷ deeds) last v so some =
    let e : bit_at a v ≡ bit_at w v = ap (λ (k : ℕ). bit_at k v) so.0 in
    let n = sum_by-cons (λ (answer : ℕ). bit_at answer v) a (peeks_in deeds) in
    dite (dec_le 1 (bit_at w v))
    (λ (stood : 1 ≤ bit_at w v). omega arith)
    (λ clear. let later : 0 < answered v (peeks_in deeds) = omega arith in peeked_asked w deeds last v so.1 later)

pub peeked_raised : (p w v : ℕ) (raises : List Raise) (g : GuestRecord) (story : List Deed) → IsStory p w raises g story
    → 0 < answered v g.did.peeks → 0 < raised p v raises
peeked_raised p w v raises g story h some =
    let in_story : 0 < answered v (peeks_in story) = subst (λ (ps : List ℕ). 0 < answered v ps) (sym h.all_peeks) some in
    let stood = peeked_asked 0 story w v h.ends in_story in
    let e : asked v (raises_in story) ≡ asked v (raises_for p raises) = ap (λ (rs : List Raise). asked v rs) h.all_raises in
    let most = asked_raised p v raises in
    let none = bit_at-zero v in
    omega arith
