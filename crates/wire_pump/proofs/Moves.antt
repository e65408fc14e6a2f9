-- Each kind of step keeps the rule of the channel.
use Rattle.std.proofs.Common.{◌≡◌, ◌≢◌, ◌⊎◌, ⊎_elim, inl, inr, ℕ, ◌+◌, arith, zero, suc, true, false, true≢false, map, List, [], ◌∷◌, ◌++◌, length, set, refl, sym, ap, ◌∙◌, subst, append_assoc}
use Rattle.std.specs.Prelude.{⊤, slice_set}
use Rattle.std.proofs.lemmas.List.{map-append}
use mathlib.Core.Option.{some, some-injective, some-ne-none}
use lib.ListN.{get_elem?}
use Rattle.atomic_table.proofs.Lists.{at_set}
use Rattle.crossbeam_channel.specs.Fifo.{Pushes, Pops, Forks, Merges, Learns}
use Rattle.device.specs.Events.{Event}
use Rattle.history.specs.declared.caller.Caller.{Caller}
use Rattle.history.specs.declared.caller.Caller.TheVariants.{Pump}
use Rattle.recorder.specs.Callers.{may}
use Rattle.wire_pump.specs.declared.message.WireMsg.{WireMsg}
use Rattle.wire_pump.specs.declared.message.WireMsg.TheVariants.{Frame, Last}
use Rattle.wire_pump.specs.declared.flow.Hand.{Hand}
use Rattle.wire_pump.specs.Ends.{is_wire, count_frames}
use Rattle.wire_pump.specs.Pump.{is_ended, is_proper, sender, receiver, both, neither, Knows, IsFlow, IsSent, IsReceived, IsBeside}

off : false ≡ true → ⊥
off e = true≢false (sym e)

pub begins : IsFlow [] (both [] [] ∷ [])
begins = record { sent = []; received = []; sending = 0; receiving = 0; whole = refl; proper = refl; each = one }
  where
    one : (seat : ℕ) (hand : Hand) → get_elem? (both [] [] ∷ []) seat ≡ some hand → Knows 0 0 [] [] seat hand
    one zero hand e = subst (Knows 0 0 [] [] 0) (some-injective _ _ e) (record { sends = λ _. (refl, refl); receives = λ _. (refl, refl) })
    one (suc k) hand e = absurd (some-ne-none hand (sym e))

-- the others know what they knew, and the hand at the seat is another
knows_set : (a b : ℕ) (s g s' g' : List WireMsg) (hands : List Hand) (seat : ℕ) (w : Hand)
    → ((j : ℕ) (u : Hand) → j ≢ seat → Knows a b s g j u → Knows a b s' g' j u)
    → ((j : ℕ) (u : Hand) → get_elem? hands j ≡ some u → Knows a b s g j u) → Knows a b s' g' seat w
    → (j : ℕ) (u : Hand) → get_elem? (set hands seat w) j ≡ some u → Knows a b s' g' j u
knows_set a b s g s' g' hands seat w on all mine j u e = ⊎_elim
    (λ (t : (j ≡ seat) × (w ≡ u)). subst (λ (y : ℕ × Hand). Knows a b s' g' y.0 y.1) (λ i. (sym t.0 i, t.1 i)) mine)
    (λ (t : (j ≢ seat) × (get_elem? hands j ≡ some u)). on j u t.0 (all j u t.1))
    (at_set hands seat j w u e)

pub pushes : (n seat : ℕ) (v : Hand) (x : WireMsg) → v ≡ sender v.sent → is_proper (v.sent ++ x ∷ []) ≡ true → Pushes IsFlow n seat v x (IsSent v x)
pushes n seat v x is proper items hands room h at =
    let mine = h.each seat v at in
    let here = mine.sends (ap (λ (u : Hand). u.sends) is) in
    let w = sender (v.sent ++ x ∷ []) in
    let sent : List WireMsg = h.sent in (
      w,
      record {
        sent = sent ++ x ∷ [];
        received = h.received;
        sending = h.sending;
        receiving = h.receiving;
        whole = ap (λ xs. xs ++ x ∷ []) h.whole ∙ append_assoc h.received items (x ∷ []);
        proper = subst (λ (xs : List WireMsg). is_proper (xs ++ x ∷ []) ≡ true) here.1 proper;
        each = knows_set h.sending h.receiving sent h.received (sent ++ x ∷ []) h.received hands seat w
            (λ j u apart k. record { sends = λ s. absurd (apart ((k.sends s).0 ∙ sym here.0)); receives = k.receives })
            h.each
            (record { sends = λ _. (here.0, ap (λ xs. xs ++ x ∷ []) here.1); receives = λ g. absurd (off g) });
      },
      refl,
    )

-- a beginning of a proper list is proper
pub front_proper : (xs ys : List WireMsg) → is_proper (xs ++ ys) ≡ true → is_proper xs ≡ true
front_proper [] ys p = refl
front_proper (Frame f ∷ xs) ys p = front_proper xs ys p
front_proper (Last ∷ []) ys p = refl
front_proper (Last ∷ x ∷ xs) ys p = p

pub pops : (seat : ℕ) (v : Hand) → v ≡ receiver v.received → Pops IsFlow seat v (IsReceived v)
pops seat v is x items hands h at =
    let mine = h.each seat v at in
    let here = mine.receives (ap (λ (u : Hand). u.receives) is) in
    let w = receiver (v.received ++ x ∷ []) in
    let sent : List WireMsg = h.sent in
    let got : List WireMsg = h.received in
    let whole : sent ≡ (got ++ x ∷ []) ++ items = h.whole ∙ sym (append_assoc got (x ∷ []) items) in
    let mine_whole : sent ≡ (v.received ++ x ∷ []) ++ items = whole ∙ ap (λ xs. (xs ++ x ∷ []) ++ items) (sym here.1) in
    let proper : is_proper ((v.received ++ x ∷ []) ++ items) ≡ true = subst (λ (xs : List WireMsg). is_proper xs ≡ true) mine_whole h.proper in (
      w,
      record {
        sent = sent;
        received = got ++ x ∷ [];
        sending = h.sending;
        receiving = h.receiving;
        whole = whole;
        proper = h.proper;
        each = knows_set h.sending h.receiving sent got sent (got ++ x ∷ []) hands seat w
            (λ j u apart k. record { sends = k.sends; receives = λ g. absurd (apart ((k.receives g).0 ∙ sym here.0)) })
            h.each
            (record { sends = λ s. absurd (off s); receives = λ _. (here.0, ap (λ xs. xs ++ x ∷ []) here.1) });
      },
      (refl, front_proper (v.received ++ x ∷ []) items proper),
    )

at_end : (l : List Hand) (a b : Hand) (j : ℕ) → get_elem? (l ++ a ∷ []) j ≡ some b → (get_elem? l j ≡ some b) ⊎ ((j ≡ length l) × (a ≡ b))
at_end [] a b zero e = inr (refl, some-injective a b e)
at_end [] a b (suc j) e = absurd (some-ne-none b (sym e))
at_end (x ∷ xs) a b zero e = inl e
at_end (x ∷ xs) a b (suc j) e = ⊎_elim (λ t. inl t) (λ t. inr (ap suc t.0, t.1)) (at_end xs a b j e)

pub forks : (seat : ℕ) (v : Hand) → v ≡ both v.sent v.received → Forks IsFlow seat v (sender v.sent) (receiver v.received)
forks seat v is items hands h at =
    let mine = h.each seat v at in
    let s = mine.sends (ap (λ (u : Hand). u.sends) is) in
    let g = mine.receives (ap (λ (u : Hand). u.receives) is) in
    let n : ℕ = length (slice_set hands seat (sender v.sent)) in
    record {
      sent = h.sent;
      received = h.received;
      sending = h.sending;
      receiving = n;
      whole = h.whole;
      proper = h.proper;
      each = λ j u e. ⊎_elim
          (λ (was : get_elem? (slice_set hands seat (sender v.sent)) j ≡ some u). ⊎_elim
          (λ (t : (j ≡ seat) × (sender v.sent ≡ u)). subst (λ (y : ℕ × Hand). Knows h.sending n h.sent h.received y.0 y.1) (λ i. (sym t.0 i, t.1 i)) (record { sends = λ _. s; receives = λ f. absurd (off f) }))
          (λ (t : (j ≢ seat) × (get_elem? hands j ≡ some u)). record { sends = (h.each j u t.1).sends; receives = λ f. absurd (t.0 (((h.each j u t.1).receives f).0 ∙ sym g.0)) })
          (at_set hands seat j (sender v.sent) u was))
          (λ (t : (j ≡ n) × (receiver v.received ≡ u)). subst (λ (y : ℕ × Hand). Knows h.sending n h.sent h.received y.0 y.1) (λ i. (sym t.0 i, t.1 i)) (record { sends = λ f. absurd (off f); receives = λ _. (refl, g.1) }))
          (at_end (slice_set hands seat (sender v.sent)) (receiver v.received) u j e);
    }

pub merges : (seat : ℕ) (v : Hand) (other : ℕ) (w : Hand) → v ≡ sender v.sent → w ≡ receiver w.received → Merges IsFlow seat v other w (both v.sent w.received) neither
merges seat v other w is is_other items hands h at apart there =
    let mine = h.each seat v at in
    let s = mine.sends (ap (λ (u : Hand). u.sends) is) in
    let at_other : get_elem? hands other ≡ some w = ⊎_elim
    (λ (t : (other ≡ seat) × (both v.sent w.received ≡ w)). absurd (apart t.0))
    (λ (t : (other ≢ seat) × (get_elem? hands other ≡ some w)). t.1)
    (at_set hands seat other (both v.sent w.received) w there) in
    let g = (h.each other w at_other).receives (ap (λ (u : Hand). u.receives) is_other) in
    record {
      sent = h.sent;
      received = h.received;
      sending = h.sending;
      receiving = seat;
      whole = h.whole;
      proper = h.proper;
      each = λ j u e. ⊎_elim
          (λ (t : (j ≡ other) × (neither ≡ u)). subst (λ (y : Hand). Knows h.sending seat h.sent h.received j y) t.1 (record { sends = λ f. absurd (off f); receives = λ f. absurd (off f) }))
          (λ (t : (j ≢ other) × (get_elem? (slice_set hands seat (both v.sent w.received)) j ≡ some u)). ⊎_elim
          (λ (q : (j ≡ seat) × (both v.sent w.received ≡ u)). subst (λ (y : ℕ × Hand). Knows h.sending seat h.sent h.received y.0 y.1) (λ i. (sym q.0 i, q.1 i)) (record { sends = λ _. s; receives = λ _. (refl, g.1) }))
          (λ (q : (j ≢ seat) × (get_elem? hands j ≡ some u)). record { sends = (h.each j u q.1).sends; receives = λ f. absurd (t.0 (((h.each j u q.1).receives f).0 ∙ sym g.0)) })
          (at_set hands seat j (both v.sent w.received) u t.1))
          (at_set (slice_set hands seat (both v.sent w.received)) other j neither u e);
    }

pub compares : (seat : ℕ) (v : Hand) → v ≡ both v.sent v.received → Learns IsFlow seat v (IsBeside v)
compares seat v is items hands h at =
    let mine = h.each seat v at in
    let s = mine.sends (ap (λ (u : Hand). u.sends) is) in
    let g = mine.receives (ap (λ (u : Hand). u.receives) is) in
    (s.1 ∙ h.whole ∙ ap (λ xs. xs ++ items) (sym g.1), subst (λ (xs : List WireMsg). is_proper xs ≡ true) (sym s.1) h.proper)

pub learns : (seat : ℕ) (v : Hand) → Learns IsFlow seat v (λ items. ⊤)
learns seat v items hands h at = tt

-- what was sent may go on, unless it has `Last`
pub goes_on : (xs : List WireMsg) (x : WireMsg) → is_proper xs ≡ true → is_ended xs ≡ false → is_proper (xs ++ x ∷ []) ≡ true
goes_on [] (Frame f) p fresh = refl
goes_on [] Last p fresh = refl
goes_on (Frame f ∷ xs) x p fresh = goes_on xs x p fresh
goes_on (Last ∷ xs) x p fresh = absurd (true≢false fresh)

pub ended_frame : (xs : List WireMsg) (f : List ℕ) → is_ended (xs ++ Frame f ∷ []) ≡ is_ended xs
ended_frame [] f = refl
ended_frame (Frame g ∷ xs) f = ended_frame xs f
ended_frame (Last ∷ xs) f = refl

pub ended_last : (xs : List WireMsg) → is_ended (xs ++ Last ∷ []) ≡ true
ended_last [] = refl
ended_last (Frame g ∷ xs) = ended_last xs
ended_last (Last ∷ xs) = refl

-- `Last` is the end of a proper list
pub last_ends : (xs more : List WireMsg) → is_proper ((xs ++ Last ∷ []) ++ more) ≡ true → more ≡ []
last_ends [] [] p = refl
last_ends [] (y ∷ ys) p = absurd (off p)
last_ends (Frame f ∷ xs) more p = last_ends xs more p
last_ends (Last ∷ []) more p = absurd (off p)
last_ends (Last ∷ z ∷ xs) more p = absurd (off p)

-- one more of what is made of a list
pub one_more : {A B : Type 0} (f : A → B) (all before : List B) (xs : List A) (x : A) → all ≡ before ++ map f xs → all ++ f x ∷ [] ≡ before ++ map f (xs ++ x ∷ [])
one_more f all before xs x is = ap (λ ys. ys ++ f x ∷ []) is ∙ append_assoc before (map f xs) (f x ∷ []) ∙ ap (λ ys. before ++ ys) (sym (map-append f xs (x ∷ [])))

-- after `Last` nothing is under way
ended_alone : (xs more : List WireMsg) → is_proper (xs ++ more) ≡ true → is_ended xs ≡ true → xs ++ more ≡ xs
ended_alone [] more p e = absurd (off e)
ended_alone (Frame f ∷ xs) more p e = ap (λ ys. Frame f ∷ ys) (ended_alone xs more p e)
ended_alone (Last ∷ []) [] p e = refl
ended_alone (Last ∷ []) (y ∷ ys) p e = absurd (off p)
ended_alone (Last ∷ z ∷ xs) more p e = absurd (off p)

pub all_once_ended : (sent received under_way : List WireMsg) → sent ≡ received ++ under_way → is_proper sent ≡ true → is_ended received ≡ true → sent ≡ received
all_once_ended sent received more is p e = is ∙ ended_alone received more (subst (λ (xs : List WireMsg). is_proper xs ≡ true) is p) e

-- the pump may ask for a frame from the wire
pub pump_may : (c : Caller) (e : Event) → c ≡ Pump → is_wire e ≡ true → may c e ≡ true
pump_may c e is wire = ap (λ (n : Caller). may n e) is ∙ wire

-- ---- the way back, whose ends are put together by the hand that receives

pub forks_back : (seat : ℕ) (v : Hand) → v ≡ both v.sent v.received → Forks IsFlow seat v (receiver v.received) (sender v.sent)
forks_back seat v is items hands h at =
    let mine = h.each seat v at in
    let s = mine.sends (ap (λ (u : Hand). u.sends) is) in
    let g = mine.receives (ap (λ (u : Hand). u.receives) is) in
    let n : ℕ = length (slice_set hands seat (receiver v.received)) in
    record {
      sent = h.sent;
      received = h.received;
      sending = n;
      receiving = h.receiving;
      whole = h.whole;
      proper = h.proper;
      each = λ j u e. ⊎_elim
          (λ (was : get_elem? (slice_set hands seat (receiver v.received)) j ≡ some u). ⊎_elim
          (λ (t : (j ≡ seat) × (receiver v.received ≡ u)). subst (λ (y : ℕ × Hand). Knows n h.receiving h.sent h.received y.0 y.1) (λ i. (sym t.0 i, t.1 i)) (record { sends = λ f. absurd (off f); receives = λ _. g }))
          (λ (t : (j ≢ seat) × (get_elem? hands j ≡ some u)). record { sends = λ f. absurd (t.0 (((h.each j u t.1).sends f).0 ∙ sym s.0)); receives = (h.each j u t.1).receives })
          (at_set hands seat j (receiver v.received) u was))
          (λ (t : (j ≡ n) × (sender v.sent ≡ u)). subst (λ (y : ℕ × Hand). Knows n h.receiving h.sent h.received y.0 y.1) (λ i. (sym t.0 i, t.1 i)) (record { sends = λ _. (refl, s.1); receives = λ f. absurd (off f) }))
          (at_end (slice_set hands seat (receiver v.received)) (sender v.sent) u j e);
    }

pub merges_back : (seat : ℕ) (v : Hand) (other : ℕ) (w : Hand) → v ≡ receiver v.received → w ≡ sender w.sent → Merges IsFlow seat v other w (both w.sent v.received) neither
merges_back seat v other w is is_other items hands h at apart there =
    let mine = h.each seat v at in
    let g = mine.receives (ap (λ (u : Hand). u.receives) is) in
    let at_other : get_elem? hands other ≡ some w = ⊎_elim
    (λ (t : (other ≡ seat) × (both w.sent v.received ≡ w)). absurd (apart t.0))
    (λ (t : (other ≢ seat) × (get_elem? hands other ≡ some w)). t.1)
    (at_set hands seat other (both w.sent v.received) w there) in
    let s = (h.each other w at_other).sends (ap (λ (u : Hand). u.sends) is_other) in
    record {
      sent = h.sent;
      received = h.received;
      sending = seat;
      receiving = h.receiving;
      whole = h.whole;
      proper = h.proper;
      each = λ j u e. ⊎_elim
          (λ (t : (j ≡ other) × (neither ≡ u)). subst (λ (y : Hand). Knows seat h.receiving h.sent h.received j y) t.1 (record { sends = λ f. absurd (off f); receives = λ f. absurd (off f) }))
          (λ (t : (j ≢ other) × (get_elem? (slice_set hands seat (both w.sent v.received)) j ≡ some u)). ⊎_elim
          (λ (q : (j ≡ seat) × (both w.sent v.received ≡ u)). subst (λ (y : ℕ × Hand). Knows seat h.receiving h.sent h.received y.0 y.1) (λ i. (sym q.0 i, q.1 i)) (record { sends = λ _. (refl, s.1); receives = λ _. g }))
          (λ (q : (j ≢ seat) × (get_elem? hands j ≡ some u)). record { sends = λ f. absurd (t.0 (((h.each j u q.1).sends f).0 ∙ sym s.0)); receives = (h.each j u q.1).receives })
          (at_set hands seat j (both w.sent v.received) u t.1))
          (at_set (slice_set hands seat (both w.sent v.received)) other j neither u e);
    }

-- ---- boxes

pub one_frame : (xs : List WireMsg) (f : List ℕ) → count_frames (xs ++ Frame f ∷ []) ≡ count_frames xs + 1
one_frame [] f = refl
one_frame (Frame g ∷ xs) f = ap (λ (n : ℕ). n + 1) (one_frame xs f)
one_frame (Last ∷ xs) f = one_frame xs f

pub no_frame : (xs : List WireMsg) → count_frames (xs ++ Last ∷ []) ≡ count_frames xs
no_frame [] = refl
no_frame (Frame g ∷ xs) = ap (λ (n : ℕ). n + 1) (no_frame xs)
no_frame (Last ∷ xs) = no_frame xs

-- a box that came back, and `Last`, which has none
pub box_back : (a b : Hand) (m : WireMsg) (f : List ℕ) → IsReceived a m b → m ≡ Frame f → count_frames b.received ≡ count_frames a.received + 1
box_back a b m f got is = ap (λ (h : Hand). count_frames h.received) got.0 ∙ (ap (λ (x : WireMsg). count_frames (a.received ++ x ∷ [])) is ∙ one_frame a.received f)

pub last_back : (a b : Hand) (m : WireMsg) → IsReceived a m b → m ≡ Last → count_frames b.received ≡ count_frames a.received
last_back a b m got is = ap (λ (h : Hand). count_frames h.received) got.0 ∙ (ap (λ (x : WireMsg). count_frames (a.received ++ x ∷ [])) is ∙ no_frame a.received)

frames_of_both : (xs ys : List WireMsg) → count_frames (xs ++ ys) ≡ count_frames xs + count_frames ys
frames_of_both [] ys = omega arith
frames_of_both (Frame g ∷ xs) ys = let e = frames_of_both xs ys in omega arith
frames_of_both (Last ∷ xs) ys = frames_of_both xs ys

-- what the two ends say of the boxes, put together: those that send and receive are as they were when they were compared
pub all_boxes : (boxes : ℕ) (s s' r u u' g : Hand) (under_way back_way : List WireMsg) → s' ≡ s → u' ≡ u → s'.sent ≡ r.received ++ under_way → g.sent ≡ u'.received ++ back_way
    → boxes + count_frames s.sent ≡ 66 + count_frames u.received → boxes + count_frames under_way + count_frames back_way + count_frames r.received ≡ 66 + count_frames g.sent
all_boxes boxes s s' r u u' g under_way back_way same same_back sent given all =
    let a : count_frames s.sent ≡ count_frames (r.received ++ under_way) = ap (λ (h : Hand). count_frames h.sent) (sym same) ∙ ap count_frames sent in
    let b : count_frames g.sent ≡ count_frames (u'.received ++ back_way) = ap count_frames given in
    let c : count_frames u'.received ≡ count_frames u.received = ap (λ (h : Hand). count_frames h.received) same_back in
    omega (arith, frames_of_both r.received under_way, frames_of_both u'.received back_way)
