-- A run while guests write their memories, without the own events of a group that the settings keep apart.
use Rattle.std.proofs.Common.{◌≡◌, ℕ, ◌<◌, ◌≤◌, ◌⊎◌, inl, inr, Bool, true, false, List, [], ◌∷◌, ◌++◌, length, append-nil, arith, refl, sym, ap, subst, ◌∙◌}
use Rattle.std.proofs.Math.Nat.{suc-ne-zero}
use Rattle.std.proofs.lemmas.Bool.{cases_lt}
use Rattle.std.proofs.lemmas.List.{append_assoc, get_or_past}
use Rattle.std.proofs.lemmas.List.FromFn.{get_or-map-range_with_len, length-map-range_with_len}
use Rattle.std.specs.Prelude.{if◌then◌else◌}
use Rattle.std.specs.List.{cons_option}
use Rattle.guest_memory.specs.Memory.{Write}
use Rattle.live_memory.specs.Trace.{since, reads}
use Rattle.live_memory.proofs.Accesses.{since_none}
use Rattle.device.specs.Events.{Event}
use Rattle.device.specs.World.{World, step, answers}
use Rattle.device.specs.Accesses.{accesses_by, run_accesses}
use Rattle.device.specs.Lone.{seen_of, seen_by}
use Rattle.device.specs.Live.{trace_of, told_world, AreListed}
use Rattle.device.specs.Erased.{is_groups, erase, StaysApart, IsConfined, AlikeOutside, AnsweredAlike, answered_in}
use Rattle.device.proofs.NextSettings.{settings_stepped}
use Rattle.device.proofs.LiveLemmas.{length_told, told_world_none}
use Rattle.device.proofs.Confinement.{confined}
use Rattle.device.proofs.AlikeSteps.{alike_groups, alike_others}
use Rattle.device.proofs.WithoutGroup.{seen_without, accesses_without}
use Rattle.device.proofs.ErasedLive.{alike_told, untouched_outside}
use Rattle.live_run.specs.Live.{Noted, live_after, live_answers, last_of, AllMet}
use Rattle.live_run.specs.Erased.{outside, trace_unless, erase_noted, answers_of, AllAnsweredAlike, live_accesses}
use Rattle.live_run.proofs.Runs.{same_count, cons_append}

-- what function p sees of two runs, what is done with its memory, and the worlds after them
pub record SameOutside (group : ℕ → Bool) (p : ℕ) (w : World) (b : Noted) (es : List Event) (ts : List Noted) (v : World) (c : Noted) (fs : List Event) (us : List Noted) : Type 0 where
  pub seen : seen_by p es (live_answers w b es ts) ≡ seen_by p fs (live_answers v c fs us)
  pub accesses : live_accesses p w b es ts ≡ live_accesses p v c fs us
  pub worlds : AlikeOutside group (live_after w b es ts) (live_after v c fs us)

few_met : (b t : Noted) (w : World) → length w.functions ≤ 64 → length (told_world b t w).functions ≤ 64
few_met b t w few = subst (λ (n : ℕ). n ≤ 64) (sym (length_told b t w.functions)) few

there_met : (b t : Noted) (w : World) (p : ℕ) → p < length w.functions → p < length (told_world b t w).functions
there_met b t w p below = subst (λ (n : ℕ). p < n) (sym (length_told b t w.functions)) below

-- ---- an event of the group's own

-- it accesses no memory outside, so the world that it met is alike to one in which no memory answered anything
alike_unmet : (group : ℕ → Bool) (w v : World) (b t c : Noted) (e : Event) → length w.functions ≤ 64 → is_groups group e ≡ true → StaysApart group w.settings (e ∷ []) → AreListed (accesses_by (told_world b t w) e) b t → AlikeOutside group w v → AlikeOutside group (told_world b t w) v
alike_unmet group w v b t c e few is stays listed a =
    subst (AlikeOutside group (told_world b t w)) (told_world_none c c v (λ r. refl))
    (alike_told group b t c c w v few (λ r small out. ap reads (ap (since (trace_of b r)) (untouched_outside group r b t w e listed small few out is stays) ∙ since_none (trace_of b r) ∙ sym (since_none (trace_of c r)))) a)

on_groups : (group : ℕ → Bool) (p : ℕ) (w v : World) (e : Event) (es : List Event) (b t c : Noted) (ts us : List Noted) → p < length w.functions → length w.functions ≤ 64 → group p ≡ false → is_groups group e ≡ true
    → StaysApart group w.settings (e ∷ []) → AreListed (accesses_by (told_world b t w) e) b t → AlikeOutside group w v
    → (AlikeOutside group (step (told_world b t w) e).world v → SameOutside group p (step (told_world b t w) e).world t es ts v c (erase group es) us)
    → SameOutside group p w b (e ∷ es) (t ∷ ts) v c (erase group (e ∷ es)) us
unfolding live_after live_answers live_accesses
on_groups group p w v e es b t c ts us below few out is stays listed a rest =
    let u : World = told_world b t w in
    let met : AlikeOutside group u v = alike_unmet group w v b t c e few is stays listed a in
    let none : IsConfined group u (e ∷ []) = confined group u (e ∷ []) (few_met b t w few) stays in
    let later : SameOutside group p (step u e).world t es ts v c (erase group es) us = rest (alike_groups group u v e (few_met b t w few) met is (none.0 is)) in
    let sight : cons_option (seen_of p e (step u e).answer) [] ≡ [] =
    seen_without group p u v (e ∷ []) (there_met b t w p below) (few_met b t w few) out met none
    ∙ (λ i. seen_by p (if is i then [] else e ∷ []) (answers v (if is i then [] else e ∷ []))) in
    let made : accesses_by u e p ++ [] ≡ [] =
    accesses_without group p u v (e ∷ []) (there_met b t w p below) (few_met b t w few) out met none
    ∙ (λ i. run_accesses v (if is i then [] else e ∷ []) p) in
    subst (λ (fs : List Event). SameOutside group p w b (e ∷ es) (t ∷ ts) v c fs us) (λ i. if sym is i then erase group es else e ∷ erase group es) (record {
      seen = cons_append (seen_of p e (step u e).answer) (seen_by p es (live_answers (step u e).world t es ts)) ∙ (λ i. sight i ++ later.seen i);
      accesses = λ i. (sym (append-nil (accesses_by u e p)) ∙ made) i ++ later.accesses i;
      worlds = later.worlds;
    })

-- ---- any other event

on_others : (group : ℕ → Bool) (p : ℕ) (w v : World) (e : Event) (es : List Event) (b t c k : Noted) (ts us : List Noted) → p < length w.functions → length w.functions ≤ 64 → group p ≡ false → is_groups group e ≡ false
    → StaysApart group w.settings (e ∷ []) → AlikeOutside group w v → AnsweredAlike group b t c k
    → (AlikeOutside group (step (told_world b t w) e).world (step (told_world c k v) e).world → SameOutside group p (step (told_world b t w) e).world t es ts (step (told_world c k v) e).world k (erase group es) us)
    → SameOutside group p w b (e ∷ es) (t ∷ ts) v c (erase group (e ∷ es)) (k ∷ us)
unfolding live_after live_answers live_accesses
on_others group p w v e es b t c k ts us below few out is stays a answered rest =
    let u : World = told_world b t w in
    let x : World = told_world c k v in
    let met : AlikeOutside group u x = alike_told group b t c k w v few answered a in
    let none : IsConfined group u (e ∷ []) = confined group u (e ∷ []) (few_met b t w few) stays in
    let later : SameOutside group p (step u e).world t es ts (step x e).world k (erase group es) us = rest (alike_others group u x e (few_met b t w few) met is) in
    let sight : cons_option (seen_of p e (step u e).answer) [] ≡ cons_option (seen_of p e (step x e).answer) [] =
    seen_without group p u x (e ∷ []) (there_met b t w p below) (few_met b t w few) out met none
    ∙ (λ i. seen_by p (if is i then [] else e ∷ []) (answers x (if is i then [] else e ∷ []))) in
    let made : accesses_by u e p ++ [] ≡ accesses_by x e p ++ [] =
    accesses_without group p u x (e ∷ []) (there_met b t w p below) (few_met b t w few) out met none
    ∙ (λ i. run_accesses x (if is i then [] else e ∷ []) p) in
    subst (λ (fs : List Event). SameOutside group p w b (e ∷ es) (t ∷ ts) v c fs (k ∷ us)) (λ i. if sym is i then erase group es else e ∷ erase group es) (record {
      seen = cons_append (seen_of p e (step u e).answer) (seen_by p es (live_answers (step u e).world t es ts)) ∙ (λ i. sight i ++ later.seen i)
          ∙ sym (cons_append (seen_of p e (step x e).answer) (seen_by p (erase group es) (live_answers (step x e).world k (erase group es) us)));
      accesses = λ i. (sym (append-nil (accesses_by u e p)) ∙ made ∙ append-nil (accesses_by x e p)) i ++ later.accesses i;
      worlds = later.worlds;
    })

-- ---- the whole run

abbrev first_of : List (List Write) → List Write
first_of [] = []
first_of (a ∷ more) = a

abbrev rest_of : List (List Write) → List (List Write)
rest_of [] = []
rest_of (a ∷ more) = more

-- by the rest of the run, from any world that is alike then
run_on : (group : ℕ → Bool) (p : ℕ) (w v : World) (e : Event) (es : List Event) (b t c : Noted) (ts us : List Noted) (mine : Bool) → is_groups group e ≡ mine → p < length w.functions → length w.functions ≤ 64 → p < 64 → group p ≡ false
    → StaysApart group w.settings (e ∷ []) → AreListed (accesses_by (told_world b t w) e) b t → AlikeOutside group w v → AllAnsweredAlike group b (e ∷ es) (t ∷ ts) c (erase group (e ∷ es)) us
    → ((x : World) (k : Noted) (more : List Noted) → AlikeOutside group (step (told_world b t w) e).world x → AllAnsweredAlike group t es ts k (erase group es) more → SameOutside group p (step (told_world b t w) e).world t es ts x k (erase group es) more)
    → SameOutside group p w b (e ∷ es) (t ∷ ts) v c (erase group (e ∷ es)) us
unfolding answers_of
run_on group p w v e es b t c ts us true is below few small out stays listed a answered rest =
    on_groups group p w v e es b t c ts us below few out is stays listed a (λ next. rest v c us next (λ r low there.
    (λ i. if sym is i then answers_of group r t es ts else answered_in b t r ∷ answers_of group r t es ts)
    ∙ answered r low there
    ∙ (λ i. answers_of group r c (if is i then erase group es else e ∷ erase group es) us)))
run_on group p w v e es b t c ts [] false is below few small out stays listed a answered rest =
    absurd (suc-ne-zero _ (ap length (
    (λ i. if sym is i then answers_of group p t es ts else answered_in b t p ∷ answers_of group p t es ts)
    ∙ answered p small out
    ∙ (λ i. answers_of group p c (if is i then erase group es else e ∷ erase group es) []))))
run_on group p w v e es b t c ts (k ∷ us) false is below few small out stays listed a answered rest =
    on_others group p w v e es b t c k ts us below few out is stays a (λ r low there. ap first_of (both r low there)) (λ next. rest (step (told_world c k v) e).world k us next (λ r low there. ap rest_of (both r low there)))
  where
    both : (r : ℕ) → r < 64 → group r ≡ false → answered_in b t r ∷ answers_of group r t es ts ≡ answered_in c k r ∷ answers_of group r k (erase group es) us
    both r low there =
        (λ i. if sym is i then answers_of group r t es ts else answered_in b t r ∷ answers_of group r t es ts)
        ∙ answered r low there
        ∙ (λ i. answers_of group r c (if is i then erase group es else e ∷ erase group es) (k ∷ us))
        ∙ (λ i. if is i then answers_of group r k (erase group es) us else answered_in c k r ∷ answers_of group r k (erase group es) us)

pub run_without : (group : ℕ → Bool) (shared : Bool) (p : ℕ) (w v : World) (es : List Event) (b c : Noted) (ts us : List Noted) → p < length w.functions → length w.functions ≤ 64 → group p ≡ false → AlikeOutside group w v
    → AllMet shared w b es ts → length ts ≡ length es → StaysApart group w.settings es → AllAnsweredAlike group b es ts c (erase group es) us → SameOutside group p w b es ts v c (erase group es) us
unfolding live_after live_answers live_accesses AllMet
run_without group shared p w v [] b c ts us below few out a met same stays answered = record { seen = refl; accesses = refl; worlds = a }
run_without group shared p w v (e ∷ es) b c [] us below few out a met same stays answered = absurd (omega (arith, same))
run_without group shared p w v (e ∷ es) b c (t ∷ ts) us below few out a met same stays answered =
    let count = same_count w b t e in
    run_on group p w v e es b t c ts us (is_groups group e) refl below few (omega (arith, below, few)) out (stays.0, tt) met.0.1 a answered
    (λ x k more next after. run_without group shared p (step (told_world b t w) e).world x es t k ts more
    (subst (λ (n : ℕ). p < n) (sym count) below) (subst (λ (n : ℕ). n ≤ 64) (sym count) few) out next met.1 (omega (arith, same))
    (subst (λ s. StaysApart group s es) (sym (settings_stepped (told_world b t w) e)) stays.1) after)

-- ---- what was noted without the group's events

pub trace_outside : (group : ℕ → Bool) (t : Noted) (r : ℕ) → group r ≡ false → trace_of (outside group t) r ≡ trace_of t r
unfolding outside
trace_outside group t r out = at (cases_lt r (length t))
  where
    at : (r < length t) ⊎ (length t ≤ r) → trace_of (outside group t) r ≡ trace_of t r
    at (inl inside) = get_or-map-range_with_len (trace_unless group t) 0 (length t) r r [] inside (omega arith) ∙ (λ i. if out i then [] else trace_of t r)
    at (inr past) = get_or_past (outside group t) r [] (subst (λ (n : ℕ). n ≤ r) (sym (length-map-range_with_len (trace_unless group t) 0 (length t))) past) ∙ sym (get_or_past t r [] past)

-- what was done before counts only for the first of them
answers_from : (group : ℕ → Bool) (r : ℕ) (es : List Event) (b c : Noted) (ts : List Noted) → trace_of b r ≡ trace_of c r → answers_of group r b es ts ≡ answers_of group r c es ts
unfolding answers_of
answers_from group r [] b c ts same = refl
answers_from group r (e ∷ es) b c [] same = refl
answers_from group r (e ∷ es) b c (t ∷ ts) same = λ i. if is_groups group e then answers_of group r t es ts else reads (since (same i) (trace_of t r)) ∷ answers_of group r t es ts

noted_on : (group : ℕ → Bool) (r : ℕ) (e : Event) (es : List Event) (b t : Noted) (ts : List Noted) (mine : Bool) → is_groups group e ≡ mine → group r ≡ false → (is_groups group e ≡ true → trace_of t r ≡ trace_of b r)
    → answers_of group r t es ts ≡ answers_of group r (outside group t) (erase group es) (erase_noted group es ts)
    → answers_of group r b (e ∷ es) (t ∷ ts) ≡ answers_of group r (outside group b) (erase group (e ∷ es)) (erase_noted group (e ∷ es) (t ∷ ts))
unfolding answers_of erase_noted
noted_on group r e es b t ts true is out still rest =
    (λ i. if is i then answers_of group r t es ts else answered_in b t r ∷ answers_of group r t es ts)
    ∙ rest
    ∙ answers_from group r (erase group es) (outside group t) (outside group b) (erase_noted group es ts) (trace_outside group t r out ∙ still is ∙ sym (trace_outside group b r out))
    ∙ (λ i. answers_of group r (outside group b) (if sym is i then erase group es else e ∷ erase group es) (if sym is i then erase_noted group es ts else outside group t ∷ erase_noted group es ts))
noted_on group r e es b t ts false is out still rest =
    (λ i. if is i then answers_of group r t es ts else answered_in b t r ∷ answers_of group r t es ts)
    ∙ (λ i. reads (since (sym (trace_outside group b r out) i) (sym (trace_outside group t r out) i)) ∷ rest i)
    ∙ (λ i. if sym is i then answers_of group r (outside group t) (erase group es) (erase_noted group es ts) else answered_in (outside group b) (outside group t) r ∷ answers_of group r (outside group t) (erase group es) (erase_noted group es ts))
    ∙ (λ i. answers_of group r (outside group b) (if sym is i then erase group es else e ∷ erase group es) (if sym is i then erase_noted group es ts else outside group t ∷ erase_noted group es ts))

pub noted_without : (group : ℕ → Bool) (shared : Bool) (w : World) (es : List Event) (b : Noted) (ts : List Noted) → length w.functions ≤ 64 → AllMet shared w b es ts → length ts ≡ length es → StaysApart group w.settings es
    → AllAnsweredAlike group b es ts (outside group b) (erase group es) (erase_noted group es ts)
unfolding AllMet answers_of erase_noted
noted_without group shared w [] b ts few met same stays = λ r small out. refl
noted_without group shared w (e ∷ es) b [] few met same stays = absurd (omega (arith, same))
noted_without group shared w (e ∷ es) b (t ∷ ts) few met same stays = λ r small out.
    noted_on group r e es b t ts (is_groups group e) refl out (λ is. untouched_outside group r b t w e met.0.1 small few out is (stays.0, tt))
    (noted_without group shared (step (told_world b t w) e).world es t ts (subst (λ (n : ℕ). n ≤ 64) (sym (same_count w b t e)) few) met.1 (omega (arith, same))
    (subst (λ s. StaysApart group s es) (sym (settings_stepped (told_world b t w) e)) stays.1) r small out)

-- ---- a run that is met

-- the accesses that were made to a memory are those of its events
pub made_in_run : (shared : Bool) (p : ℕ) (w : World) (es : List Event) (b : Noted) (ts : List Noted) → AllMet shared w b es ts → length ts ≡ length es → trace_of (last_of b ts) p ≡ trace_of b p ++ live_accesses p w b es ts
unfolding last_of AllMet live_accesses
made_in_run shared p w [] b [] met same = sym (append-nil (trace_of b p))
made_in_run shared p w [] b (t ∷ ts) met same = absurd (omega (arith, same))
made_in_run shared p w (e ∷ es) b [] met same = absurd (omega (arith, same))
made_in_run shared p w (e ∷ es) b (t ∷ ts) met same =
    made_in_run shared p (step (told_world b t w) e).world es t ts met.1 (omega (arith, same))
    ∙ (λ i. met.0.1 p i ++ live_accesses p (step (told_world b t w) e).world t es ts)
    ∙ append_assoc (trace_of b p) (accesses_by (told_world b t w) e p) (live_accesses p (step (told_world b t w) e).world t es ts)

pub same_count_after : (w : World) (es : List Event) (b : Noted) (ts : List Noted) → length (live_after w b es ts).functions ≡ length w.functions
unfolding live_after
same_count_after w [] b ts = refl
same_count_after w (e ∷ es) b [] = refl
same_count_after w (e ∷ es) b (t ∷ ts) = same_count_after (step (told_world b t w) e).world es t ts ∙ same_count w b t e
