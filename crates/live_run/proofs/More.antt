-- A run with one event more.
use Rattle.std.proofs.Common.{◌≡◌, ℕ, ◌+◌, ◌<◌, Bool, List, [], ◌∷◌, ◌++◌, length, take, get_or, arith, refl, sym, ap, subst, ◌∙◌}
use Rattle.std.proofs.lemmas.List.{length-append, take_more}
use Rattle.device.specs.Events.{Event}
use Rattle.device.specs.declared.event.Answer.{Answer}
use Rattle.device.specs.World.{World, step}
use Rattle.device.specs.Accesses.{accesses_by}
use Rattle.device.specs.Live.{TracedWorld, told_world, AreMet, AreListed}
use Rattle.live_run.specs.Live.{Noted, live_after, live_answers, last_of, AllMet}

after_more : (w : World) (es : List Event) (b : Noted) (ts : List Noted) (e : Event) (t : Noted) → length ts ≡ length es
    → live_after w b (es ++ e ∷ []) (ts ++ t ∷ []) ≡ (step (told_world (last_of b ts) t (live_after w b es ts)) e).world
unfolding live_after last_of
after_more w [] b [] e t same = refl
after_more w [] b (u ∷ ts) e t same = absurd (omega (arith, same))
after_more w (f ∷ es) b [] e t same = absurd (omega (arith, same))
after_more w (f ∷ es) b (u ∷ ts) e t same = after_more (step (told_world b u w) f).world es u ts e t (omega (arith, same))

answers_more : (w : World) (es : List Event) (b : Noted) (ts : List Noted) (e : Event) (t : Noted) → length ts ≡ length es
    → live_answers w b (es ++ e ∷ []) (ts ++ t ∷ []) ≡ live_answers w b es ts ++ (step (told_world (last_of b ts) t (live_after w b es ts)) e).answer ∷ []
unfolding live_after live_answers last_of
answers_more w [] b [] e t same = refl
answers_more w [] b (u ∷ ts) e t same = absurd (omega (arith, same))
answers_more w (f ∷ es) b [] e t same = absurd (omega (arith, same))
answers_more w (f ∷ es) b (u ∷ ts) e t same = ap (λ (rest : List Answer). (step (told_world b u w) f).answer ∷ rest) (answers_more (step (told_world b u w) f).world es u ts e t (omega (arith, same)))

met_more : (shared : Bool) (w : World) (es : List Event) (b : Noted) (ts : List Noted) (e : Event) (t : Noted) → length ts ≡ length es → AllMet shared w b es ts
    → AreMet shared (last_of b ts) t (live_after w b es ts) → AreListed (accesses_by (told_world (last_of b ts) t (live_after w b es ts)) e) (last_of b ts) t → AllMet shared w b (es ++ e ∷ []) (ts ++ t ∷ [])
unfolding live_after last_of AllMet
met_more shared w [] b [] e t same so_far met listed = ((met, listed), tt)
met_more shared w [] b (u ∷ ts) e t same so_far met listed = absurd (omega (arith, same))
met_more shared w (f ∷ es) b [] e t same so_far met listed = absurd (omega (arith, same))
met_more shared w (f ∷ es) b (u ∷ ts) e t same so_far met listed = (so_far.0, met_more shared (step (told_world b u w) f).world es u ts e t (omega (arith, same)) so_far.1 met listed)

last_more : (b : Noted) (ts : List Noted) (t : Noted) → last_of b (ts ++ t ∷ []) ≡ t
unfolding last_of
last_more b [] t = refl
last_more b (u ∷ ts) t = last_more u ts t

-- ---- the run so far

-- the device took the first events
pub record SoFar (shared : Bool) (old : TracedWorld) (events : List Event) (answers : List Answer) (now : TracedWorld) : Type 0 where
  pub noted : List Noted
  pub each : length noted ≡ length events
  pub answered : answers ≡ live_answers old.world old.accesses events noted
  pub world : now.world ≡ live_after old.world old.accesses events noted
  pub accesses : now.accesses ≡ last_of old.accesses noted
  pub met : AllMet shared old.world old.accesses events noted

pub none_yet : (shared : Bool) (old : TracedWorld) (answers : List Answer) → answers ≡ [] → SoFar shared old [] answers old
unfolding live_after live_answers last_of AllMet
none_yet shared old answers empty = record { noted = []; each = refl; answered = empty; world = refl; accesses = refl; met = tt }

pub one_more : (shared : Bool) (old now next : TracedWorld) (es : List Event) (e : Event) (answers all : List Answer) (answer : Answer) → SoFar shared old es answers now
    → next.world ≡ (step (told_world now.accesses next.accesses now.world) e).world → answer ≡ (step (told_world now.accesses next.accesses now.world) e).answer → AreMet shared now.accesses next.accesses now.world
    → AreListed (accesses_by (told_world now.accesses next.accesses now.world) e) now.accesses next.accesses → all ≡ answers ++ answer ∷ [] → SoFar shared old (es ++ e ∷ []) all next
one_more shared old now next es e answers all answer h world answered met listed longer =
    let t = next.accesses in
    let ts = h.noted in
    record {
      noted = ts ++ t ∷ [];
      each = length-append ts (t ∷ []) ∙ ap (λ (n : ℕ). n + 1) h.each ∙ sym (length-append es (e ∷ []));
      answered = longer ∙ (λ i. h.answered i ++ (answered ∙ (λ j. (step (told_world (h.accesses j) t (h.world j)) e).answer)) i ∷ []) ∙ sym (answers_more old.world es old.accesses ts e t h.each);
      world = world ∙ (λ j. (step (told_world (h.accesses j) t (h.world j)) e).world) ∙ sym (after_more old.world es old.accesses ts e t h.each);
      accesses = sym (last_more old.accesses ts t);
      met = met_more shared old.world es old.accesses ts e t h.each h.met
          (subst (λ (d : TracedWorld). AreMet shared d.accesses t d.world) was met)
          (subst (λ (d : TracedWorld). AreListed (accesses_by (told_world d.accesses t d.world) e) d.accesses t) was listed);
    }
  where
    was : now ≡ record { world = live_after old.world old.accesses es h.noted; accesses = last_of old.accesses h.noted }
    was = λ i. record { world = h.world i; accesses = h.accesses i }

-- the accesses by then are noted behind those before
pub one_more_noted : (shared : Bool) (old now next : TracedWorld) (es : List Event) (e : Event) (answers all : List Answer) (answer : Answer) (h : SoFar shared old es answers now)
    (world : next.world ≡ (step (told_world now.accesses next.accesses now.world) e).world) (answered : answer ≡ (step (told_world now.accesses next.accesses now.world) e).answer) (met : AreMet shared now.accesses next.accesses now.world)
    (listed : AreListed (accesses_by (told_world now.accesses next.accesses now.world) e) now.accesses next.accesses) (longer : all ≡ answers ++ answer ∷ [])
    → (one_more shared old now next es e answers all answer h world answered met listed longer).noted ≡ h.noted ++ next.accesses ∷ []
unfolding one_more
one_more_noted shared old now next es e answers all answer h world answered met listed longer = refl

-- by the place of the event
pub next_one : (shared : Bool) (old now next : TracedWorld) (es : List Event) (i : ℕ) (e : Event) (answers all : List Answer) (answer : Answer) → i < length es → e ≡ get_or es i e → SoFar shared old (take i es) answers now
    → next.world ≡ (step (told_world now.accesses next.accesses now.world) e).world → answer ≡ (step (told_world now.accesses next.accesses now.world) e).answer → AreMet shared now.accesses next.accesses now.world
    → AreListed (accesses_by (told_world now.accesses next.accesses now.world) e) now.accesses next.accesses → all ≡ answers ++ answer ∷ [] → SoFar shared old (take (i + 1) es) all next
next_one shared old now next es i e answers all answer below is h world answered met listed longer =
    subst (λ (fs : List Event). SoFar shared old fs all next) (sym (take_more es i e below ∙ ap (λ (f : Event). take i es ++ f ∷ []) (sym is)))
    (one_more shared old now next (take i es) e answers all answer h world answered met listed longer)
