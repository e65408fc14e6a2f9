-- A burst with one service more.
use Rattle.std.proofs.Common.{◌≡◌, ℕ, zero, suc, ◌+◌, Bool, true, List, [], ◌∷◌, ◌++◌, Option, Some, None, length, refl, sym, ap, subst, ◌∙◌, add-one, arith}
use Rattle.std.specs.List.{cons_option}
use Rattle.irq_causes.specs.Messages.{both, no_messages}
use Rattle.vf_unit.specs.declared.registers.Queue.{Queue}
use Rattle.device.specs.Events.{Event}
use Rattle.device.specs.declared.event.Event.TheVariants.{Serve}
use Rattle.device.specs.declared.event.Answer.{Answer}
use Rattle.device.specs.Accesses.{accesses_by}
use Rattle.device.specs.Live.{TracedWorld, told_world, AreMet, AreListed}
use Rattle.device.specs.Outcome.{left_by}
use Rattle.device.specs.World.{World, step}
use Rattle.live_run.specs.Bursts.{services, united, live_left, goes_on, may_have_more}
use Rattle.live_run.specs.Frames.{FramesState, with_left, with_frame, with_frames}
use Rattle.live_run.specs.Live.{Noted, live_after, last_of}
use Rattle.live_run.proofs.More.{SoFar, none_yet, one_more, one_more_noted}

-- the burst so far, which is these services
pub record BurstSoFar (shared : Bool) (old : TracedWorld) (room : FramesState) (es : List Event) (now : TracedWorld) (filled : FramesState) (raised : List ℕ) (more : Bool) : Type 0 where
  pub answers : List Answer
  pub run : SoFar shared old es answers now
  pub raised_so : raised ≡ united no_messages answers
  pub left : filled ≡ with_frames room (live_left old.world old.accesses es run.noted)
  pub last : more ≡ may_have_more answers

one_service : (n p : ℕ) (q : Queue) → services (n + 1) p q ≡ services n p q ++ Serve p q ∷ []
one_service n p q = ap (λ (k : ℕ). services k p q) (add-one n) ∙ snoc n
  where
    snoc : (n : ℕ) → Serve p q ∷ services n p q ≡ services n p q ++ Serve p q ∷ []
    snoc zero = refl
    snoc (suc n) = ap (λ es. Serve p q ∷ es) (snoc n)

pub united_more : (raised : List ℕ) (xs : List Answer) (a : Answer) → united raised (xs ++ a ∷ []) ≡ both (united raised xs) a.raised
unfolding united
united_more raised [] a = refl
united_more raised (x ∷ xs) a = united_more (both raised x.raised) xs a

last_more : (xs : List Answer) (a : Answer) → may_have_more (xs ++ a ∷ []) ≡ goes_on a.reply
unfolding may_have_more
last_more [] a = refl
last_more (x ∷ []) a = refl
last_more (x ∷ y ∷ xs) a = last_more (y ∷ xs) a

filled_more : (room : FramesState) (fs : List (List ℕ)) (f : Option (List ℕ)) → with_frames room (fs ++ cons_option f []) ≡ with_left (with_frames room fs) f
filled_more room [] None = refl
filled_more room [] (Some f) = refl
filled_more room (g ∷ fs) f = filled_more (with_frame room g) fs f

cons_option_append : {X : Type 0} (x : Option X) (xs ys : List X) → cons_option x (xs ++ ys) ≡ cons_option x xs ++ ys
cons_option_append None xs ys = refl
cons_option_append (Some x) xs ys = refl

left_more : (w : World) (es : List Event) (b : Noted) (ts : List Noted) (e : Event) (t : Noted) → length ts ≡ length es
    → live_left w b (es ++ e ∷ []) (ts ++ t ∷ []) ≡ live_left w b es ts ++ cons_option (left_by (told_world (last_of b ts) t (live_after w b es ts)) e) []
unfolding live_left live_after last_of
left_more w [] b [] e t same = refl
left_more w [] b (u ∷ ts) e t same = absurd (omega (arith, same))
left_more w (f ∷ es) b [] e t same = absurd (omega (arith, same))
left_more w (f ∷ es) b (u ∷ ts) e t same =
    ap (cons_option (left_by (told_world b u w) f)) (left_more (step (told_world b u w) f).world es u ts e t (omega (arith, same)))
    ∙ cons_option_append (left_by (told_world b u w) f) _ _

pub none_served : (shared : Bool) (old : TracedWorld) (room : FramesState) (raised : List ℕ) → raised ≡ no_messages → BurstSoFar shared old room [] old room raised true
unfolding united live_left may_have_more
none_served shared old room raised none = record { answers = []; run = none_yet shared old [] refl; raised_so = none; left = refl; last = refl }

-- what one service added
pub record Serves (shared : Bool) (now : TracedWorld) (e : Event) (next : TracedWorld) (raised all : List ℕ) (filled after : FramesState) (more : Bool) : Type 0 where
  pub world : next.world ≡ (step (told_world now.accesses next.accesses now.world) e).world
  pub met : AreMet shared now.accesses next.accesses now.world
  pub listed : AreListed (accesses_by (told_world now.accesses next.accesses now.world) e) now.accesses next.accesses
  pub messages : all ≡ both raised (step (told_world now.accesses next.accesses now.world) e).answer.raised
  pub frames : after ≡ with_left filled (left_by (told_world now.accesses next.accesses now.world) e)
  pub on : more ≡ goes_on (step (told_world now.accesses next.accesses now.world) e).answer.reply

served_more : (shared : Bool) (old now next : TracedWorld) (room filled after : FramesState) (es : List Event) (e : Event) (raised all : List ℕ) (more more_after : Bool) → BurstSoFar shared old room es now filled raised more
    → Serves shared now e next raised all filled after more_after → BurstSoFar shared old room (es ++ e ∷ []) next after all more_after
served_more shared old now next room filled after es e raised all more more_after h does =
    let told : World = told_world now.accesses next.accesses now.world in
    let answer : Answer = (step told e).answer in
    record {
      answers = h.answers ++ answer ∷ [];
      run = one_more shared old now next es e h.answers (h.answers ++ answer ∷ []) answer h.run does.world refl does.met does.listed refl;
      raised_so = does.messages ∙ ap (λ (r : List ℕ). both r answer.raised) h.raised_so ∙ sym (united_more no_messages h.answers answer);
      left =
          does.frames
          ∙ ap (λ (r : FramesState). with_left r (left_by told e)) h.left
          ∙ sym (filled_more room (live_left old.world old.accesses es h.run.noted) (left_by told e))
          ∙ (λ j. with_frames room (live_left old.world old.accesses es h.run.noted ++ cons_option (left_by (told_world (h.run.accesses j) next.accesses (h.run.world j)) e) []))
          ∙ ap (with_frames room) (sym (left_more old.world es old.accesses h.run.noted e next.accesses h.run.each))
          ∙ ap (λ (ts : List Noted). with_frames room (live_left old.world old.accesses (es ++ e ∷ []) ts)) (sym (one_more_noted shared old now next es e h.answers (h.answers ++ answer ∷ []) answer h.run does.world refl does.met does.listed refl));
      last = does.on ∙ sym (last_more h.answers answer);
    }

pub one_served : (shared : Bool) (p : ℕ) (q : Queue) (old now next : TracedWorld) (room filled after : FramesState) (n : ℕ) (raised all : List ℕ) (more more_after : Bool) → BurstSoFar shared old room (services n p q) now filled raised more
    → Serves shared now (Serve p q) next raised all filled after more_after → BurstSoFar shared old room (services (n + 1) p q) next after all more_after
one_served shared p q old now next room filled after n raised all more more_after h does =
    subst (λ (es : List Event). BurstSoFar shared old room es next after all more_after) (sym (one_service n p q))
    (served_more shared old now next room filled after (services n p q) (Serve p q) raised all more more_after h does)
