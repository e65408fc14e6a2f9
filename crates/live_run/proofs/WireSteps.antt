-- A burst with one frame more.
use Rattle.std.proofs.Common.{◌≡◌, ℕ, ◌+◌, ◌<◌, ◌≤◌, Bool, true, false, List, [], ◌∷◌, ◌++◌, length, map, take, get_or, append-nil, arith, refl, sym, ap, subst, ◌∙◌}
use Rattle.std.specs.Prelude.{filter, if◌then◌else◌}
use Rattle.std.specs.Int.{from_bool}
use Rattle.std.proofs.lemmas.List.{map-append, take_more}
use Rattle.std.proofs.lemmas.List.Elements.{filter-append}
use Rattle.wire_frame.specs.Frame.{is_frame}
use Rattle.irq_causes.specs.Messages.{both, no_messages}
use Rattle.device.specs.Events.{Event}
use Rattle.device.specs.declared.event.Answer.{Answer}
use Rattle.device.specs.declared.event.Event.TheVariants.{Wire}
use Rattle.device.specs.Live.{TracedWorld, told_world}
use Rattle.device.specs.Replies.{is_done}
use Rattle.device.specs.World.{step}
use Rattle.live_run.specs.Arrivals.{IsArrival, arrivals, cut, cuts, how_many_taken}
use Rattle.live_run.specs.Bursts.{united}
use Rattle.live_run.proofs.BurstSteps.{united_more}
use Rattle.live_run.proofs.More.{SoFar, none_yet, one_more}

-- ---- one more lies behind the others

-- where the next begins
abbrev pub begins : ℕ → List ℕ → ℕ
begins start [] = start
begins start (end ∷ ends) = begins end ends

pub begins_more : (start : ℕ) (ends : List ℕ) (end : ℕ) → begins start (ends ++ end ∷ []) ≡ end
begins_more start [] end = refl
begins_more start (e ∷ ends) end = begins_more e ends end

cuts_more : (start : ℕ) (ends bytes : List ℕ) (end : ℕ) → cuts start (ends ++ end ∷ []) bytes ≡ cuts start ends bytes ++ cut bytes (begins start ends) end ∷ []
unfolding cuts
cuts_more start [] bytes end = refl
cuts_more start (e ∷ ends) bytes end = ap (λ fs. cut bytes start e ∷ fs) (cuts_more e ends bytes end)

-- those that are frames come from the wire
abbrev came : List (List ℕ) → List Event
came fs = map Wire (filter (is_frame 9018) fs)

came_more : (fs : List (List ℕ)) (f : List ℕ) → came (fs ++ f ∷ []) ≡ came fs ++ came (f ∷ [])
came_more fs f =
    ap (map Wire) (filter-append (is_frame 9018) fs (f ∷ []))
    ∙ map-append Wire (filter (is_frame 9018) fs) (filter (is_frame 9018) (f ∷ []))

came_one : (f : List ℕ) → is_frame 9018 f ≡ true → came (f ∷ []) ≡ Wire f ∷ []
came_one f is = rw is refl

came_none : (f : List ℕ) → is_frame 9018 f ≡ false → came (f ∷ []) ≡ []
came_none f is = rw is refl

arrivals_more : (ends bytes : List ℕ) (end start : ℕ) → start ≡ begins 0 ends → arrivals (ends ++ end ∷ []) bytes ≡ arrivals ends bytes ++ came (cut bytes start end ∷ [])
unfolding arrivals
arrivals_more ends bytes end start at =
    ap came (cuts_more 0 ends bytes end)
    ∙ came_more (cuts 0 ends bytes) (cut bytes (begins 0 ends) end)
    ∙ ap (λ (s : ℕ). came (cuts 0 ends bytes) ++ came (cut bytes s end ∷ [])) (sym at)

-- ---- the burst so far

pub record WireSoFar (shared : Bool) (old : TracedWorld) (ends bytes : List ℕ) (now : TracedWorld) (start : ℕ) (raised : List ℕ) (taken : ℕ) : Type 0 where
  pub answers : List Answer
  pub run : SoFar shared old (arrivals ends bytes) answers now
  pub at : start ≡ begins 0 ends
  pub raised_so : raised ≡ united no_messages answers
  pub taken_so : taken ≡ how_many_taken answers

pub none_came : (shared : Bool) (old : TracedWorld) (bytes raised : List ℕ) → raised ≡ no_messages → WireSoFar shared old [] bytes old 0 raised 0
unfolding arrivals cuts united how_many_taken
none_came shared old bytes raised none = record { answers = []; run = none_yet shared old [] refl; at = refl; raised_so = none; taken_so = refl }

count_more : (xs : List Answer) (a : Answer) → how_many_taken (xs ++ a ∷ []) ≡ how_many_taken xs + (if is_done a.reply then 1 else 0)
unfolding how_many_taken
count_more [] a = omega arith
count_more (x ∷ xs) a = omega (arith, count_more xs a)

-- one more that is a frame
one_arrived : (shared : Bool) (old now next : TracedWorld) (ends bytes : List ℕ) (start end : ℕ) (raised all : List ℕ) (taken : ℕ) (is_taken : Bool) → WireSoFar shared old ends bytes now start raised taken
    → is_frame 9018 (cut bytes start end) ≡ true → IsArrival shared (cut bytes start end) now next raised all is_taken
    → WireSoFar shared old (ends ++ end ∷ []) bytes next end all (taken + (if is_taken then 1 else 0))
one_arrived shared old now next ends bytes start end raised all taken is_taken h is does =
    let frame : List ℕ = cut bytes start end in
    let answer : Answer = (step (told_world now.accesses next.accesses now.world) (Wire frame)).answer in
    record {
      answers = h.answers ++ answer ∷ [];
      run = subst (λ (es : List Event). SoFar shared old es (h.answers ++ answer ∷ []) next)
          (sym (arrivals_more ends bytes end start h.at ∙ ap (λ (es : List Event). arrivals ends bytes ++ es) (came_one frame is)))
          (one_more shared old now next (arrivals ends bytes) (Wire frame) h.answers (h.answers ++ answer ∷ []) answer h.run does.world refl does.met does.listed refl);
      at = sym (begins_more 0 ends end);
      raised_so = does.messages ∙ ap (λ (r : List ℕ). both r answer.raised) h.raised_so ∙ sym (united_more no_messages h.answers answer);
      taken_so =
          (λ i. h.taken_so i + (if does.taken i then 1 else 0))
          ∙ sym (count_more h.answers answer);
    }

-- one more that is none
none_arrived : (shared : Bool) (old now next : TracedWorld) (ends bytes : List ℕ) (start end : ℕ) (raised all : List ℕ) (taken : ℕ) (is_taken : Bool) → WireSoFar shared old ends bytes now start raised taken
    → is_frame 9018 (cut bytes start end) ≡ false → next ≡ now → all ≡ raised → is_taken ≡ false
    → WireSoFar shared old (ends ++ end ∷ []) bytes next end all (taken + (if is_taken then 1 else 0))
none_arrived shared old now next ends bytes start end raised all taken is_taken h is stays silent passed =
    record {
      answers = h.answers;
      run = subst (λ (es : List Event). SoFar shared old es h.answers next)
          (sym (arrivals_more ends bytes end start h.at ∙ ap (λ (es : List Event). arrivals ends bytes ++ es) (came_none (cut bytes start end) is) ∙ append-nil (arrivals ends bytes)))
          (subst (λ (d : TracedWorld). SoFar shared old (arrivals ends bytes) h.answers d) (sym stays) h.run);
      at = sym (begins_more 0 ends end);
      raised_so = silent ∙ h.raised_so;
      taken_so = (λ i. h.taken_so i + (if passed i then 1 else 0)) ∙ omega arith;
    }

-- what one more did, whether it is a frame or none
pub record Comes (shared : Bool) (frame : List ℕ) (now next : TracedWorld) (raised all : List ℕ) (is_taken : Bool) : Type 0 where
  pub came : is_frame 9018 frame ≡ true → IsArrival shared frame now next raised all is_taken
  pub stays : is_frame 9018 frame ≡ false → next ≡ now
  pub silent : is_frame 9018 frame ≡ false → all ≡ raised
  pub passed : is_frame 9018 frame ≡ false → is_taken ≡ false

one_came : (shared : Bool) (old now next : TracedWorld) (ends bytes : List ℕ) (start end : ℕ) (raised all : List ℕ) (taken : ℕ) (is_taken : Bool) → WireSoFar shared old ends bytes now start raised taken
    → Comes shared (cut bytes start end) now next raised all is_taken
    → WireSoFar shared old (ends ++ end ∷ []) bytes next end all (taken + (if is_taken then 1 else 0))
one_came shared old now next ends bytes start end raised all taken is_taken h does = go (is_frame 9018 (cut bytes start end)) refl
  where
    go : (b : Bool) → is_frame 9018 (cut bytes start end) ≡ b → WireSoFar shared old (ends ++ end ∷ []) bytes next end all (taken + (if is_taken then 1 else 0))
    go true is = one_arrived shared old now next ends bytes start end raised all taken is_taken h is (does.came is)
    go false is = none_arrived shared old now next ends bytes start end raised all taken is_taken h is (does.stays is) (does.silent is) (does.passed is)

pub at_most_one : (b : Bool) → from_bool b ≤ 1
at_most_one true = omega arith
at_most_one false = omega arith

-- by the place of its end
pub next_came : (shared : Bool) (old now next : TracedWorld) (ends bytes : List ℕ) (i start : ℕ) (raised all frame : List ℕ) (taken more : ℕ) (is_taken : Bool) → i < length ends → frame ≡ cut bytes start (get_or ends i 0) → more ≡ from_bool is_taken
    → WireSoFar shared old (take i ends) bytes now start raised taken → Comes shared frame now next raised all is_taken
    → WireSoFar shared old (take (i + 1) ends) bytes next (get_or ends i 0) all (taken + more)
next_came shared old now next ends bytes i start raised all frame taken more is_taken below is counts h does =
    subst (λ (n : ℕ). WireSoFar shared old (take (i + 1) ends) bytes next (get_or ends i 0) all (taken + n)) (sym (counts ∙ one_or_none is_taken))
    (subst (λ (es : List ℕ). WireSoFar shared old es bytes next (get_or ends i 0) all (taken + (if is_taken then 1 else 0)))
    (sym (take_more ends i 0 below))
    (one_came shared old now next (take i ends) bytes start (get_or ends i 0) raised all taken is_taken h (subst (λ (f : List ℕ). Comes shared f now next raised all is_taken) is does)))
  where
    one_or_none : (b : Bool) → from_bool b ≡ (if b then 1 else 0)
    one_or_none true = refl
    one_or_none false = refl
