-- Step by step, what a function shows, what it is and what is done with its memory are those of the lone function.
use Rattle.std.proofs.Common.{◌≡◌, ℕ, ◌<◌, ◌≤◌, Bool, true, false, List, [], ◌∷◌, ◌++◌, append-nil, Option, Some, None, refl, sym, ap, subst, ◌∙◌, arith, eqb, eqb-true, length, length-set, lt-ltb, map, get_or-set_same, get_or-set_other}
use Rattle.std.proofs.lemmas.Bool.{eqb-false, lt-leb}
use Rattle.std.specs.Prelude.{nat_le, nat_lt, if◌then◌else◌}
use Rattle.std.specs.List.{cons_option}
use Rattle.std.specs.Option.{option_map}
use Rattle.wire_frame.specs.declared.fault.Fault.{Fault}
use Rattle.vf_unit.specs.Unit.{Function, Closed, Open, other_raised, size_of}
use Rattle.vf_unit.specs.Function.{initial_with}
use Rattle.vf_unit.specs.Guests.{moved_to}
use Rattle.pool_filter.specs.Own.{own}
use Rattle.device.specs.Events.{Event}
use Rattle.device.specs.World.{World, function_of, with_function, step, world_after}
use Rattle.device.specs.Guests.{is_vacant, attach_refusal, detached, replace_refusal, prompted, prompt_messages}
use Rattle.live_memory.specs.Trace.{Access}
use Rattle.device.specs.Accesses.{accesses_by}
use Rattle.device.specs.Lone.{Item, Observation, Lone, lone_of, kept, keep, seen_of}
use Rattle.device.specs.LoneAccesses.{made_by, lone_made}
use Rattle.device.proofs.AccessSteps.{accesses_follow}
use Rattle.device.proofs.Steps.{Follows, step_follows}
use Rattle.device.proofs.Shape.{step_shape}
use Rattle.device.specs.Across.{Step, Happens, Comes, Goes, Replaces, Prompts, came, replaced, stepped, after_steps, Sight, Saw, Came, Went, Got, Prompted, sight_in, sights, accesses_in, all_accesses, GuestItem, Kept, Attach, Detach, Replace, Prompt, kept_in, keep_steps, lone_refusal, came_alone, replace_refusal_alone, replaced_alone, moved_on, shown_on, made_on, lone_end, lone_sights, lone_accesses}

-- ---- as many functions after a step

came_count : (w : World) (q : ℕ) (memory : List ℕ) (r : Option Fault) → length (came w q memory r).functions ≡ length w.functions
came_count w q memory None = length-set w.functions q (Open (initial_with w.profile.offloads memory))
came_count w q memory (Some fault) = refl

went_count : (w : World) (q : ℕ) (vacant : Bool) → is_vacant w q ≡ vacant → length (detached w q).functions ≡ length w.functions
went_count w q true is = rw is refl
went_count w q false is = rw is (length-set w.functions q (Closed 0))

replaced_count : (w : World) (q : ℕ) (memory : List ℕ) (r : Option Fault) → length (replaced w q memory r).functions ≡ length w.functions
replaced_count w q memory None = length-set w.functions q (moved_to (function_of q w) memory)
replaced_count w q memory (Some fault) = refl

prompted_count : (w : World) (q : ℕ) (is_there : Bool) → length (if is_there then with_function w q (other_raised (function_of q w)).state else w).functions ≡ length w.functions
prompted_count w q true = length-set w.functions q (other_raised (function_of q w)).state
prompted_count w q false = refl

same_count : (w : World) (t : Step) → length (stepped w t).functions ≡ length w.functions
same_count w (Happens e) = (step_shape w e).functions
same_count w (Comes q memory) = came_count w q memory (attach_refusal w q (length memory))
same_count w (Goes q) = went_count w q _ refl
same_count w (Replaces q memory) = replaced_count w q memory (replace_refusal w q (length memory))
same_count w (Prompts q) = prompted_count w q (nat_lt q (length w.functions))

-- ---- one step

-- what is shown, and what is left, are what the lone function does with the item, if one is kept
abbrev FollowsOn : Lone → Option Sight → Lone → Option GuestItem → Type 0
FollowsOn s seen after None = (seen ≡ None) × (after ≡ s)
FollowsOn s seen after (Some k) = (seen ≡ shown_on s k) × (after ≡ moved_on s k)

event_on : (s : Lone) (seen : Option Observation) (after : Lone) (k : Option Item) → Follows s seen after k → FollowsOn s (option_map Saw seen) after (option_map Kept k)
event_on s seen after None h = (ap (option_map Saw) h.0, h.1)
event_on s seen after (Some k) h = (ap (option_map Saw) h.0, h.1)

-- the function that is there, or another one
lone_set : (p : ℕ) (w : World) (f : Function) → p < length w.functions → lone_of p (with_function w p f) ≡ record { profile = w.profile; function = f; settings = own w.settings p }
lone_set p w f below = λ i. record { profile = w.profile; function = get_or-set_same w.functions p f (Closed 0) below i; settings = own w.settings p }

lone_kept : (p q : ℕ) (w : World) (f : Function) → (p ≡ q → ⊥) → lone_of p (with_function w q f) ≡ lone_of p w
lone_kept p q w f differ = λ i. record { profile = w.profile; function = get_or-set_other w.functions q p f (Closed 0) differ i; settings = own w.settings p }

there : (p n : ℕ) → p < n → nat_le n p ≡ false
there p n below = lt-leb n p below

came_mine : (p : ℕ) (w : World) (memory : List ℕ) (r : Option Fault) → p < length w.functions → lone_of p (came w p memory r) ≡ came_alone (lone_of p w) memory r
came_mine p w memory None below = lone_set p w (Open (initial_with w.profile.offloads memory)) below
came_mine p w memory (Some fault) below = refl

came_other : (p q : ℕ) (w : World) (memory : List ℕ) (r : Option Fault) → (p ≡ q → ⊥) → lone_of p (came w q memory r) ≡ lone_of p w
came_other p q w memory None differ = lone_kept p q w (Open (initial_with w.profile.offloads memory)) differ
came_other p q w memory (Some fault) differ = refl

comes_mine : (p : ℕ) (w : World) (memory : List ℕ) → p < length w.functions
    → FollowsOn (lone_of p w) (Some (Came (attach_refusal w p (length memory)))) (lone_of p (stepped w (Comes p memory))) (Some (Attach memory))
comes_mine p w memory below =
    let same : attach_refusal w p (length memory) ≡ lone_refusal (lone_of p w) (length memory) = rw (there p (length w.functions) below) refl in
    (ap (λ r. Some (Came r)) same, came_mine p w memory (attach_refusal w p (length memory)) below ∙ ap (came_alone (lone_of p w) memory) same)

differ_from : (p q : ℕ) → eqb q p ≡ false → p ≡ q → ⊥
differ_from p q e same = eqb-false q p e (sym same)

comes_on : (p : ℕ) (w : World) (q : ℕ) (memory : List ℕ) (mine : Bool) → p < length w.functions → eqb q p ≡ mine
    → FollowsOn (lone_of p w) (if mine then Some (Came (attach_refusal w q (length memory))) else None) (lone_of p (stepped w (Comes q memory))) (if mine then Some (Attach memory) else None)
comes_on p w q memory true below is =
    subst (λ r. FollowsOn (lone_of p w) (Some (Came (attach_refusal w r (length memory)))) (lone_of p (stepped w (Comes r memory))) (Some (Attach memory))) (sym (eqb-true q p is)) (comes_mine p w memory below)
comes_on p w q memory false below is = (refl, came_other p q w memory (attach_refusal w q (length memory)) (differ_from p q is))

goes_mine : (p : ℕ) (w : World) (vacant : Bool) → p < length w.functions → eqb (size_of (function_of p w)) 0 ≡ vacant
    → FollowsOn (lone_of p w) (Some (Went (function_of p w))) (lone_of p (detached w p)) (Some Detach)
goes_mine p w true below is = rw (there p (length w.functions) below, is) (refl, refl)
goes_mine p w false below is = rw (there p (length w.functions) below, is) (refl, lone_set p w (Closed 0) below)

went_other : (p q : ℕ) (w : World) (vacant : Bool) → is_vacant w q ≡ vacant → (p ≡ q → ⊥) → lone_of p (detached w q) ≡ lone_of p w
went_other p q w true is differ = rw is refl
went_other p q w false is differ = rw is (lone_kept p q w (Closed 0) differ)

goes_on : (p : ℕ) (w : World) (q : ℕ) (mine : Bool) → p < length w.functions → eqb q p ≡ mine
    → FollowsOn (lone_of p w) (if mine then Some (Went (function_of q w)) else None) (lone_of p (detached w q)) (if mine then Some Detach else None)
goes_on p w q true below is =
    subst (λ r. FollowsOn (lone_of p w) (Some (Went (function_of r w))) (lone_of p (detached w r)) (Some Detach)) (sym (eqb-true q p is)) (goes_mine p w _ below refl)
goes_on p w q false below is = (refl, went_other p q w _ refl (differ_from p q is))

replaced_mine : (p : ℕ) (w : World) (memory : List ℕ) (r : Option Fault) → p < length w.functions → lone_of p (replaced w p memory r) ≡ replaced_alone (lone_of p w) memory r
replaced_mine p w memory None below = lone_set p w (moved_to (function_of p w) memory) below
replaced_mine p w memory (Some fault) below = refl

replaced_other : (p q : ℕ) (w : World) (memory : List ℕ) (r : Option Fault) → (p ≡ q → ⊥) → lone_of p (replaced w q memory r) ≡ lone_of p w
replaced_other p q w memory None differ = lone_kept p q w (moved_to (function_of q w) memory) differ
replaced_other p q w memory (Some fault) differ = refl

replaces_mine : (p : ℕ) (w : World) (memory : List ℕ) → p < length w.functions
    → FollowsOn (lone_of p w) (Some (Got (replace_refusal w p (length memory)) (function_of p w))) (lone_of p (stepped w (Replaces p memory))) (Some (Replace memory))
replaces_mine p w memory below =
    let same : replace_refusal w p (length memory) ≡ replace_refusal_alone (lone_of p w) (length memory) = rw (there p (length w.functions) below) refl in
    (ap (λ r. Some (Got r (function_of p w))) same, replaced_mine p w memory (replace_refusal w p (length memory)) below ∙ ap (replaced_alone (lone_of p w) memory) same)

replaces_on : (p : ℕ) (w : World) (q : ℕ) (memory : List ℕ) (mine : Bool) → p < length w.functions → eqb q p ≡ mine
    → FollowsOn (lone_of p w) (if mine then Some (Got (replace_refusal w q (length memory)) (function_of q w)) else None) (lone_of p (stepped w (Replaces q memory))) (if mine then Some (Replace memory) else None)
replaces_on p w q memory true below is =
    subst (λ r. FollowsOn (lone_of p w) (Some (Got (replace_refusal w r (length memory)) (function_of r w))) (lone_of p (stepped w (Replaces r memory))) (Some (Replace memory))) (sym (eqb-true q p is)) (replaces_mine p w memory below)
replaces_on p w q memory false below is = (refl, replaced_other p q w memory (replace_refusal w q (length memory)) (differ_from p q is))

here : (p n : ℕ) → p < n → nat_lt p n ≡ true
here p n below = lt-ltb p n below

prompts_mine : (p : ℕ) (w : World) → p < length w.functions → FollowsOn (lone_of p w) (Some (Prompted (prompt_messages w p))) (lone_of p (prompted w p)) (Some Prompt)
prompts_mine p w below = rw (here p (length w.functions) below) (refl, lone_set p w (other_raised (function_of p w)).state below)

prompted_other : (p q : ℕ) (w : World) (is_there : Bool) → (p ≡ q → ⊥) → lone_of p (if is_there then with_function w q (other_raised (function_of q w)).state else w) ≡ lone_of p w
prompted_other p q w true differ = lone_kept p q w (other_raised (function_of q w)).state differ
prompted_other p q w false differ = refl

prompts_on : (p : ℕ) (w : World) (q : ℕ) (mine : Bool) → p < length w.functions → eqb q p ≡ mine
    → FollowsOn (lone_of p w) (if mine then Some (Prompted (prompt_messages w q)) else None) (lone_of p (stepped w (Prompts q))) (if mine then Some Prompt else None)
prompts_on p w q true below is =
    subst (λ r. FollowsOn (lone_of p w) (Some (Prompted (prompt_messages w r))) (lone_of p (prompted w r)) (Some Prompt)) (sym (eqb-true q p is)) (prompts_mine p w below)
prompts_on p w q false below is = (refl, prompted_other p q w (nat_lt q (length w.functions)) (differ_from p q is))

step_on : (p : ℕ) (w : World) (t : Step) → p < length w.functions → p < 64 → FollowsOn (lone_of p w) (sight_in p w t) (lone_of p (stepped w t)) (kept_in p w t)
step_on p w (Happens e) below small = event_on (lone_of p w) (seen_of p e (step w e).answer) (lone_of p (step w e).world) (kept p w e) (step_follows p w e below small)
step_on p w (Comes q memory) below small = comes_on p w q memory _ below refl
step_on p w (Goes q) below small = goes_on p w q _ below refl
step_on p w (Replaces q memory) below small = replaces_on p w q memory _ below refl
step_on p w (Prompts q) below small = prompts_on p w q _ below refl

-- ---- all steps

seen_on : (s : Lone) (seen : Option Sight) (after : Lone) (k : Option GuestItem) → FollowsOn s seen after k → (ks : List GuestItem) → cons_option seen (lone_sights after ks) ≡ lone_sights s (cons_option k ks)
seen_on s seen after None h ks = λ i. cons_option (h.0 i) (lone_sights (h.1 i) ks)
seen_on s seen after (Some k) h ks = λ i. cons_option (h.0 i) (lone_sights (h.1 i) ks)

end_on : (s : Lone) (seen : Option Sight) (after : Lone) (k : Option GuestItem) → FollowsOn s seen after k → (ks : List GuestItem) → lone_end after ks ≡ lone_end s (cons_option k ks)
end_on s seen after None h ks = λ i. lone_end (h.1 i) ks
end_on s seen after (Some k) h ks = λ i. lone_end (h.1 i) ks

pub isolated_sights : (p : ℕ) (w : World) (ts : List Step) → p < length w.functions → length w.functions ≤ 64 → sights p w ts ≡ lone_sights (lone_of p w) (keep_steps p w ts)
isolated_sights p w [] below few = refl
isolated_sights p w (t ∷ ts) below few =
    let w' : World = stepped w t in
    let count : length w'.functions ≡ length w.functions = same_count w t in
    let rest : sights p w' ts ≡ lone_sights (lone_of p w') (keep_steps p w' ts) = isolated_sights p w' ts (subst (λ n. p < n) (sym count) below) (subst (λ n. n ≤ 64) (sym count) few) in
    ap (cons_option (sight_in p w t)) rest
    ∙ seen_on (lone_of p w) (sight_in p w t) (lone_of p w') (kept_in p w t) (step_on p w t below (omega arith)) (keep_steps p w' ts)

pub isolated_end : (p : ℕ) (w : World) (ts : List Step) → p < length w.functions → length w.functions ≤ 64 → lone_of p (after_steps w ts) ≡ lone_end (lone_of p w) (keep_steps p w ts)
isolated_end p w [] below few = refl
isolated_end p w (t ∷ ts) below few =
    let w' : World = stepped w t in
    let count : length w'.functions ≡ length w.functions = same_count w t in
    isolated_end p w' ts (subst (λ n. p < n) (sym count) below) (subst (λ n. n ≤ 64) (sym count) few)
    ∙ end_on (lone_of p w) (sight_in p w t) (lone_of p w') (kept_in p w t) (step_on p w t below (omega arith)) (keep_steps p w' ts)

-- ---- the accesses

-- those of one step are those of the item, if one is kept
abbrev MadeOn : Lone → List Access → Option GuestItem → Type 0
MadeOn s accesses None = accesses ≡ []
MadeOn s accesses (Some k) = accesses ≡ made_on s k

event_made_on : (s : Lone) (accesses : List Access) (k : Option Item) → accesses ≡ lone_made s (cons_option k []) → MadeOn s accesses (option_map Kept k)
event_made_on s accesses None is = is
event_made_on s accesses (Some k) is = is ∙ append-nil (made_by s k)

none_made_on : (s : Lone) (k : GuestItem) (mine : Bool) → made_on s k ≡ [] → MadeOn s [] (if mine then Some k else None)
none_made_on s k true none = sym none
none_made_on s k false none = refl

step_made_on : (p : ℕ) (w : World) (t : Step) → MadeOn (lone_of p w) (accesses_in p w t) (kept_in p w t)
step_made_on p w (Happens e) = event_made_on (lone_of p w) (accesses_by w e p) (kept p w e) (accesses_follow p w e)
step_made_on p w (Comes q memory) = none_made_on (lone_of p w) (Attach memory) (eqb q p) refl
step_made_on p w (Goes q) = none_made_on (lone_of p w) Detach (eqb q p) refl
step_made_on p w (Replaces q memory) = none_made_on (lone_of p w) (Replace memory) (eqb q p) refl
step_made_on p w (Prompts q) = none_made_on (lone_of p w) Prompt (eqb q p) refl

accesses_on : (s : Lone) (accesses : List Access) (seen : Option Sight) (after : Lone) (k : Option GuestItem) → MadeOn s accesses k → FollowsOn s seen after k → (ks : List GuestItem) → accesses ++ lone_accesses after ks ≡ lone_accesses s (cons_option k ks)
accesses_on s accesses seen after None made h ks = λ i. made i ++ lone_accesses (h.1 i) ks
accesses_on s accesses seen after (Some k) made h ks = λ i. made i ++ lone_accesses (h.1 i) ks

pub isolated_accesses : (p : ℕ) (w : World) (ts : List Step) → p < length w.functions → length w.functions ≤ 64 → all_accesses p w ts ≡ lone_accesses (lone_of p w) (keep_steps p w ts)
isolated_accesses p w [] below few = refl
isolated_accesses p w (t ∷ ts) below few =
    let w' : World = stepped w t in
    let count : length w'.functions ≡ length w.functions = same_count w t in
    ap (λ (rest : List Access). accesses_in p w t ++ rest) (isolated_accesses p w' ts (subst (λ n. p < n) (sym count) below) (subst (λ n. n ≤ 64) (sym count) few))
    ∙ accesses_on (lone_of p w) (accesses_in p w t) (sight_in p w t) (lone_of p w') (kept_in p w t) (step_made_on p w t) (step_on p w t below (omega arith)) (keep_steps p w' ts)

pub same_for : (p : ℕ) (w v : World) (steps others : List Step) → p < length w.functions → length w.functions ≤ 64 → p < length v.functions → length v.functions ≤ 64 → lone_of p w ≡ lone_of p v
    → keep_steps p w steps ≡ keep_steps p v others → (sights p w steps ≡ sights p v others) × (lone_of p (after_steps w steps) ≡ lone_of p (after_steps v others)) × (all_accesses p w steps ≡ all_accesses p v others)
same_for p w v steps others a b c d first kept_same = (
  isolated_sights p w steps a b ∙ (λ i. lone_sights (first i) (kept_same i)) ∙ sym (isolated_sights p v others c d),
  isolated_end p w steps a b ∙ (λ i. lone_end (first i) (kept_same i)) ∙ sym (isolated_end p v others c d),
  isolated_accesses p w steps a b ∙ (λ i. lone_accesses (first i) (kept_same i)) ∙ sym (isolated_accesses p v others c d),
)

pub events_alone : (w : World) (events : List Event) → after_steps w (map Happens events) ≡ world_after w events
events_alone w [] = refl
events_alone w (e ∷ es) = events_alone (step w e).world es

kept_one : (k : Option Item) (ks : List Item) → cons_option (option_map Kept k) (map Kept ks) ≡ map Kept (cons_option k ks)
kept_one None ks = refl
kept_one (Some k) ks = refl

pub kept_alone : (p : ℕ) (w : World) (events : List Event) → keep_steps p w (map Happens events) ≡ map Kept (keep p w events)
kept_alone p w [] = refl
kept_alone p w (e ∷ es) = ap (cons_option (option_map Kept (kept p w e))) (kept_alone p (step w e).world es) ∙ kept_one (kept p w e) (keep p (step w e).world es)
