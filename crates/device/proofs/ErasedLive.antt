-- An event that is taken while guests write their memories, without a group's own.
use Rattle.std.proofs.Common.{◌≡◌, ℕ, ◌<◌, ◌≤◌, Bool, true, false, List, [], ◌∷◌, ◌++◌, None, length, append-nil, arith, refl, sym, ap, ◌∙◌, subst}
use Rattle.std.specs.List.{cons_option}
use Rattle.guest_memory.specs.Memory.{Write, write_all}
use Rattle.live_memory.specs.Trace.{Access, since, reads, met}
use Rattle.vf_unit.specs.Unit.{Function, Closed, Open, told_of}
use Rattle.device.specs.Events.{Event}
use Rattle.device.specs.declared.event.Answer.{Answer}
use Rattle.device.specs.declared.response.Response.{Response}
use Rattle.device.specs.declared.room.Room.{Room}
use Rattle.device.specs.Outcome.{answer_of}
use Rattle.device.specs.World.{World, function_of, answers, world_after}
use Rattle.device.specs.Accesses.{accesses_by, run_accesses}
use Rattle.device.specs.Lone.{kept, lone_of, seen_by}
use Rattle.device.specs.LoneAccesses.{lone_made}
use Rattle.device.specs.Live.{trace_of, told_world, AreListed, TakesLive}
use Rattle.device.specs.Erased.{is_groups, erase, StaysApart, IsConfined, AlikeOutside, AnsweredAlike}
use Rattle.device.proofs.LiveLemmas.{length_told, get_told}
use Rattle.device.proofs.Confinement.{confined}
use Rattle.device.proofs.AccessSteps.{accesses_follow}
use Rattle.device.proofs.WithoutGroup.{seen_without, accesses_without, alike_without}

-- ---- the worlds that are met

-- a function is told what was read, whatever was written
told_alike : (before now other_before other_now : List Access) (f : Function) → reads (since before now) ≡ reads (since other_before other_now) → told_of before now f ≡ told_of other_before other_now f
unfolding told_of met
told_alike before now other_before other_now (Closed size) same = refl
told_alike before now other_before other_now (Open s) same = ap (λ (ws : List Write). Open (record s { memory = write_all ws s.memory })) same

-- they are alike where the memories outside answered the same
pub alike_told : (group : ℕ → Bool) (before now other_before other_now : List (List Access)) (w v : World) → length w.functions ≤ 64 → AnsweredAlike group before now other_before other_now → AlikeOutside group w v
    → AlikeOutside group (told_world before now w) (told_world other_before other_now v)
alike_told group before now other_before other_now w v few same a = record {
  profile = a.profile;
  settings = a.settings;
  count = length_told before now w.functions ∙ a.count ∙ sym (length_told other_before other_now v.functions);
  functions = λ r below there.
      let here : r < length w.functions = subst (λ n. r < n) (length_told before now w.functions) below in
      get_told before now w.functions r
      ∙ told_alike (trace_of before r) (trace_of now r) (trace_of other_before r) (trace_of other_now r) (function_of r w) (same r (omega (arith, here, few)) there)
      ∙ ap (told_of (trace_of other_before r) (trace_of other_now r)) (a.functions r here there)
      ∙ sym (get_told other_before other_now v.functions r);
}

few_told : (before now : List (List Access)) (w : World) → length w.functions ≤ 64 → length (told_world before now w).functions ≤ 64
few_told before now w few = subst (λ n. n ≤ 64) (sym (length_told before now w.functions)) few

here_told : (before now : List (List Access)) (w : World) (p : ℕ) → p < length w.functions → p < length (told_world before now w).functions
here_told before now w p below = subst (λ n. p < n) (sym (length_told before now w.functions)) below

-- ---- the event there

confined_there : (group : ℕ → Bool) (before now : List (List Access)) (w : World) (e : Event) → length w.functions ≤ 64 → StaysApart group w.settings (e ∷ []) → IsConfined group (told_world before now w) (e ∷ [])
confined_there group before now w e few stays = confined group (told_world before now w) (e ∷ []) (few_told before now w few) stays

-- one of the group's own accesses no memory outside
pub untouched_outside : (group : ℕ → Bool) (p : ℕ) (before now : List (List Access)) (old : World) (e : Event) → AreListed (accesses_by (told_world before now old) e) before now → p < 64 → length old.functions ≤ 64 → group p ≡ false
    → is_groups group e ≡ true → StaysApart group old.settings (e ∷ []) → trace_of now p ≡ trace_of before p
untouched_outside group p before now old e listed small few there is stays =
    let met : World = told_world before now old in
    let none : kept p met e ≡ None = (confined_there group before now old e few stays).0 is p small there in
    listed p
    ∙ (λ i. trace_of before p ++ (accesses_follow p met e ∙ (λ j. lone_made (lone_of p met) (cons_option (none j) []))) i)
    ∙ append-nil (trace_of before p)

pub live_seen_without : (group : ℕ → Bool) (shared : Bool) (p : ℕ) (before now other_before other_now : List (List Access)) (old new other : World) (e : Event) (taken : Response) (room : Room) → TakesLive shared before now old e new taken room
    → p < length old.functions → length old.functions ≤ 64 → group p ≡ false → AlikeOutside group old other → AnsweredAlike group before now other_before other_now → StaysApart group old.settings (e ∷ [])
    → seen_by p (e ∷ []) (answer_of room taken ∷ []) ≡ seen_by p (erase group (e ∷ [])) (answers (told_world other_before other_now other) (erase group (e ∷ [])))
live_seen_without group shared p before now other_before other_now old new other e taken room takes below few there a same stays =
    ap (λ (given : Answer). seen_by p (e ∷ []) (given ∷ [])) takes.takes.answer
    ∙ seen_without group p (told_world before now old) (told_world other_before other_now other) (e ∷ []) (here_told before now old p below) (few_told before now old few) there
    (alike_told group before now other_before other_now old other few same a) (confined_there group before now old e few stays)

pub live_accesses_without : (group : ℕ → Bool) (p : ℕ) (before now other_before other_now : List (List Access)) (old other : World) (e : Event)
    → p < length old.functions → length old.functions ≤ 64 → group p ≡ false → AlikeOutside group old other → AnsweredAlike group before now other_before other_now → StaysApart group old.settings (e ∷ [])
    → accesses_by (told_world before now old) e p ≡ run_accesses (told_world other_before other_now other) (erase group (e ∷ [])) p
live_accesses_without group p before now other_before other_now old other e below few there a same stays =
    sym (append-nil (accesses_by (told_world before now old) e p))
    ∙ accesses_without group p (told_world before now old) (told_world other_before other_now other) (e ∷ []) (here_told before now old p below) (few_told before now old few) there
    (alike_told group before now other_before other_now old other few same a) (confined_there group before now old e few stays)

pub live_alike_without : (group : ℕ → Bool) (shared : Bool) (before now other_before other_now : List (List Access)) (old new other : World) (e : Event) (taken : Response) (room : Room) → TakesLive shared before now old e new taken room
    → length old.functions ≤ 64 → AlikeOutside group old other → AnsweredAlike group before now other_before other_now → StaysApart group old.settings (e ∷ [])
    → AlikeOutside group new (world_after (told_world other_before other_now other) (erase group (e ∷ [])))
live_alike_without group shared before now other_before other_now old new other e taken room takes few a same stays =
    subst (λ (w : World). AlikeOutside group w (world_after (told_world other_before other_now other) (erase group (e ∷ [])))) (sym takes.takes.world)
    (alike_without group (told_world before now old) (told_world other_before other_now other) (e ∷ []) (few_told before now old few)
    (alike_told group before now other_before other_now old other few same a) (confined_there group before now old e few stays))
