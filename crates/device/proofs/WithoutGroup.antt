-- A list without the own events of a confined group gives each function outside the same.
use Rattle.std.proofs.Common.{◌≡◌, ℕ, ◌<◌, ◌≤◌, Bool, true, false, List, [], ◌∷◌, ◌++◌, Option, Some, None, refl, sym, ap, ◌∙◌, subst, arith, map, length}
use Rattle.std.proofs.Math.Nat.{suc-ne-zero}
use Rattle.std.proofs.lemmas.List.{length-map}
use Rattle.std.specs.Prelude.{if◌then◌else◌}
use Rattle.std.specs.List.{cons_option}
use Rattle.std.specs.Option.{unwrap_or}
use Rattle.vf_unit.specs.Unit.{Closed}
use Rattle.pool_filter.specs.Settings.{initial_settings, settings_at}
use Rattle.device.specs.Events.{Event}
use Rattle.device.specs.Resets.{resets_at}
use Rattle.device.specs.World.{World, pf_word, fresh, step, answers, world_after}
use Rattle.device.specs.Accesses.{run_accesses}
use Rattle.device.specs.Lone.{Item, lone_of, kept, keep, seen_by, lone_seen, lone_after}
use Rattle.device.specs.LoneAccesses.{lone_made}
use Rattle.device.specs.Erased.{is_groups, erase, StaysApart, IsConfined, AlikeOutside}
use Rattle.device.proofs.Shape.{step_shape}
use Rattle.device.proofs.Unwinding.{isolated_sight, isolated_state}
use Rattle.device.proofs.AccessLists.{all_follow}
use Rattle.device.proofs.Confinement.{confined}
use Rattle.device.proofs.AlikeSteps.{alike_itself, alike_lone, kept_alike, alike_groups, alike_others}

-- ---- the whole list

-- by the rest of the list, from any world that is alike then
keep_on : (group : ℕ → Bool) (p : ℕ) (w v : World) (e : Event) (es : List Event) (mine : Bool) → is_groups group e ≡ mine → length w.functions ≤ 64 → p < 64 → group p ≡ false → AlikeOutside group w v
    → (is_groups group e ≡ true → (r : ℕ) → r < 64 → group r ≡ false → kept r w e ≡ None)
    → ((u : World) → AlikeOutside group (step w e).world u → keep p (step w e).world es ≡ keep p u (erase group es))
    → keep p w (e ∷ es) ≡ keep p v (erase group (e ∷ es))
keep_on group p w v e es true is few small there a none rest =
    rw is (ap (λ k. cons_option k (keep p (step w e).world es)) (none is p small there) ∙ rest v (alike_groups group w v e few a is (none is)))
keep_on group p w v e es false is few small there a none rest =
    rw is (ap (λ k. cons_option k (keep p (step w e).world es)) (kept_alike group w v e p a is) ∙ ap (cons_option (kept p v e)) (rest (step v e).world (alike_others group w v e few a is)))

pub kept_without : (group : ℕ → Bool) (p : ℕ) (w v : World) (events : List Event) → length w.functions ≤ 64 → p < 64 → group p ≡ false → AlikeOutside group w v → IsConfined group w events
    → keep p w events ≡ keep p v (erase group events)
kept_without group p w v [] few small there a c = refl
kept_without group p w v (e ∷ es) few small there a c =
    keep_on group p w v e es _ refl few small there a c.0 (λ u b. kept_without group p (step w e).world u es (subst (λ n. n ≤ 64) (sym (step_shape w e).functions) few) small there b c.1)

pub seen_without : (group : ℕ → Bool) (p : ℕ) (w v : World) (events : List Event) → p < length w.functions → length w.functions ≤ 64 → group p ≡ false → AlikeOutside group w v → IsConfined group w events
    → seen_by p events (answers w events) ≡ seen_by p (erase group events) (answers v (erase group events))
seen_without group p w v events below few there a c =
    let small : p < 64 = omega arith in
    isolated_sight p w events below few
    ∙ (λ i. lone_seen (alike_lone group w v a p below there i) (kept_without group p w v events few small there a c i))
    ∙ sym (isolated_sight p v (erase group events) (subst (λ n. p < n) a.count below) (subst (λ n. n ≤ 64) a.count few))

pub state_without : (group : ℕ → Bool) (p : ℕ) (w v : World) (events : List Event) → p < length w.functions → length w.functions ≤ 64 → group p ≡ false → AlikeOutside group w v → IsConfined group w events
    → lone_of p (world_after w events) ≡ lone_of p (world_after v (erase group events))
state_without group p w v events below few there a c =
    let small : p < 64 = omega arith in
    isolated_state p w events below few
    ∙ (λ i. lone_after (alike_lone group w v a p below there i) (kept_without group p w v events few small there a c i))
    ∙ sym (isolated_state p v (erase group events) (subst (λ n. p < n) a.count below) (subst (λ n. n ≤ 64) a.count few))

-- and the accesses to its memory
pub accesses_without : (group : ℕ → Bool) (p : ℕ) (w v : World) (events : List Event) → p < length w.functions → length w.functions ≤ 64 → group p ≡ false → AlikeOutside group w v → IsConfined group w events
    → run_accesses w events p ≡ run_accesses v (erase group events) p
accesses_without group p w v events below few there a c =
    let small : p < 64 = omega arith in
    all_follow p w events below few
    ∙ (λ i. lone_made (alike_lone group w v a p below there i) (kept_without group p w v events few small there a c i))
    ∙ sym (all_follow p v (erase group events) (subst (λ n. p < n) a.count below) (subst (λ n. n ≤ 64) a.count few))

-- two runs that differ in the group alone: in what its functions were, and in their own events
pub same_whatever : (group : ℕ → Bool) (p : ℕ) (w v : World) (events others : List Event) → p < length w.functions → length w.functions ≤ 64 → group p ≡ false → AlikeOutside group w v
    → erase group events ≡ erase group others → IsConfined group w events → IsConfined group v others
    → (seen_by p events (answers w events) ≡ seen_by p others (answers v others)) × (lone_of p (world_after w events) ≡ lone_of p (world_after v others))
same_whatever group p w v events others below few there a same c c' =
    let below' : p < length v.functions = subst (λ n. p < n) a.count below in
    let few' : length v.functions ≤ 64 = subst (λ n. n ≤ 64) a.count few in (
      seen_without group p w v events below few there a c ∙ ap (λ es. seen_by p es (answers v es)) same ∙ sym (seen_without group p v v others below' few' there (alike_itself group v) c'),
      state_without group p w v events below few there a c ∙ ap (λ es. lone_of p (world_after v es)) same ∙ sym (state_without group p v v others below' few' there (alike_itself group v) c'),
    )

pub accesses_whatever : (group : ℕ → Bool) (p : ℕ) (w v : World) (events others : List Event) → p < length w.functions → length w.functions ≤ 64 → group p ≡ false → AlikeOutside group w v
    → erase group events ≡ erase group others → IsConfined group w events → IsConfined group v others → run_accesses w events p ≡ run_accesses v others p
accesses_whatever group p w v events others below few there a same c c' =
    let below' : p < length v.functions = subst (λ n. p < n) a.count below in
    let few' : length v.functions ≤ 64 = subst (λ n. n ≤ 64) a.count few in
    accesses_without group p w v events below few there a c
    ∙ ap (λ es. run_accesses v es p) same
    ∙ sym (accesses_without group p v v others below' few' there (alike_itself group v) c')

-- ---- the worlds that are left

alike_on : (group : ℕ → Bool) (w v : World) (e : Event) (es : List Event) (mine : Bool) → is_groups group e ≡ mine → length w.functions ≤ 64 → AlikeOutside group w v
    → (is_groups group e ≡ true → (r : ℕ) → r < 64 → group r ≡ false → kept r w e ≡ None)
    → ((u : World) → AlikeOutside group (step w e).world u → AlikeOutside group (world_after (step w e).world es) (world_after u (erase group es)))
    → AlikeOutside group (world_after w (e ∷ es)) (world_after v (erase group (e ∷ es)))
alike_on group w v e es true is few a none rest = rw is (rest v (alike_groups group w v e few a is (none is)))
alike_on group w v e es false is few a none rest = rw is (rest (step v e).world (alike_others group w v e few a is))

pub alike_without : (group : ℕ → Bool) (w v : World) (events : List Event) → length w.functions ≤ 64 → AlikeOutside group w v → IsConfined group w events
    → AlikeOutside group (world_after w events) (world_after v (erase group events))
alike_without group w v [] few a c = a
alike_without group w v (e ∷ es) few a c =
    alike_on group w v e es _ refl few a c.0 (λ u b. alike_without group (step w e).world u es (subst (λ n. n ≤ 64) (sym (step_shape w e).functions) few) b c.1)

-- ---- from a device as it is made

as_many : (sizes : List ℕ) → length sizes ≡ length (map Closed sizes)
as_many sizes = sym (length-map sizes Closed)

pub fresh_without : (group : ℕ → Bool) (p limit : ℕ) (sizes : List ℕ) (events : List Event) → p < length sizes → length sizes ≤ 64 → group p ≡ false → StaysApart group initial_settings events
    → (seen_by p events (answers (fresh limit sizes) events) ≡ seen_by p (erase group events) (answers (fresh limit sizes) (erase group events)))
    × (lone_of p (world_after (fresh limit sizes) events) ≡ lone_of p (world_after (fresh limit sizes) (erase group events)))
fresh_without group p limit sizes events below few there stays =
    let w : World = fresh limit sizes in
    let below' : p < length w.functions = subst (λ n. p < n) (as_many sizes) below in
    let few' : length w.functions ≤ 64 = subst (λ n. n ≤ 64) (as_many sizes) few in
    let c : IsConfined group w events = confined group w events few' stays in (
      seen_without group p w w events below' few' there (alike_itself group w) c,
      state_without group p w w events below' few' there (alike_itself group w) c,
    )

pub fresh_accesses : (group : ℕ → Bool) (p limit : ℕ) (sizes : List ℕ) (events : List Event) → p < length sizes → length sizes ≤ 64 → group p ≡ false → StaysApart group initial_settings events
    → run_accesses (fresh limit sizes) events p ≡ run_accesses (fresh limit sizes) (erase group events) p
fresh_accesses group p limit sizes events below few there stays =
    let w : World = fresh limit sizes in
    let below' : p < length w.functions = subst (λ n. p < n) (as_many sizes) below in
    let few' : length w.functions ≤ 64 = subst (λ n. n ≤ 64) (as_many sizes) few in
    accesses_without group p w w events below' few' there (alike_itself group w) (confined group w events few' stays)

pub fresh_whatever : (group : ℕ → Bool) (p limit : ℕ) (sizes : List ℕ) (events others : List Event) → p < length sizes → length sizes ≤ 64 → group p ≡ false
    → erase group events ≡ erase group others → StaysApart group initial_settings events → StaysApart group initial_settings others
    → (seen_by p events (answers (fresh limit sizes) events) ≡ seen_by p others (answers (fresh limit sizes) others))
    × (lone_of p (world_after (fresh limit sizes) events) ≡ lone_of p (world_after (fresh limit sizes) others))
fresh_whatever group p limit sizes events others below few there same stays stays' =
    let w : World = fresh limit sizes in
    let one = fresh_without group p limit sizes events below few there stays in
    let other = fresh_without group p limit sizes others below few there stays' in (
      one.0 ∙ ap (λ es. seen_by p es (answers w es)) same ∙ sym other.0,
      one.1 ∙ ap (λ es. lone_of p (world_after w es)) same ∙ sym other.1,
    )

-- ---- lists

-- a list without the group's events has none of them, and stays apart
twice : (group : ℕ → Bool) (e : Event) (es : List Event) (mine : Bool) → is_groups group e ≡ mine → erase group (erase group es) ≡ erase group es → erase group (erase group (e ∷ es)) ≡ erase group (e ∷ es)
twice group e es true is rest = rw is rest
twice group e es false is rest = rw (is, is) (ap (λ more. e ∷ more) rest)

pub erased_twice : (group : ℕ → Bool) (events : List Event) → erase group (erase group events) ≡ erase group events
erased_twice group [] = refl
erased_twice group (e ∷ es) = twice group e es _ refl (erased_twice group es)

list_of_one : (k : Option Item) → cons_option k [] ≡ [] → k ≡ None
list_of_one None same = refl
list_of_one (Some k) same = absurd (suc-ne-zero _ (ap length same))

-- what is asked of a step is what the law says of the list of that one event
pub needed : (group : ℕ → Bool) (w : World) (e : Event) (r : ℕ) → is_groups group e ≡ true → keep r w (e ∷ []) ≡ keep r w (erase group (e ∷ [])) → kept r w e ≡ None
needed group w e r is same = list_of_one (kept r w e) (same ∙ (λ i. keep r w (if is i then [] else e ∷ [])))

append_on : (group : ℕ → Bool) (e : Event) (es second : List Event) (mine : Bool) → is_groups group e ≡ mine → erase group (es ++ second) ≡ erase group es ++ erase group second
    → erase group ((e ∷ es) ++ second) ≡ erase group (e ∷ es) ++ erase group second
append_on group e es second true is rest = rw is rest
append_on group e es second false is rest = rw is (ap (λ more. e ∷ more) rest)

pub erase_append : (group : ℕ → Bool) (first second : List Event) → erase group (first ++ second) ≡ erase group first ++ erase group second
erase_append group [] second = refl
erase_append group (e ∷ es) second = append_on group e es second _ refl (erase_append group es second)

-- ---- what the physical function reads

-- but for the flags of resets, its registers are the same in worlds that are alike
pub pf_alike : (group : ℕ → Bool) (w v : World) (offset : ℕ) → AlikeOutside group w v → resets_at w.resets offset ≡ None → resets_at v.resets offset ≡ None → pf_word w offset ≡ pf_word v offset
pf_alike group w v offset a none none' = λ i. unwrap_or (both_none i) (settings_at (a.settings i) offset)
  where
    both_none : resets_at w.resets offset ≡ resets_at v.resets offset
    both_none = none ∙ sym none'
