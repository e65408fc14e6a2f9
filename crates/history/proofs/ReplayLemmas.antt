-- Devices as they are made, one more call, and one call on in those that are kept.
use Rattle.std.proofs.Common.{◌≡◌, ℕ, ◌+◌, ◌<◌, ◌≤◌, Bool, true, false, true≢false, ◌&&◌, List, [], ◌∷◌, ◌++◌, length, map, drop, get_or, refl, sym, ap, ◌∙◌, subst, arith}
use Rattle.std.specs.Prelude.{is_some, Option, Some, None, IfSome}
use Rattle.std.specs.Global.{Box}
use Rattle.std.proofs.Common.{add-one}
use Rattle.std.proofs.Math.Seq.{drop-cons}
use Rattle.std.proofs.lemmas.List.{map-append}
use mathlib.Core.Logic.{◌↔◌}
use Rattle.vf_unit.specs.Unit.{Closed, size_of}
use Rattle.device.specs.declared.profile.Profile.{Profile}
use Rattle.device.specs.Events.{Event}
use Rattle.device.specs.World.{World, step, fresh, sizes_of, answers, world_after}
use Rattle.device.specs.Live.{TracedWorld}
use Rattle.device.proofs.Append.{answers_append, world_after_append}
use Rattle.device.proofs.Shape.{step_shape}
use Rattle.history.specs.declared.caller.Caller.{Caller}
use Rattle.history.specs.Entries.{Entry, entry, events, given, Leads}
use Rattle.history.specs.Fields.{base_of, logged}
use Rattle.history.specs.Recording.{made_like, keeping}

-- ---- devices as they are made

sizes_closed : (sizes : List ℕ) → map size_of (map Closed sizes) ≡ sizes
sizes_closed [] = refl
sizes_closed (size ∷ sizes) = ap (λ xs. size ∷ xs) (sizes_closed sizes)

pub fresh_again : (w : World) (limit : ℕ) (sizes : List ℕ) → w ≡ fresh limit sizes → w ≡ fresh w.profile.limit (sizes_of w)
fresh_again w limit sizes made =
    let long : w.profile.limit ≡ limit = ap (λ (v : World). v.profile.limit) made in
    let all : sizes_of w ≡ sizes = ap sizes_of made ∙ sizes_closed sizes in
    made ∙ (λ i. fresh (sym long i) (sym all i))

-- ---- one more call

pub leads_none : (w : World) → Leads w [] w
leads_none w = record { answers = refl; world = refl }

pub leads_more : (base : World) (calls : List Entry) (live : World) (c : Caller) (e : Event) → Leads base calls live
    → Leads base (calls ++ entry c e (step live e).answer ∷ []) (step live e).world
leads_more base calls live c e l = record {
  answers = ap (answers base) (map-append (λ (x : Entry). x.event) calls (call ∷ []))
      ∙ answers_append base (events calls) (e ∷ [])
      ∙ (λ i. l.answers i ++ answers (l.world i) (e ∷ []))
      ∙ sym (map-append (λ (x : Entry). x.answer) calls (call ∷ []));
  world = ap (world_after base) (map-append (λ (x : Entry). x.event) calls (call ∷ []))
      ∙ world_after_append base (events calls) (e ∷ [])
      ∙ ap (λ w. world_after w (e ∷ [])) l.world;
}
  where
    call : Entry
    call = entry c e (step live e).answer

-- ---- the base

-- a device without a twin has the same base after a step, which changes neither limit nor sizes
pub base_kept : (twin : Option (Box TracedWorld)) (live lent new : World) (e : Event) → lent ≡ live → new ≡ (step lent e).world → sizes_of new ≡ sizes_of lent
    → base_of twin new ≡ base_of twin live
base_kept None live lent new e same world sizes = let limit : new.profile.limit ≡ live.profile.limit = ap (λ (w : World). w.profile.limit) world ∙ ap (λ (p : Profile). p.limit) (step_shape lent e).profile ∙ ap (λ (w : World). w.profile.limit) same in
    let long : sizes_of new ≡ sizes_of live = sizes ∙ ap sizes_of same in λ i. fresh (limit i) (long i)
base_kept (Some twin) live lent new e same world sizes = refl

pub base_first : (twin : Option (Box TracedWorld)) (w : World) → w ≡ made_like w → IfSome twin (λ t. t.value.world ≡ w) → base_of twin w ≡ w
base_first None w made same = sym made
base_first (Some twin) w made same = same

pub base_made : (twin : Option (Box TracedWorld)) (w : World) → is_some twin ≡ false → base_of twin w ≡ made_like w
base_made None w none = refl
base_made (Some twin) w none = absurd (true≢false none)

-- one more call that is kept, by whatever names: the device is the one that its box lends
pub leads_on : (twin : Option (Box TracedWorld)) (live lent new : World) (calls more : List Entry) (c : Caller) (e : Event) → Leads (base_of twin live) calls live
    → lent ≡ live → new ≡ (step lent e).world → sizes_of new ≡ sizes_of lent → more ≡ calls ++ entry c e (step lent e).answer ∷ []
    → Leads (base_of twin new) more new
leads_on twin live lent new calls more c e l same world sizes entries =
    let base = base_kept twin live lent new e same world sizes in
    let kept : more ≡ calls ++ entry c e (step live e).answer ∷ [] = entries ∙ ap (λ (w : World). calls ++ entry c e (step w e).answer ∷ []) same in
    let now : new ≡ (step live e).world = world ∙ ap (λ (w : World). (step w e).world) same in
    subst (λ (b : World). Leads b more new) (sym base)
    (subst (λ (xs : List Entry). Leads (base_of twin live) xs new) (sym kept)
    (subst (λ (w : World). Leads (base_of twin live) (calls ++ entry c e (step live e).answer ∷ []) w) (sym now) (leads_more (base_of twin live) calls live c e l)))

-- and what contracts see of it
pub logged_on : (twin : Option (Box TracedWorld)) (live lent new : World) (calls more : List Entry) (cap after : ℕ) (c : Caller) (e : Event)
    → lent ≡ live → new ≡ (step lent e).world → sizes_of new ≡ sizes_of lent → more ≡ calls ++ entry c e (step lent e).answer ∷ [] → after ≡ cap
    → logged twin new more after ≡ keeping (logged twin live calls cap) c e
logged_on twin live lent new calls more cap after c e same world sizes entries room = λ i. record {
  base = base_kept twin live lent new e same world sizes i;
  kept = (entries ∙ ap (λ (w : World). calls ++ entry c e (step w e).answer ∷ []) same) i;
  live = (world ∙ ap (λ (w : World). (step w e).world) same) i;
  cap = room i;
  has_twin = is_some twin;
}

-- ---- the number of functions

after_shape : (w : World) (es : List Event) → length (world_after w es).functions ≡ length w.functions
after_shape w [] = refl
after_shape w (e ∷ es) = after_shape (step w e).world es ∙ (step_shape w e).functions

pub functions_kept : (base live : World) (calls : List Entry) → world_after base (events calls) ≡ live → length live.functions ≤ 64 → length base.functions ≤ 64
functions_kept base live calls is few = omega (arith, after_shape base (events calls), ap (λ w. length w.functions) is, few)

-- ---- one call on

pub world_on : (w w' : World) (calls : List Entry) (i : ℕ) (d : Entry) (z : World) → i < length calls → w' ≡ (step w (get_or calls i d).event).world
    → world_after w (events (drop i calls)) ≡ z → world_after w' (events (drop (i + 1) calls)) ≡ z
world_on w w' calls i d z less is h = let c : drop i calls ≡ get_or calls i d ∷ drop (i + 1) calls = rw (add-one, drop-cons calls i d) refl in
    rw is (let k : world_after w (events (get_or calls i d ∷ drop (i + 1) calls)) ≡ z = subst (λ (xs : List Entry). world_after w (events xs) ≡ z) c h in k)

-- whether the answers are the kept ones, after one call more
same_more : (w : World) (e : Entry) (es : List Entry) (X : Type 0) (same here : Bool)
    → (here ≡ true → (step w e.event).answer ≡ e.answer) → ((step w e.event).answer ≡ e.answer → here ≡ true)
    → (same ≡ true → (answers w (events (e ∷ es)) ≡ given (e ∷ es)) ↔ X)
    → (same && here) ≡ true → (answers (step w e.event).world (events es) ≡ given es) ↔ X
same_more w e es X true true fwd back h on = let hh = h refl in ((λ r. hh.0 (let y = fwd refl in cc)), (λ x. let r = hh.1 x in cc))
same_more w e es X true false fwd back h on = absurd (cc)
same_more w e es X false here fwd back h on = absurd (cc)

lost_more : (w : World) (e : Entry) (es : List Entry) (X : Type 0) (same here : Bool)
    → ((step w e.event).answer ≡ e.answer → here ≡ true)
    → (same ≡ true → (answers w (events (e ∷ es)) ≡ given (e ∷ es)) ↔ X) → (same ≡ false → X → ⊥)
    → (same && here) ≡ false → X → ⊥
lost_more w e es X true true back h lost off x = absurd (cc)
lost_more w e es X true false back h lost off x = let r = (h refl).1 x in let b : false ≡ true = back (cc) in absurd (cc)
lost_more w e es X false here back h lost off x = lost refl x

pub same_on : (w w' : World) (calls : List Entry) (i : ℕ) (d : Entry) (X : Type 0) (same here : Bool) → i < length calls → w' ≡ (step w (get_or calls i d).event).world
    → (here ≡ true → (step w (get_or calls i d).event).answer ≡ (get_or calls i d).answer) → ((step w (get_or calls i d).event).answer ≡ (get_or calls i d).answer → here ≡ true)
    → (same ≡ true → (answers w (events (drop i calls)) ≡ given (drop i calls)) ↔ X)
    → (same && here) ≡ true → (answers w' (events (drop (i + 1) calls)) ≡ given (drop (i + 1) calls)) ↔ X
same_on w w' calls i d X same here less is fwd back h = let c : drop i calls ≡ get_or calls i d ∷ drop (i + 1) calls = rw (add-one, drop-cons calls i d) refl in
    rw is (same_more w (get_or calls i d) (drop (i + 1) calls) X same here fwd back (subst (λ (xs : List Entry). same ≡ true → (answers w (events xs) ≡ given xs) ↔ X) c h))

pub lost_on : (w : World) (calls : List Entry) (i : ℕ) (d : Entry) (X : Type 0) (same here : Bool) → i < length calls
    → ((step w (get_or calls i d).event).answer ≡ (get_or calls i d).answer → here ≡ true)
    → (same ≡ true → (answers w (events (drop i calls)) ≡ given (drop i calls)) ↔ X) → (same ≡ false → X → ⊥)
    → (same && here) ≡ false → X → ⊥
lost_on w calls i d X same here less back h lost = let c : drop i calls ≡ get_or calls i d ∷ drop (i + 1) calls = rw (add-one, drop-cons calls i d) refl in
    lost_more w (get_or calls i d) (drop (i + 1) calls) X same here back (subst (λ (xs : List Entry). same ≡ true → (answers w (events xs) ≡ given xs) ↔ X) c h) lost
