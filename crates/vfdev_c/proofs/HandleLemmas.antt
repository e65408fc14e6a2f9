-- What a call leaves, and when a device can be made.
use Rattle.std.proofs.Common.{◌≡◌, ℕ, zero, suc, Bool, true, false, ◌&&◌, nat_le, List, [], replicate, length, refl, sym, ap, subst, ◌∙◌, true≢false, Some}
use Rattle.std.specs.List.{list_all}
use Rattle.guest_memory.specs.Memory.{is_memory_size}
use Rattle.device.specs.Events.{Event}
use Rattle.device.specs.declared.response.Response.{Response}
use Rattle.device.specs.declared.room.Room.{Room}
use Rattle.device.specs.Takes.{Takes}
use Rattle.device.specs.World.{World, step, is_frame_limit, is_makeable}
use Rattle.vfdev_c.specs.declared.handed.Handed.{Handed}
use Rattle.vfdev_c.specs.declared.handle_state.HandleState.TheVariants.{Made}
use Rattle.vfdev_c.specs.declared.wanted.Wanted.{Wanted}
use Rattle.vfdev_c.specs.Handle.{IsolatedStep, can_make}
use Rattle.vfdev_c.specs.Recorded.{kept_as}
use Rattle.vfdev_c.specs.Wanted.{event_in, Hands, HandsOver, IsWanted}
use Rattle.vfdev_c.proofs.WantedLemmas.{Comes, comes_of}

-- a law of all events in all worlds of as many functions
abbrev pub Isolates : World → Type 0
Isolates w = (v : World) (e : Event) → length v.functions ≡ length w.functions → IsolatedStep v e (step v e).world

-- the law holds of the world that a step leaves, by whatever name
pub isolated_at : (w new : World) (e : Event) → new ≡ (step w e).world → Isolates w → IsolatedStep w e new
isolated_at w new e same law = subst (λ v. IsolatedStep w e v) (sym same) (law w e refl)

-- what comes of an event in the world of a device over memories of its own is handed on
pub made_from : (w old new : World) (e : Event) (handed : Handed) (before after : List ℕ) → w ≡ old → Comes w e new handed before after → Isolates w
    → Hands (Some (Made old)) e (Some (Made new)) handed before after
made_from w old new e handed before after is comes law = subst (λ old. Hands (Some (Made old)) e (Some (Made new)) handed before after) is record {
  gives = record {
    called = record {
      held = ap (λ v. Some (Made v)) comes.world;
      replied = comes.replied;
      isolated = isolated_at w new e comes.world law;
      once = tt;
      listed = tt;
    };
    raises = comes.raises;
  };
  left = comes.left;
  frame = comes.frame;
  bytes = comes.bytes;
}

-- it takes an event
pub made_hands : (w old new : World) (wanted : Wanted) (d : Event) (response : Response) (room : Room) (handed : Handed) (before after : List ℕ) → w ≡ old → IsWanted wanted
    → d ≡ kept_as (event_in wanted) → Takes w d new response room → HandsOver response room handed before after → Isolates w
    → Hands (Some (Made old)) (event_in wanted) (Some (Made new)) handed before after
made_hands w old new wanted d response room handed before after is wants so takes over =
    made_from w old new (event_in wanted) handed before after is (comes_of w new wanted d response room handed before after wants so takes over)

-- a device has a function
pub none_makeable : (b : Bool) → (b && is_makeable []) ≡ true → ⊥
unfolding is_makeable
none_makeable true can = true≢false (sym can)
none_makeable false can = true≢false (sym can)

-- what holds of one holds of each of as many
pub all_same : (test : ℕ → Bool) (x n : ℕ) → test x ≡ true → list_all test (replicate n x) ≡ true
all_same test x zero is = refl
all_same test x (suc n) is = rw is (all_same test x n is)

pub length_same : (x n : ℕ) → length (replicate {A = ℕ} n x) ≡ n
length_same x zero = refl
length_same x (suc n) = ap suc (length_same x n)

both_first : (a b : Bool) → (a && b) ≡ true → a ≡ true
both_first true b is = refl
both_first false b is = is

both_second : (a b : Bool) → (a && b) ≡ true → b ≡ true
both_second true b is = is
both_second false b is = absurd (true≢false (sym is))

joined : (a b : Bool) → a ≡ true → b ≡ true → (a && b) ≡ true
joined true b is other = other
joined false b is other = is

-- a device can be made of as many memories of one size
pub makeable : (functions size limit : ℕ) (sizes : List ℕ) → can_make functions size limit ≡ true → sizes ≡ replicate functions size
    → (is_frame_limit limit && is_makeable sizes) ≡ true
unfolding is_makeable
makeable functions size limit sizes can same =
    let rest = both_second (nat_le 1 functions) _ can in
    let last = both_second (nat_le functions 64) _ rest in
    let n : length sizes ≡ functions = ap length same ∙ length_same size functions in
    joined (is_frame_limit limit) (is_makeable sizes) (both_second (is_memory_size size) _ last)
    (joined (nat_le 1 (length sizes)) _ (subst (λ k. nat_le 1 k ≡ true) (sym n) (both_first (nat_le 1 functions) _ can))
    (joined (nat_le (length sizes) 64) _ (subst (λ k. nat_le k 64 ≡ true) (sym n) (both_first (nat_le functions 64) _ rest))
    (subst (λ xs. list_all is_memory_size xs ≡ true) (sym same) (all_same is_memory_size size functions (both_first (is_memory_size size) _ last)))))
