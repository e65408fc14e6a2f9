-- A world in which functions' memories hold what they answered.
use Rattle.std.proofs.Common.{◌≡◌, ◌≢◌, ℕ, suc, ◌<◌, ◌≤◌, ◌⊎◌, inl, inr, Bool, false, List, [], ◌∷◌, ◌++◌, length, map, get_or, append-nil, arith, refl, sym, ap, subst, ◌∙◌}
use Rattle.std.proofs.lemmas.Bool.{cases_lt}
use Rattle.std.specs.Int.{bit_at}
use Rattle.wire_frame.specs.Pools.{IsLowestTaken}
use Rattle.std.proofs.lemmas.List.{get_or_past}
use Rattle.std.proofs.lemmas.List.FromFn.{fill_by_all, get_or-map-range_with_len, length-map-range_with_len}
use Rattle.live_memory.specs.Trace.{Access}
use Rattle.vf_unit.specs.Unit.{Function, Closed, size_of, told_of}
use Rattle.vf_unit.proofs.Told.{told_still, met_nothing, size_told}
use Rattle.device.specs.Events.{Event}
use Rattle.device.specs.declared.response.Response.{Response}
use Rattle.device.specs.declared.room.Room.{Room}
use Rattle.device.specs.World.{World, sizes_of, function_of, offered}
use Rattle.device.proofs.Arrivals.{closed_silent}
use Rattle.device.specs.Takes.{Takes}
use Rattle.device.specs.Live.{trace_of, told_at, told_functions, told_world, AreMet, AreListed, TakesLive}

-- ---- one function

pub length_told : (before now : List (List Access)) (fs : List Function) → length (told_functions before now fs) ≡ length fs
unfolding told_functions
length_told before now fs = length-map-range_with_len (told_at before now fs) 0 (length fs)

none_told : (before now : List Access) → told_of before now (Closed 0) ≡ Closed 0
unfolding told_of
none_told before now = refl

pub get_told : (before now : List (List Access)) (fs : List Function) (r : ℕ) → get_or (told_functions before now fs) r (Closed 0) ≡ told_at before now fs r
unfolding told_functions
get_told before now fs r = at (cases_lt r (length fs))
  where
    at : (r < length fs) ⊎ (length fs ≤ r) → get_or (told_functions before now fs) r (Closed 0) ≡ told_at before now fs r
    at (inl inside) = get_or-map-range_with_len (told_at before now fs) 0 (length fs) r r (Closed 0) inside (omega arith)
    at (inr past) =
        get_or_past (told_functions before now fs) r (Closed 0) (subst (λ n. n ≤ r) (sym (length_told before now fs)) past)
        ∙ sym (ap (told_of (trace_of before r) (trace_of now r)) (get_or_past fs r (Closed 0) past) ∙ none_told (trace_of before r) (trace_of now r))

-- a function whose memory wasn't touched
pub told_same : (before now : List (List Access)) (fs : List Function) (r : ℕ) → trace_of now r ≡ trace_of before r → told_at before now fs r ≡ get_or fs r (Closed 0)
told_same before now fs r same = told_still (trace_of before r) (trace_of now r) (get_or fs r (Closed 0)) same

-- ---- all functions

-- functions that are each what another list has, with what their memories answered
pub told_as : (before now : List (List Access)) (fs after : List Function) → length after ≡ length fs → ((r : ℕ) → r < length fs → get_or after r (Closed 0) ≡ told_at before now fs r) → after ≡ told_functions before now fs
unfolding told_functions
told_as before now fs after same each = fill_by_all (told_at before now fs) after (length fs) (Closed 0) same each

pub told_none : (before now : List (List Access)) (fs : List Function) → ((r : ℕ) → trace_of now r ≡ trace_of before r) → told_functions before now fs ≡ fs
told_none before now fs same = sym (told_as before now fs fs refl (λ r below. sym (told_same before now fs r (same r))))

pub told_world_none : (before now : List (List Access)) (w : World) → ((r : ℕ) → trace_of now r ≡ trace_of before r) → told_world before now w ≡ w
told_world_none before now w same = ap (λ fs. record { profile = w.profile; settings = w.settings; resets = w.resets; functions = fs; wire = w.wire; unclaimed = w.unclaimed }) (told_none before now w.functions same)

pub told_world_still : (shared : Bool) (before now : List (List Access)) (w : World) → shared ≡ false → AreMet shared before now w → told_world before now w ≡ w
told_world_still shared before now w not met =
    ap (λ fs. record { profile = w.profile; settings = w.settings; resets = w.resets; functions = fs; wire = w.wire; unclaimed = w.unclaimed })
    (sym (told_as before now w.functions w.functions refl (λ r below. sym ((met r).still not))))

-- the sizes stay
pub sizes_as : (fs gs : List Function) → length gs ≡ length fs → ((r : ℕ) → size_of (get_or gs r (Closed 0)) ≡ size_of (get_or fs r (Closed 0))) → map size_of gs ≡ map size_of fs
sizes_as [] [] len each = refl
sizes_as [] (g ∷ gs) len each = absurd (omega (arith, len))
sizes_as (f ∷ fs) [] len each = absurd (omega (arith, len))
sizes_as (f ∷ fs) (g ∷ gs) len each = λ i. each 0 i ∷ sizes_as fs gs (omega (arith, len)) (λ r. each (suc r)) i

pub sizes_told : (shared : Bool) (before now : List (List Access)) (w : World) → AreMet shared before now w → sizes_of (told_world before now w) ≡ sizes_of w
sizes_told shared before now w met =
    sizes_as w.functions (told_functions before now w.functions) (length_told before now w.functions)
    (λ r. ap size_of (get_told before now w.functions r) ∙ size_told (trace_of before r) (trace_of now r) (function_of r w) (met r).once)

-- ---- an event that touches no memory that others write

pub untouched : (shared : Bool) (traces : List (List Access)) (w : World) → AreMet shared traces traces w
untouched shared traces w = λ p. met_nothing shared (function_of p w) (trace_of traces p)

pub takes_untouched : (shared : Bool) (before now : List (List Access)) (old : World) (event : Event) (new : World) (taken : Response) (room : Room) → now ≡ before → Takes old event new taken room → TakesLive shared before now old event new taken room
takes_untouched shared before now old event new taken room same takes = subst (λ (t : List (List Access)). TakesLive shared before t old event new taken room) (sym same) (record {
  takes = subst (λ w. Takes w event new taken room) (sym (told_world_none before before old (λ r. refl))) takes;
  met = untouched shared before old;
})

-- nothing is listed
pub none_listed : (before now : List (List Access)) (own : ℕ → List Access) → now ≡ before → ((p : ℕ) → own p ≡ []) → AreListed own before now
none_listed before now own same none = λ p. ap (λ (t : List (List Access)). trace_of t p) same ∙ sym (append-nil (trace_of before p)) ∙ ap (λ (t : List Access). trace_of before p ++ t) (sym (none p))

-- and where no memory is shared
pub takes_alone : (shared : Bool) (before now : List (List Access)) (old : World) (event : Event) (new : World) (taken : Response) (room : Room) → shared ≡ false → TakesLive shared before now old event new taken room → Takes old event new taken room
takes_alone shared before now old event new taken room not takes = subst (λ w. Takes w event new taken room) (told_world_still shared before now old not takes.met) takes.takes

-- ---- a pool that was taken

-- a pool that is no longer in the set isn't the one that is taken
pub not_taken : (rest p after k : ℕ) → IsLowestTaken rest p after → bit_at rest k ≡ 0 → k ≢ p
not_taken rest p after k taken clear = λ here. absurd (omega (arith, clear, taken.there, ap (bit_at rest) here))

-- a function that isn't there gets nothing
pub none_told_there : (may loopback : Bool) (frame : List ℕ) (before now : List (List Access)) (fs : List Function) (r : ℕ) → length fs ≤ r → (offered may loopback frame (told_at before now fs r)).messages ≡ 0
none_told_there may loopback frame before now fs r past =
    ap (λ (f : Function). (offered may loopback frame f).messages) (ap (told_of (trace_of before r) (trace_of now r)) (get_or_past fs r (Closed 0) past) ∙ none_told (trace_of before r) (trace_of now r))
    ∙ closed_silent may loopback frame 0
