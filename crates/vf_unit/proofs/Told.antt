-- A function with what its memory answered.
use Rattle.std.proofs.Common.{◌≡◌, ℕ, ◌+◌, ◌≤◌, Bool, true, false, nat_le, List, [], ◌∷◌, ◌++◌, length, slice_range, append-nil, refl, sym, ap, subst, ◌∙◌}
use Rattle.std.specs.Prelude.{if◌then◌else◌}
use Rattle.std.proofs.lemmas.Bool.{le-leb, leb-true}
use Rattle.live_memory.specs.Trace.{Access, Read, Wrote, since, reads, met, NotRead, ReadOnce}
use Rattle.live_memory.proofs.Accesses.{since_is, since_none, grown_by, met_none, met_still}
use Rattle.live_memory.proofs.Written.{size_met}
use Rattle.vf_unit.specs.Function.{State, TracedState, told}
use Rattle.vf_unit.specs.Unit.{Function, TracedFunction, Closed, Open, IsMet, met_function, size_of, is_open, told_of, has_range, load_accesses, store_accesses}

pub told_still : (before now : List Access) (f : Function) → now ≡ before → told_of before now f ≡ f
unfolding told_of
told_still before now (Closed size) same = refl
told_still before now (Open s) same = ap (λ (memory : List ℕ). Open (record s { memory = memory })) (met_still before now s.memory same)

-- of an open function
pub state_told : (trace : List Access) (s : State) → told trace trace s ≡ s
state_told trace s = ap (λ (memory : List ℕ). record s { memory = memory }) (met_still trace trace s.memory refl)

pub open_told : (before now : List Access) (f : Function) → is_open (told_of before now f) ≡ is_open f
unfolding told_of
open_told before now (Closed size) = refl
open_told before now (Open s) = refl

pub size_told : (before now : List Access) (f : Function) → ReadOnce (size_of f) (since before now) → size_of (told_of before now f) ≡ size_of f
unfolding told_of met
size_told before now (Closed size) once = refl
size_told before now (Open s) once = size_met (length s.memory) (since before now) s.memory refl once

-- and where nothing was done with it
pub told_nothing : (trace : List Access) (f : Function) → told_of trace trace f ≡ f
told_nothing trace f = told_still trace trace f refl

-- where nobody else writes the memory, what was met is what was there
pub met_alone : (f : Function) (before now : List Access) → IsMet false f before now → told_of before now f ≡ f
met_alone f before now met = met.still refl

-- nothing was done
pub met_nothing : (shared : Bool) (f : Function) (trace : List Access) → IsMet shared f trace trace
unfolding ReadOnce
met_nothing shared f trace = record {
  grown = sym (append-nil trace) ∙ ap (λ (t : List Access). trace ++ t) (sym (since_none trace));
  once = rw (since_none trace) tt;
  still = λ not. told_nothing trace f;
}

-- nothing was read
pub told_unread : (before now own : List Access) (f : Function) → now ≡ before ++ own → reads own ≡ [] → told_of before now f ≡ f
unfolding told_of
told_unread before now own (Closed size) is none = refl
told_unread before now own (Open s) is none = ap (λ (memory : List ℕ). Open (record s { memory = memory })) (met_none before now s.memory (ap reads (since_is before now own is) ∙ none))

-- bytes were written inside the memory
pub met_stored : (shared : Bool) (f : Function) (before now : List Access) (at : ℕ) (bytes : List ℕ) → now ≡ before ++ store_accesses f at bytes → IsMet shared f before now
unfolding reads NotRead ReadOnce
met_stored shared f before now at bytes is = record {
  grown = grown_by before now (store_accesses f at bytes) is;
  once = rw (since_is before now (store_accesses f at bytes) is) (within f);
  still = λ not. told_unread before now (store_accesses f at bytes) f is (unread (has_range f at (length bytes)));
}
  where
    unread : (there : Bool) → reads (if there then Wrote at bytes ∷ [] else []) ≡ []
    unread true = refl
    unread false = refl

    within : (g : Function) → ReadOnce (size_of g) (store_accesses g at bytes)
    within (Closed size) = tt
    within (Open s) = by (nat_le (at + length bytes) (length s.memory)) refl
      where
        by : (there : Bool) → nat_le (at + length bytes) (length s.memory) ≡ there → ReadOnce (length s.memory) (if there then Wrote at bytes ∷ [] else [])
        by true fits = (leb-true (at + length bytes) (length s.memory) fits, (tt, tt))
        by false past = tt

-- ---- bytes that are read

pub none_loaded : (f : TracedFunction) (at n : ℕ) → has_range f.function at n ≡ false → f.accesses ≡ f.accesses ++ load_accesses (met_function f f) at n
none_loaded f at n outside =
    sym (append-nil f.accesses) ∙ ap (λ (t : List Access). f.accesses ++ t) (sym (by_range f.function outside) ∙ ap (λ (m : Function). load_accesses m at n) (sym (told_nothing f.accesses f.function)))
  where
    by_range : (m : Function) → has_range m at n ≡ false → load_accesses m at n ≡ []
    by_range (Closed size) out = refl
    by_range (Open s) out = rw out refl

pub some_loaded : (old new : TracedState) (at n : ℕ) (out : List ℕ) → new.state ≡ told old.accesses new.accesses old.state → at + n ≤ length new.state.memory → out ≡ slice_range new.state.memory at (at + n) → new.accesses ≡ old.accesses ++ Read at out ∷ [] → new.accesses ≡ old.accesses ++ load_accesses (told_of old.accesses new.accesses (Open old.state)) at n
unfolding told_of
some_loaded old new at n out is inside bytes listed =
    let test : nat_le (at + n) (length (told old.accesses new.accesses old.state).memory) ≡ true = le-leb _ _ (subst (λ (s : State). at + n ≤ length s.memory) is inside) in
    listed ∙ ap (λ (bs : List ℕ). old.accesses ++ Read at bs ∷ []) (bytes ∙ ap (λ (s : State). slice_range s.memory at (at + n)) is) ∙ rw test refl
