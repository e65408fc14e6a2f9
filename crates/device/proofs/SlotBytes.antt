-- Slots of one size, one behind another: what stands in them after one more, and after a frame is laid into one.
use Rattle.std.proofs.Common.{◌≡◌, ◌⊎◌, inl, inr, ℕ, ◌+◌, ◌*◌, ◌<◌, ◌≤◌, Bool, true, false, nat_lt, List, [], ◌∷◌, ◌++◌, length, get_or, slice_range, take, arith, refl, sym, ap, ◌∙◌}
use Rattle.std.specs.Prelude.{slice_set}
use Rattle.std.specs.List.{range_with_len}
use Rattle.std.proofs.lemmas.Bool.Decides.{nat_tests}
use Rattle.std.proofs.lemmas.List.{places, same_lists, length-set, length-append, get_or_default}
use Rattle.std.proofs.lemmas.List.FromFn.{length-map-range_with_len, get_or-map-range_with_len}
use Rattle.std.proofs.lemmas.Grind.{get_or-set_at}
use Rattle.std.proofs.lemmas.Nat.{mul-le}
use Rattle.guest_memory.specs.Memory.{overwrite}
use Rattle.live_memory.proofs.Written.{written_there, kept_apart, size_written}
use Rattle.wire_frame.specs.Frame.{IsFrame, is_frame, is_tagged}
use Rattle.device.specs.Slots.{KeptFrames, laid_at, laid_in, AreSlots}

pub no_slots : (limit : ℕ) → AreSlots limit [] []
no_slots limit = record {
  few = omega arith;
  whole = omega arith;
  short = λ k below. absurd (omega (arith, below));
  frames = λ k below. absurd (omega (arith, below));
}

pub as_many : (limit : ℕ) (lengths bytes : List ℕ) → length (laid_in limit lengths bytes) ≡ length lengths
unfolding laid_in
as_many limit lengths bytes = length-map-range_with_len (laid_at limit lengths bytes) 0 (length lengths)

-- by what is seen of the slots
pub count_is : (limit : ℕ) (lengths bytes : List ℕ) (kept : KeptFrames) → record { frames = laid_in limit lengths bytes; limit = limit } ≡ kept → length lengths ≡ length kept.frames
count_is limit lengths bytes kept view = sym (as_many limit lengths bytes) ∙ ap (λ (f : KeptFrames). length f.frames) view

pub limit_is : (limit : ℕ) (lengths bytes : List ℕ) (kept : KeptFrames) → record { frames = laid_in limit lengths bytes; limit = limit } ≡ kept → limit ≡ kept.limit
limit_is limit lengths bytes kept view = ap (λ (f : KeptFrames). f.limit) view

pub get_laid : (limit : ℕ) (lengths bytes : List ℕ) (k : ℕ) (d : List ℕ) → k < length lengths → get_or (laid_in limit lengths bytes) k d ≡ laid_at limit lengths bytes k
unfolding laid_in
get_laid limit lengths bytes k d below = get_or-map-range_with_len (laid_at limit lengths bytes) 0 (length lengths) k k d below (omega arith)

-- a slot ends where the next begins
ends : (limit k n : ℕ) → k < n → k * limit + limit ≤ n * limit
ends limit k n before = let up : (k + 1) * limit ≤ n * limit = mul-le (k + 1) limit n limit (omega (arith, before)) (omega arith) in omega (arith, up)

-- and so its frame lies inside the bytes
pub inside : (limit : ℕ) (lengths bytes : List ℕ) (k : ℕ) → AreSlots limit lengths bytes → k < length lengths → k * limit + get_or lengths k 0 ≤ length bytes
inside limit lengths bytes k are below = omega (arith, are.whole, are.short k below, ends limit k (length lengths) below)

-- and so does each that is not longer
pub fits_there : (limit : ℕ) (lengths bytes : List ℕ) (k n : ℕ) → AreSlots limit lengths bytes → k < length lengths → n ≤ limit → k * limit + n ≤ length bytes
fits_there limit lengths bytes k n are below short = omega (arith, are.whole, short, ends limit k (length lengths) below)

-- how long the frame in a slot is
pub long_is : (lengths : List ℕ) (slot at n : ℕ) → slot < length lengths → at ≡ slot → n ≡ get_or lengths at n → n ≡ get_or lengths slot 0
long_is lengths slot at n below same is = is ∙ ap (λ (k : ℕ). get_or lengths k n) same ∙ get_or_default lengths slot n 0 below

-- there is room for a whole slot more
pub room : (limit : ℕ) (lengths bytes : List ℕ) → AreSlots limit lengths bytes → length lengths < 1024 → length bytes + limit ≤ 1024 * limit
room limit lengths bytes are few = omega (arith, are.whole, ends limit (length lengths) 1024 few)

-- a frame that is not too long
pub fits : (limit : ℕ) (frame : List ℕ) → IsFrame frame → length frame ≤ limit → is_frame limit frame ≡ true
fits limit frame is short = at (is_tagged frame) refl
  where
    at : (tagged : Bool) → is_tagged frame ≡ tagged → is_frame limit frame ≡ true
    at true e = grind (arith, nat_tests, e, short, is.least, is.tagged e)
    at false e = grind (arith, nat_tests, e, short, is.least)

-- ---- one slot more

first_bytes : (bytes more : List ℕ) (start end : ℕ) → take (length bytes) more ≡ bytes → end ≤ length bytes → slice_range more start end ≡ slice_range bytes start end
first_bytes bytes more start end same within = same_lists _ _ (grind (arith, places, same)) (λ k d h. grind (arith, places, same))

-- the frames are those that were there, and this one
more_at : (limit : ℕ) (lengths bytes more frame : List ℕ) (n k : ℕ) → AreSlots limit lengths bytes → n ≡ length frame → take (length bytes) more ≡ bytes
    → slice_range more (length bytes) (length bytes + length frame) ≡ frame → k < length lengths + 1
    → laid_at limit (lengths ++ n ∷ []) more k ≡ get_or (laid_in limit lengths bytes ++ frame ∷ []) k []
more_at limit lengths bytes more frame n k are is before last below = at (nat_lt k (length lengths)) refl
  where
    at : (old : Bool) → nat_lt k (length lengths) ≡ old → laid_at limit (lengths ++ n ∷ []) more k ≡ get_or (laid_in limit lengths bytes ++ frame ∷ []) k []
    at true e =
        let low : k < length lengths = grind (arith, nat_tests, e) in
        let same : get_or (lengths ++ n ∷ []) k 0 ≡ get_or lengths k 0 = grind (arith, places, low) in
        rw same (first_bytes bytes more (k * limit) (k * limit + get_or lengths k 0) before (inside limit lengths bytes k are low)
        ∙ sym (get_laid limit lengths bytes k [] low) ∙ grind (arith, places, low, as_many limit lengths bytes))
    at false e =
        let high : k ≡ length lengths = grind (arith, nat_tests, e, below) in
        let there : get_or (lengths ++ n ∷ []) k 0 ≡ length frame = grind (arith, places, high, is) in
        let start : k * limit ≡ length bytes = ap (λ (j : ℕ). j * limit) high ∙ sym are.whole in
        (λ i. slice_range more (start i) (start i + there i)) ∙ last ∙ grind (arith, places, high, as_many limit lengths bytes)

pub one_more : (limit : ℕ) (lengths bytes more frame : List ℕ) (n : ℕ) → AreSlots limit lengths bytes → n ≡ length frame → take (length bytes) more ≡ bytes
    → slice_range more (length bytes) (length bytes + length frame) ≡ frame → laid_in limit (lengths ++ n ∷ []) more ≡ laid_in limit lengths bytes ++ frame ∷ []
one_more limit lengths bytes more frame n are is before last =
    same_lists _ _ (grind (arith, places, as_many))
    (λ k d h. grind (arith, places, as_many, get_laid limit (lengths ++ n ∷ []) more k d, more_at limit lengths bytes more frame n k are is before last))

pub slots_more : (limit : ℕ) (lengths bytes more frame : List ℕ) (n : ℕ) → AreSlots limit lengths bytes → length lengths < 1024 → n ≡ length frame → is_frame limit frame ≡ true → take (length bytes) more ≡ bytes
    → slice_range more (length bytes) (length bytes + length frame) ≡ frame → length more ≡ length bytes + limit → AreSlots limit (lengths ++ n ∷ []) more
slots_more limit lengths bytes more frame n are few is whole before last long = record {
  few = grind (arith, places, few);
  whole =
      let more_by_one : length more ≡ (length lengths + 1) * limit = omega (arith, long, are.whole) in
      more_by_one ∙ ap (λ (m : ℕ). m * limit) (sym (length-append lengths (n ∷ [])));
  short = λ k below. grind (arith, places, nat_tests, is, whole, are.short k);
  frames = λ k below. ap (is_frame limit) (more_at limit lengths bytes more frame n k are is before last (grind (arith, places, below)))
      ∙ grind (arith, places, nat_tests, as_many, get_laid limit lengths bytes k [], are.frames k, whole);
}

-- ---- a frame in place of another

set_at : (limit : ℕ) (lengths bytes frame : List ℕ) (slot n k : ℕ) → AreSlots limit lengths bytes → slot < length lengths → n ≡ length frame → n ≤ limit → k < length lengths
    → laid_at limit (slice_set lengths slot n) (overwrite (slot * limit) frame bytes) k ≡ get_or (slice_set (laid_in limit lengths bytes) slot frame) k []
set_at limit lengths bytes frame slot n k are there is short below = at (nat_lt k slot) (nat_lt slot k) refl refl
  where
    within : slot * limit + n ≤ length bytes
    within = fits_there limit lengths bytes slot n are there short

    same_length : (n : ℕ) → (nat_lt k slot ≡ true) ⊎ (nat_lt slot k ≡ true) → get_or (slice_set lengths slot n) k 0 ≡ get_or lengths k 0
    same_length n (inl before) = grind (arith, places, nat_tests, get_or-set_at, before)
    same_length n (inr after) = grind (arith, places, nat_tests, get_or-set_at, after)

    same_frame : (nat_lt k slot ≡ true) ⊎ (nat_lt slot k ≡ true) → get_or (slice_set (laid_in limit lengths bytes) slot frame) k [] ≡ laid_at limit lengths bytes k
    same_frame (inl before) = grind (arith, places, nat_tests, get_or-set_at, before, as_many, get_laid limit lengths bytes k [])
    same_frame (inr after) = grind (arith, places, nat_tests, get_or-set_at, after, as_many, get_laid limit lengths bytes k [])

    at : (before after : Bool) → nat_lt k slot ≡ before → nat_lt slot k ≡ after → laid_at limit (slice_set lengths slot n) (overwrite (slot * limit) frame bytes) k ≡ get_or (slice_set (laid_in limit lengths bytes) slot frame) k []
    at true after e f =
        let low : k < slot = grind (arith, nat_tests, e) in
        rw (same_length n (inl e)) (kept_apart (slot * limit) n (k * limit) (get_or lengths k 0) frame bytes (sym is) within (inr (omega (arith, ends limit k slot low, are.short k below))) ∙ sym (same_frame (inl e)))
    at false true e f =
        let high : slot < k = grind (arith, nat_tests, f) in
        rw (same_length n (inr f)) (kept_apart (slot * limit) n (k * limit) (get_or lengths k 0) frame bytes (sym is) within (inl (omega (arith, ends limit slot k high, short))) ∙ sym (same_frame (inr f)))
    at false false e f =
        let here : k ≡ slot = grind (arith, nat_tests, e, f) in
        let now : get_or (slice_set lengths slot n) k 0 ≡ n = grind (arith, places, get_or-set_at, here, there) in
        (λ i. slice_range (overwrite (slot * limit) frame bytes) (here i * limit) (here i * limit + now i))
        ∙ written_there (slot * limit) n frame bytes (sym is) within ∙ grind (arith, places, get_or-set_at, here, there, as_many)

pub one_set : (limit : ℕ) (lengths bytes frame : List ℕ) (slot n : ℕ) → AreSlots limit lengths bytes → slot < length lengths → n ≡ length frame → n ≤ limit
    → laid_in limit (slice_set lengths slot n) (overwrite (slot * limit) frame bytes) ≡ slice_set (laid_in limit lengths bytes) slot frame
one_set limit lengths bytes frame slot n are there is short =
    same_lists _ _ (grind (arith, places, length-set, as_many))
    (λ k d h. grind (arith, places, length-set, as_many, get_laid limit (slice_set lengths slot n) (overwrite (slot * limit) frame bytes) k d, set_at limit lengths bytes frame slot n k are there is short))

pub slots_set : (limit : ℕ) (lengths bytes frame : List ℕ) (slot n : ℕ) → AreSlots limit lengths bytes → slot < length lengths → n ≡ length frame → is_frame limit frame ≡ true
    → AreSlots limit (slice_set lengths slot n) (overwrite (slot * limit) frame bytes)
slots_set limit lengths bytes frame slot n are there is whole =
    let short : n ≤ limit = grind (arith, nat_tests, is, whole) in
    let within : slot * limit + n ≤ length bytes = fits_there limit lengths bytes slot n are there short in
    record {
      few = grind (arith, length-set, are.few);
      whole = size_written (slot * limit) frame bytes (omega (arith, is, within)) ∙ are.whole ∙ ap (λ (m : ℕ). m * limit) (sym (length-set lengths slot n));
      short = λ k below. grind (arith, places, get_or-set_at, length-set, short, are.short k);
      frames = λ k below. ap (is_frame limit) (set_at limit lengths bytes frame slot n k are there is short (grind (arith, length-set, below)))
          ∙ grind (arith, places, nat_tests, get_or-set_at, length-set, as_many, get_laid limit lengths bytes k [], are.frames k, whole);
    }
