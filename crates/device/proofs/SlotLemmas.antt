-- Frames in slots, read by an order that has each slot once: one slot more, and the first that goes to the end.
use Rattle.std.proofs.Common.{◌≡◌, ℕ, ◌+◌, ◌-◌, ◌<◌, List, [], ◌∷◌, ◌++◌, length, get_or, drop, arith, sym, ap, refl, ◌∙◌}
use Rattle.std.proofs.lemmas.List.{places, same_lists, length-set, length-map, get_or-map, drop-append-le}
use Rattle.std.proofs.lemmas.Grind.{get_or-set_at, get_or_after_one}
use Rattle.std.proofs.lemmas.Option.{slice_get-get_or, slice_get-map, get_or_from_slice_get, slice_get_within}
use Rattle.std.specs.Prelude.{slice_get, slice_set, Some, None}
use Rattle.std.specs.Option.{option_map}
use Rattle.circular_buffer.specs.Buffer.{keep_last}
use Rattle.device.specs.Slots.{frame_in, frames_by, IsOrder}

pub length_frames : (order : List ℕ) (slots : List (List ℕ)) → length (frames_by order slots) ≡ length order
unfolding frames_by
length_frames order slots = length-map order (frame_in slots)

get_frames : (order : List ℕ) (slots : List (List ℕ)) (k : ℕ) (d : List ℕ) → k < length order → get_or (frames_by order slots) k d ≡ get_or slots (get_or order k 0) []
unfolding frames_by frame_in
get_frames order slots k d below = get_or-map (frame_in slots) order k 0 d below

-- no slot
pub no_order : IsOrder 0 []
no_order = record {
  all = refl;
  there = λ k below. absurd (omega arith);
  once = λ i j before below. absurd (omega arith);
}

-- the next slot at the end
pub order_grown : (n m : ℕ) (order : List ℕ) → IsOrder n order → m ≡ n + 1 → IsOrder m (order ++ n ∷ [])
order_grown n m order is more = record {
  all = grind (arith, places, is.all);
  there = λ k below. grind (arith, places, is.all, is.there k);
  once = λ i j before below same. grind (arith, places, is.all, is.there i, is.once i j);
}

-- the first slot at the end
pub order_turned : (n : ℕ) (order : List ℕ) (slot : ℕ) → IsOrder n order → slice_get order 0 ≡ Some slot → IsOrder n (drop 1 order ++ slot ∷ [])
order_turned n order slot is first =
    let there : 0 < length order = slice_get_within order 0 slot first in
    let oldest : get_or order 0 0 ≡ slot = get_or_from_slice_get order 0 slot 0 first in
    record {
      all = grind (arith, places, is.all);
      there = λ k below. grind (arith, places, get_or_after_one, is.all, oldest, is.there 0, is.there (1 + k));
      once = λ i j before below same. grind (arith, places, get_or_after_one, is.all, oldest, is.once (1 + i) (1 + j), is.once 0 (1 + i));
    }

-- all are kept where there is room
kept_all : (n : ℕ) (xs : List (List ℕ)) (x : List ℕ) → length xs < n → keep_last n (xs ++ x ∷ []) ≡ xs ++ x ∷ []
kept_all n xs x few =
    let none : length (xs ++ x ∷ []) - n ≡ 0 = grind (arith, places) in
    rw none refl

-- and else all but the first
kept_but_first : (n : ℕ) (xs : List (List ℕ)) (x : List ℕ) → length xs ≡ n → 0 < n → keep_last n (xs ++ x ∷ []) ≡ drop 1 xs ++ x ∷ []
kept_but_first n xs x all some =
    let one : length (xs ++ x ∷ []) - n ≡ 1 = grind (arith, places) in
    rw one (drop-append-le 1 xs (x ∷ []) (omega (arith, all)))

-- a frame more, where there is a slot
pub one_more : (slots : List (List ℕ)) (order : List ℕ) (x : List ℕ) (n : ℕ) → IsOrder n order → n ≡ length slots → n < 1024 → frames_by (order ++ n ∷ []) (slots ++ x ∷ []) ≡ keep_last 1024 (frames_by order slots ++ x ∷ [])
one_more slots order x n is long few =
    same_lists _ _ (grind (arith, places, length_frames, is.all)) (λ k d h.
    get_frames (order ++ n ∷ []) (slots ++ x ∷ []) k d (omega (arith, length_frames (order ++ n ∷ []) (slots ++ x ∷ [])))
    ∙ grind (arith, places, length_frames, get_frames order slots k d, is.all, is.there k))
    ∙ sym (kept_all 1024 (frames_by order slots) x (grind (arith, length_frames, is.all)))

-- a frame in the slot of the oldest, where all are taken
pub oldest_gone : (slots : List (List ℕ)) (order : List ℕ) (x : List ℕ) (slot : ℕ) → IsOrder (length slots) order → length slots ≡ 1024 → slice_get order 0 ≡ Some slot → frames_by (drop 1 order ++ slot ∷ []) (slice_set slots slot x) ≡ keep_last 1024 (frames_by order slots ++ x ∷ [])
oldest_gone slots order x slot is all first =
    let oldest : get_or order 0 0 ≡ slot = get_or_from_slice_get order 0 slot 0 first in
    same_lists _ _ (grind (arith, places, length_frames, is.all)) (λ k d h.
    get_frames (drop 1 order ++ slot ∷ []) (slice_set slots slot x) k d (omega (arith, length_frames (drop 1 order ++ slot ∷ []) (slice_set slots slot x)))
    ∙ grind (arith, places, length-set, get_or-set_at, get_or_after_one, length_frames, get_frames order slots (1 + k) d, is.all, oldest, is.there 0, is.once 0 (1 + k)))
    ∙ sym (kept_but_first 1024 (frames_by order slots) x (grind (arith, length_frames, is.all)) (omega arith))

-- a slot of the order is there
pub slot_there : (slots : List (List ℕ)) (order : List ℕ) (index slot : ℕ) → IsOrder (length slots) order → slice_get order index ≡ Some slot → slot < length slots
slot_there slots order index slot is found =
    let there : index < length order = slice_get_within order index slot found in
    let at : get_or order index 0 ≡ slot = get_or_from_slice_get order index slot 0 found in
    grind (arith, at, is.there index)

-- a frame, counted from the oldest
frame_of : (slots : List (List ℕ)) (order : List ℕ) (index slot : ℕ) → IsOrder (length slots) order → slice_get order index ≡ Some slot → slice_get slots slot ≡ slice_get (frames_by order slots) index
frame_of slots order index slot is found =
    let there : index < length order = slice_get_within order index slot found in
    let at : get_or order index 0 ≡ slot = get_or_from_slice_get order index slot 0 found in
    slice_get-get_or slots slot [] (grind (arith, at, is.there index))
    ∙ ap Some (grind (arith, at, get_frames))
    ∙ sym (slice_get-get_or (frames_by order slots) index [] (grind (arith, length_frames)))

pub is_frame_of : (slots : List (List ℕ)) (order : List ℕ) (index slot : ℕ) (x : List ℕ) → IsOrder (length slots) order → slice_get order index ≡ Some slot → x ≡ get_or slots slot [] → Some x ≡ slice_get (frames_by order slots) index
is_frame_of slots order index slot x is found same =
    ap Some same ∙ sym (slice_get-get_or slots slot [] (slot_there slots order index slot is found)) ∙ frame_of slots order index slot is found

-- past the newest there is none
pub none_past : (slots : List (List ℕ)) (order : List ℕ) (index : ℕ) → slice_get order index ≡ None → slice_get (frames_by order slots) index ≡ None
unfolding frames_by
none_past slots order index none = slice_get-map (frame_in slots) order index ∙ ap (option_map (frame_in slots)) none
