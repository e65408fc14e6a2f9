-- Frames that are cut from bytes that stand behind one another.
use Rattle.std.proofs.Common.{◌≡◌, ℕ, zero, suc, ◌+◌, ◌-◌, ◌<◌, ◌≤◌, true, false, eqb, List, [], ◌∷◌, ◌++◌, length, get_or, slice_range, arith, refl, ap, sym, ◌∙◌}
use Rattle.std.proofs.lemmas.List.{get_or_default, places, same_lists}
use Rattle.std.proofs.lemmas.Bool.Decides.{nat_tests}
use Rattle.live_run.specs.Frames.{FramesState, has_room}
use Rattle.live_run.specs.Stored.{begin_of, frames_from, IsCut}

pub as_many : (start : ℕ) (ends bytes : List ℕ) → length (frames_from start ends bytes) ≡ length ends
unfolding frames_from
as_many start [] bytes = refl
as_many start (end ∷ ends) bytes = ap suc (as_many end ends bytes)

-- the frames end with the bytes or before
pub ends_inside : (start : ℕ) (ends : List ℕ) (len : ℕ) → IsCut start ends len → start ≤ len
unfolding IsCut
ends_inside start [] len cut = omega (arith, cut)
ends_inside start (end ∷ ends) len cut = omega (arith, cut.0, ends_inside end ends len cut.1)

-- bytes behind them change no frame
same_frame : (bytes more : List ℕ) (start end : ℕ) → start ≤ end → end ≤ length bytes → slice_range (bytes ++ more) start end ≡ slice_range bytes start end
same_frame bytes more start end order inside = same_lists _ _ (grind (arith, places, order, inside)) (λ k d h. grind (arith, places, order, inside, h))

last_frame : (bytes more : List ℕ) (end : ℕ) → end ≡ length bytes + length more → slice_range (bytes ++ more) (length bytes) end ≡ more
last_frame bytes more end is = same_lists _ _ (grind (arith, places, is)) (λ k d h. grind (arith, places, is, h))

-- one more
pub one_more : (start : ℕ) (ends bytes frame : List ℕ) (end : ℕ) → IsCut start ends (length bytes) → end ≡ length bytes + length frame → frames_from start (ends ++ end ∷ []) (bytes ++ frame) ≡ frames_from start ends bytes ++ frame ∷ []
unfolding frames_from IsCut
one_more start [] bytes frame end cut is = ap (λ (f : List ℕ). f ∷ []) (ap (λ (s : ℕ). slice_range (bytes ++ frame) s end) cut ∙ last_frame bytes frame end is)
one_more start (e ∷ ends) bytes frame end cut is =
    let here : slice_range (bytes ++ frame) start e ≡ slice_range bytes start e = same_frame bytes frame start e cut.0 (ends_inside e ends (length bytes) cut.1) in
    let rest : frames_from e (ends ++ end ∷ []) (bytes ++ frame) ≡ frames_from e ends bytes ++ frame ∷ [] = one_more e ends bytes frame end cut.1 is in
    (λ i. here i ∷ rest i)

pub cut_more : (start : ℕ) (ends : List ℕ) (len end : ℕ) → IsCut start ends len → len ≤ end → IsCut start (ends ++ end ∷ []) end
unfolding IsCut
cut_more start [] len end cut above = (omega (arith, cut, above), refl)
cut_more start (e ∷ ends) len end cut above = (cut.0, cut_more e ends len end cut.1 above)

-- one by its number
abbrev begins : ℕ → List ℕ → ℕ → ℕ
begins start ends zero = start
begins start ends (suc n) = get_or ends n 0

begins_at : (ends : List ℕ) (n : ℕ) → begin_of ends n ≡ begins 0 ends n
begins_at ends zero = refl
begins_at ends (suc n) =
    let not : eqb (suc n) 0 ≡ false = grind arith in
    let before : suc n - 1 ≡ n = omega arith in
    rw not (ap (λ (k : ℕ). get_or ends k 0) before)

frame_at : (start : ℕ) (ends bytes : List ℕ) (n : ℕ) → n < length ends → get_or (frames_from start ends bytes) n [] ≡ slice_range bytes (begins start ends n) (get_or ends n 0)
unfolding frames_from
frame_at start [] bytes n below = absurd (omega (arith, below))
frame_at start (end ∷ ends) bytes zero below = refl
frame_at start (end ∷ ends) bytes (suc zero) below = frame_at end ends bytes zero (omega (arith, below))
frame_at start (end ∷ ends) bytes (suc (suc n)) below = frame_at end ends bytes (suc n) (omega (arith, below))

range_inside : (start : ℕ) (ends : List ℕ) (len n : ℕ) → IsCut start ends len → n < length ends → (begins start ends n ≤ get_or ends n 0) × (get_or ends n 0 ≤ len)
unfolding IsCut
range_inside start [] len n cut below = absurd (omega (arith, below))
range_inside start (end ∷ ends) len zero cut below = (cut.0, ends_inside end ends len cut.1)
range_inside start (end ∷ ends) len (suc zero) cut below = range_inside end ends len zero cut.1 (omega (arith, below))
range_inside start (end ∷ ends) len (suc (suc n)) cut below = range_inside end ends len (suc n) cut.1 (omega (arith, below))

end_is : (ends : List ℕ) (n end : ℕ) → n < length ends → end ≡ get_or ends n end → end ≡ get_or ends n 0
end_is ends n end below is = is ∙ get_or_default ends n end 0 below

pub frame_is : (ends bytes : List ℕ) (n start end : ℕ) → n < length ends → start ≡ begin_of ends n → end ≡ get_or ends n end → slice_range bytes start end ≡ get_or (frames_from 0 ends bytes) n []
frame_is ends bytes n start end below first is =
    (λ i. slice_range bytes ((first ∙ begins_at ends n) i) (end_is ends n end below is i)) ∙ sym (frame_at 0 ends bytes n below)

pub lies_inside : (ends : List ℕ) (len n start end : ℕ) → IsCut 0 ends len → n < length ends → start ≡ begin_of ends n → end ≡ get_or ends n end → (start ≤ end) × (end ≤ len)
lies_inside ends len n start end cut below first is =
    let range = range_inside 0 ends len n cut below in
    (omega (arith, first, begins_at ends n, range.0, end_is ends n end below is), omega (arith, range.1, end_is ends n end below is))

-- what room for one more is
pub room_left : (r : FramesState) → has_room r ≡ true → (length r.frames < r.most) × (r.used + 9018 ≤ r.size)
room_left r has = (grind (arith, nat_tests, has), grind (arith, nat_tests, has))
